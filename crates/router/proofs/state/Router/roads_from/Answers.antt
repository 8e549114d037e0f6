-- Each is made for its own box.
use Rattle.std.proofs.Common.{◌≡◌, ℕ, ◌<◌, rules}
use Rattle.messages.specs.Values.{at}
use Rattle.messages.proofs.Arrays.{made_at}
use Rattle.router.specs.State.{box_of, road_to}
use Rattle.router.proofs.state.Router.roads_from.Goals as goal

pub returns : goal.returns
returns c e h = made_at _ (λ (d y : ℕ). d < 64 → y ≡ road_to (at c.args.links) (box_of c.args.self) d) _ (λ d y q k. search rules) _ _ e 0 c.from_fn.ensures.items h h
