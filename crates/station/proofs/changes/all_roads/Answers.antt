-- Each element is the road to its box.
use Rattle.std.proofs.Common.{◌≡◌, ℕ, rules}
use Rattle.hello.specs.State.{links_of}
use Rattle.linkmodel.specs.Links.{road_cost}
use Rattle.messages.proofs.Arrays.{made_at}
use Rattle.station.proofs.changes.all_roads.Goals as goal

pub returns : goal.returns
returns c e h = made_at _ (λ (i y : ℕ). y ≡ road_cost i (links_of c.args.links)) _ (λ i y q k. search rules) _ _ e 0 c.from_fn.ensures.items h
