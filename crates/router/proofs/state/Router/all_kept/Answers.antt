-- Each is made for its own box.
use Rattle.std.proofs.Common.{◌≡◌, ℕ, rules}
use Rattle.bits.specs.Bits.{bit}
use Rattle.messages.specs.Values.{at}
use Rattle.messages.proofs.Arrays.{made_at}
use Rattle.router.specs.State.{box_of, still_shown}
use Rattle.router.proofs.state.Router.all_kept.Goals as goal

pub returns : goal.returns
returns c e h = made_at _ (λ (d y : ℕ). (i : ℕ) → bit y i ≡ still_shown (at c.args.costs) (bit c.args.anew) (box_of c.args.self) d i) _ (λ d y q k. (λ i. search (rules, k.met), search rules)) _ _ e 0 c.from_fn.ensures.items h
