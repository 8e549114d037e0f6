-- Nothing is shown over a road that was closed, or is now.
use Rattle.std.proofs.Common.{◌&&◌, ltb, sym, ap, ◌∙◌, le-ltb}
use mathlib.Core.Bool.{and-false}
use Rattle.bits.proofs.OfBits.{bit_none}
use Rattle.model.specs.Box.{is_open}
use Rattle.router.specs.State.{box_of}
use Rattle.router.proofs.state.Router.still_shown.Goals as goal
use Rattle.router.proofs.state.Router.still_shown.Goals.{else-cost-gt0-via-then-cost-gt0+else-is_open, else-cost-gt0-via-else-cost-gt0}

pub returns-else-cost-gt0 : goal.returns-else-cost-gt0
returns-else-cost-gt0 c i =
    let s = box_of c.args.self in
    let e = c.args.to in
    let cost = c.args.cost in
    elim c.else-cost-gt0.branch [
      | else-cost-gt0-via-then-cost-gt0+else-is_open w ↦ bit_none i ∙ sym (ap (λ b. b && (ltb 0 cost && s.shown e i)) (sym w.if-is_open.ensures))
      | else-cost-gt0-via-else-cost-gt0 w ↦ bit_none i ∙ sym (ap (λ b. is_open e s && (b && s.shown e i)) (le-ltb 0 cost w.if-cost-gt0.false) ∙ and-false (is_open e s))
    ]
