-- Who is heard anew has shown nothing.
use Rattle.std.proofs.Common.{not, ◌&&◌, ltb, ap, ◌∙◌}
use Rattle.bits.proofs.OfBits.{bit_none}
use Rattle.model.specs.Box.{is_open}
use Rattle.router.specs.State.{box_of}
use Rattle.router.proofs.state.Router.kept_shown.Goals as goal

pub returns-then-has_bit : goal.returns-then-has_bit
returns-then-has_bit c i =
    let s = box_of c.args.self in
    let e = c.args.to in
    bit_none i ∙ ap (λ b. not b && (is_open e s && (ltb 0 c.args.cost && s.shown e i))) c.if-has_bit.ensures
