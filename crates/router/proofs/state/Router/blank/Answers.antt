-- Arrays of zeros are the state of a box that was just switched on.
use Rattle.std.proofs.Common.{ℕ, refl, ap, ◌∙◌}
use Rattle.bits.specs.Bits.{bit}
use Rattle.bits.proofs.OfBits.{bit_none}
use Rattle.messages.proofs.Zeros.{at_zeros}
use Rattle.router.proofs.SameBox.{same_box}
use Rattle.router.proofs.state.Router.blank.Goals as goal

pub returns : goal.returns
returns c =
    same_box refl refl (at_zeros 64) c.new.ensures
    (λ e i. ap (λ (x : ℕ). bit x i) (at_zeros 64 e) ∙ bit_none i)
