-- A place below 64 is a power of two, and another is in no number of 64 bits.
use Rattle.std.proofs.Common.{ℕ, not, ◌&&◌, ap, ◌∙◌}
use Rattle.std.proofs.lemmas.Nat.{one_shl}
use Rattle.bits.specs.Bits.{bit}
use Rattle.bits.proofs.OfBits.{bit_power}
use Rattle.bits.proofs.Changes.{bit_not_less}
use Rattle.bits.proofs.without_bit.Goals as goal

pub returns-then-i-lt64 : goal.returns-then-i-lt64
returns-then-i-lt64 c =
    λ j. c.without.ensures j ∙ ap (λ (y : ℕ). bit c.args.x j && not (bit y j)) (one_shl c.args.i 64 c.if-i-lt64.true) ∙ ap (λ b. bit c.args.x j && not b) (bit_power c.args.i j)

pub returns-else-i-lt64 : goal.returns-else-i-lt64
returns-else-i-lt64 c = λ j. bit_not_less 64 c.args.x c.args.i j c.ranges.x.fits c.if-i-lt64.false
