-- The bit at i of x, and none where i is 64 or more.
use Rattle.std.proofs.Common.{ℕ, ◌/◌, ◌^◌, eqb, sym, ap, ◌∙◌, le-ltb}
use lib.Bits.{and_mask}
use Rattle.bits.specs.Bits.{bit}
use Rattle.bits.proofs.OfBits.{bit_past}
use Rattle.bits.proofs.has_bit.Goals as goal

pub returns-then-i-lt64 : goal.returns-then-i-lt64
unfolding bit
returns-then-i-lt64 c = ap (λ (y : ℕ). eqb y 1) (and_mask (c.args.x / 2 ^ c.args.i) 1)

pub returns-else-i-lt64 : goal.returns-else-i-lt64
returns-else-i-lt64 c =
    le-ltb c.args.i 64 c.if-i-lt64.false ∙ sym (bit_past 64 c.args.x c.args.i c.ranges.x.fits c.if-i-lt64.false)
