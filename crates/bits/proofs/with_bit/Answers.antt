-- A place below 64 is added, and another is not.
use Rattle.bits.proofs.Changes.{bit_added}
use Rattle.bits.proofs.with_bit.Goals as goal

pub returns-then-i-lt64 : goal.returns-then-i-lt64
returns-then-i-lt64 c = λ j. bit_added 64 c.args.x c.args.i j c.if-i-lt64.true
