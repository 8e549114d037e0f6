-- The complement of y keeps what y lacks.
use Rattle.bits.proofs.Changes.{bit_less}
use Rattle.bits.proofs.without.Goals as goal

pub returns : goal.returns
returns c = λ j. bit_less 64 c.args.x c.args.y j c.ranges.x.fits c.ranges.y.fits
