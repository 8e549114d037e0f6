-- Two words carry at most one.
use Rattle.std.proofs.Common.{arith}
use Rattle.checksum.specs.Internet.{ones_add}
use Rattle.checksum.proofs.internet.ones_add.Goals as goal

pub returns : goal.returns
unfolding ones_add
returns c = omega arith
