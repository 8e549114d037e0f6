-- An entry of the table, by the table's rule.
use Rattle.std.proofs.Common.{arith}
use Rattle.checksum.proofs.Entries.{entry}
use Rattle.checksum.proofs.crc.eight_bits.Goals as goal

pub returns : goal.returns
returns c = entry c.args.byte (omega arith)
