-- The known sums, which antt computes by the definition.
-- Assumes nothing.
use Rattle.std.proofs.Common.{refl}
use Rattle.checksum.specs.Crc.{crc_bit, crc_bits, crc_byte, crc_of, sum_bytes}
use Rattle.checksum.specs.Known.{KnownSums}

pub known_sums_lem : KnownSums
unfolding crc_bit crc_bits crc_byte crc_of sum_bytes
known_sums_lem = (refl, refl, refl, refl, refl)
