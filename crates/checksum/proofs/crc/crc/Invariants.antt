-- What is left of the bytes, from here, gives the register that all of them give from the start.
use Rattle.std.proofs.Common.{◌≡◌, drop}
use Rattle.checksum.specs.Crc.{crc_from}
use Rattle.checksum.proofs.crc.crc.Given as goal

abbrev pub invariant-loop-b : goal.invariant-loop-b
invariant-loop-b l = crc_from l.c (drop l.b-index l.bytes) ≡ crc_from 0xFFFF_FFFF l.bytes
