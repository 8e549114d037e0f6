use Rattle.std.proofs.Common.{map, take}
use Rattle.console.specs.Hex.{pair_byte}
use Rattle.octets.proofs.Puts.{Written}
use Rattle.console.proofs.hex.Hex.write.Given as goal

-- the bytes of the pairs so far stand at the front
abbrev pub invariant-loop-high : goal.invariant-loop-high
invariant-loop-high l = Written 0 (map pair_byte (take l.high-index l.pairs)) l.initial.out l.out l.at
