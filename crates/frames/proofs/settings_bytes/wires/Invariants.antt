use Rattle.std.proofs.Common.{◌≡◌, length, take, Ok}
use Rattle.octets.specs.Reads.{number, many}
use Rattle.frames.proofs.settings_bytes.wires.Given as goal

-- the first so many are read
abbrev pub invariant-loop-cost : goal.invariant-loop-cost
invariant-loop-cost l = (many l.cost-index (number 2) l.initial.reader.left.now ≡ Ok (take l.cost-index l.cost-items, l.reader.left.now)) × (length l.cost-items ≡ 8)
