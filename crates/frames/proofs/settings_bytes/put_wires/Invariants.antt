use Rattle.std.proofs.Common.{◌≡◌, ◌+◌, ◌*◌, take}
use Rattle.octets.proofs.Puts.{Written}
use Rattle.frames.specs.Writing.{bytes_of_wires}
use Rattle.frames.proofs.settings_bytes.put_wires.Given as goal

-- the first so many are written
abbrev pub invariant-loop-cost : goal.invariant-loop-cost
invariant-loop-cost l = Written l.at (bytes_of_wires (take l.cost-index l.cost-items)) l.initial.out l.out l.next × (l.next ≡ l.at + 2 * l.cost-index)
