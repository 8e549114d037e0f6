use Rattle.std.proofs.Common.{take}
use Rattle.std.specs.List.{flat_map}
use Rattle.octets.proofs.Puts.{Written}
use Rattle.wordframes.proofs.batch.put_all.Given as goal

-- the first so many are written
abbrev pub invariant-loop-item : goal.invariant-loop-item
invariant-loop-item g l = Written l.at (flat_map g.T.Item.bytes (take l.item-index l.items)) l.initial.out l.out l.next
