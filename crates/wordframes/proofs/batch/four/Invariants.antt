use Rattle.std.proofs.Common.{◌≡◌, take, Ok}
use Rattle.octets.specs.Reads.{many}
use Rattle.wordframes.proofs.batch.four.Given as goal

-- so many are read
abbrev pub invariant-loop-item : goal.invariant-loop-item
invariant-loop-item g l = many l.item-index (g.T.Item.reads l.n) l.initial.reader.left.now ≡ Ok (take l.item-index l.item-items, l.reader.left.now)
