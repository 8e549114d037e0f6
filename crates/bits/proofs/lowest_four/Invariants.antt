-- What is taken, and then what is left to take, is the whole answer.
use Rattle.std.proofs.Common.{◌≡◌}
use Rattle.bits.proofs.Taking.{Taking}
use Rattle.bits.proofs.lowest_four.Given as goal

abbrev pub invariant-loop-item : goal.invariant-loop-item
invariant-loop-item l = (l.count ≡ l.item-index) × Taking 64 4 l.x l.left l.item-index l.item-items
