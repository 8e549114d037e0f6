-- The sum so far, with the words that are left, is what all the words leave.
use Rattle.std.proofs.Common.{◌≡◌, ◌+◌, ◌^◌, ◌<◌}
use Rattle.checksum.specs.Internet.{Leaves, total}
use Rattle.checksum.proofs.internet.ones_sum.Given as goal

abbrev pub invariant-loop-piece : goal.invariant-loop-piece
invariant-loop-piece l = (l.sum < 2 ^ 17) × (l.piece-iterator.size ≡ 65536) × Leaves (total l.bytes) (l.sum + total l.piece-iterator.rest.now)
