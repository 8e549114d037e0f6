-- The sum so far, with the words that are left, is the plain sum; and a word adds less than 65536.
use Rattle.std.proofs.Common.{◌≡◌, ◌+◌, ◌*◌, ◌≤◌, drop}
use Rattle.checksum.specs.Internet.{total}
use Rattle.checksum.proofs.internet.plain_sum.Given as goal

abbrev pub invariant-loop-word : goal.invariant-loop-word
invariant-loop-word l = (l.sum ≤ 65535 * l.word-index) × (l.sum + total (drop (2 * l.word-index) l.piece) ≡ total l.piece)
