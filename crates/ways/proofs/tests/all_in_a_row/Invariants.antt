-- The table keeps its length.
use Rattle.std.proofs.Common.{◌≡◌, length}
use Rattle.ways.proofs.tests.all_in_a_row.Given as goal

abbrev pub invariant-loop-i : goal.invariant-loop-i
invariant-loop-i g l = length l.costs ≡ 64
