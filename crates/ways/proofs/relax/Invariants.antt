-- The boxes below e were offered the way over v, the others are as they were.
use Rattle.std.proofs.Common.{ℕ, ◌<◌, ◌≤◌}
use Rattle.ways.specs.Turns.{After, Same}
use Rattle.ways.proofs.relax.Given as goal

abbrev pub invariant-loop-e : goal.invariant-loop-e
invariant-loop-e l =
    ((k : ℕ) → k < l.e → After l.costs l.v l.best l.first l.initial.edge l.initial.next l.edge l.next k) ×
    ((k : ℕ) → l.e ≤ k → Same l.initial.edge l.initial.next l.edge l.next k)
