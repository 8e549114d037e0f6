-- The boxes below e have their roads from me, the others are as they were.
use Rattle.std.proofs.Common.{ℕ, ◌<◌, ◌≤◌}
use Rattle.ways.specs.Turns.{Begun, Same}
use Rattle.ways.proofs.begin.Given as goal

abbrev pub invariant-loop-e : goal.invariant-loop-e
invariant-loop-e l =
    ((k : ℕ) → k < l.e → Begun l.costs l.me l.initial.edge l.initial.next l.edge l.next k) ×
    ((k : ℕ) → l.e ≤ k → Same l.initial.edge l.initial.next l.edge l.next k)
