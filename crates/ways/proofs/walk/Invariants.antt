-- As many boxes are gone through as turns were made, and the rest is as it should be between turns.
use Rattle.ways.proofs.Keeps.{Walking}
use Rattle.ways.proofs.walk.Given as goal

abbrev pub invariant-near : goal.invariant-near
invariant-near l = Walking l.n l.me l.costs l.dist l.edge l.next l._turn
