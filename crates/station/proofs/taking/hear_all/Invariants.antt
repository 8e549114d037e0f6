-- Those below k are heard.
use Rattle.std.proofs.Common.{◌≤◌, length}
use Rattle.router.specs.State.{box_of}
use Rattle.station.proofs.TakingWords.{HeardTo}
use Rattle.station.proofs.taking.hear_all.Given as goal

abbrev pub invariant-loop-k : goal.invariant-loop-k
invariant-loop-k l = HeardTo l.fits l.from l.told l.tags (box_of l.initial.next) l.k (box_of l.next) l.outcomes × (length l.told ≤ 4)
