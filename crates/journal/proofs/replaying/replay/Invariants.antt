-- What is still to be read gives the rest.
use Rattle.std.proofs.Common.{◌-◌, length}
use Rattle.journal.specs.State.{known_by}
use Rattle.journal.proofs.Going.{Going}
use Rattle.journal.proofs.replaying.replay.Given as goal

abbrev pub invariant-loop-long : goal.invariant-loop-long
invariant-loop-long l = Going l.until l.bytes l.place (known_by l.notes)

abbrev pub decreases-loop-long : goal.decreases-loop-long
decreases-loop-long l = length l.bytes - l.place
