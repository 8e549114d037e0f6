use Rattle.std.proofs.Common.{◌≡◌, ℕ, ◌<◌, false}
use Rattle.net.specs.Plays.{idle_at}
use Rattle.net.proofs.laying.idle_end.Given as goal

abbrev pub invariant-loop-wire : goal.invariant-loop-wire
invariant-loop-wire l = (v : ℕ) → v < l.wire → idle_at l.boxes l.ground l.a v ≡ false
