use Rattle.std.proofs.Common.{◌≡◌, ℕ, ◌<◌, false}
use Rattle.ground.specs.Wires.{leads_to, plug_at}
use Rattle.ground.proofs.state.Ground.between.Given as goal

abbrev pub invariant-loop-wire : goal.invariant-loop-wire
invariant-loop-wire l = (v : ℕ) → v < l.wire → leads_to l.e (plug_at l.self l.a v) ≡ false
