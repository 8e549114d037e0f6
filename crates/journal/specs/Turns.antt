-- What one turn of replaying does. Assumes nothing.
use Rattle.std.specs.Prelude.{◌≡◌, ℕ, suc, ◌<◌, ◌≤◌, List, length, drop, Some, None, Ok, Err, Option, Result}
use Rattle.octets.specs.declared.Fault.{Fault}
use Rattle.journal.specs.Replay.{Known, replayed, up_to}

-- from what is known before and after it: a line so long was noted, and replaying goes on behind it; no line is left, or it comes later; or a fault
abbrev pub Turned : (until : ℕ) → List ℕ → Known → Known → Result (Option ℕ) Fault → Type 0
Turned until bytes k m (Ok (Some long)) = (0 < long) × (long ≤ length bytes) × ((lines : ℕ) → replayed until (suc lines) bytes k ≡ replayed until lines (drop long bytes) m)
Turned until bytes k m (Ok None) = (m ≡ k) × ((lines : ℕ) → replayed until lines bytes k ≡ up_to bytes k)
Turned until bytes k m (Err e) = (m ≡ k) × (0 < length bytes) × ((lines : ℕ) → replayed until (suc lines) bytes k ≡ record { known = k; left = bytes; fault = Some e })
