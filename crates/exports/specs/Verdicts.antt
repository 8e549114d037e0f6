-- Answers as numbers, and what is left in lent memory after them.
-- Assumes nothing.
use Rattle.std.specs.Prelude.{ℕ, ◌+◌, ◌-◌, Bool, true, cond, ◌&&◌, List, length, Some, None, Ok, Err, Option, Result, nat_le}
use Rattle.octets.specs.declared.Fault.{Fault}
use Rattle.octets.specs.declared.Fault.TheVariants.{Range}
use Rattle.octets.specs.Writes.{put}
use Rattle.octets.specs.Faults.{fault_number}
use Rattle.frames.specs.Reading.{Told, frame_in, line_in, settings_in, value_in}
use Rattle.frames.specs.declared.values.Line.{Line}
use Rattle.packets.specs.declared.values.Errand.{Errand}
use Rattle.packets.specs.declared.values.Errand.TheVariants.{HandOut, Echo, Onward}
use Rattle.packets.specs.declared.values.Refusal.{Refusal}
use Rattle.packets.specs.declared.values.Trouble.{Trouble}
use Rattle.packets.specs.Errands.{refusal_number}
use Rattle.packets.specs.Errors.{error_of}

-- 0 for what was read, or the number of the fault
abbrev pub verdict_of : {A : Type 0} → Result A Fault → ℕ
verdict_of (Ok _) = 0
verdict_of (Err e) = fault_number e

-- what a frame is read as; more than 64 boxes are out of range
abbrev pub frame_at : ℕ → List ℕ → Result Told Fault
frame_at n bytes = cond (nat_le n 64) (frame_in n bytes) (Err Range)

-- and the line at the front of these bytes
abbrev pub line_at : ℕ → List ℕ → Result (Line × List ℕ) Fault
line_at n bytes = cond (nat_le n 64) (line_in n bytes) (Err Range)

abbrev pub frame_verdict : ℕ → List ℕ → ℕ
frame_verdict n bytes = verdict_of (frame_at n bytes)

abbrev pub settings_verdict : List ℕ → ℕ
settings_verdict bytes = verdict_of (value_in (settings_in bytes))

-- how long the line at the front of these bytes is, or 256 and the number of the fault
abbrev pub line_length : List ℕ → Result (Line × List ℕ) Fault → ℕ
line_length bytes (Ok t) = length bytes - length t.1
line_length bytes (Err e) = 256 + fault_number e

abbrev pub line_answer : ℕ → List ℕ → ℕ
line_answer n bytes = line_length bytes (line_at n bytes)

-- a buffer with these bytes in its front, if they are to be written and fit; else as it was
abbrev pub again : Bool → List ℕ → List ℕ → List ℕ
again wanted bytes before = cond (wanted && nat_le (length bytes) (length before)) (put 0 bytes before) before

-- 0 to hand out, 1 to answer an echo, 2 and the box to send on to, or 256 and the number of the refusal
abbrev pub errand_number : Result Errand Refusal → ℕ
errand_number (Ok HandOut) = 0
errand_number (Ok Echo) = 1
errand_number (Ok (Onward to)) = 2 + to
errand_number (Err refusal) = 256 + refusal_number refusal

-- how many of these bytes are written: all, or none where they do not fit
abbrev pub fitting : List ℕ → List ℕ → ℕ
fitting bytes before = cond (nat_le (length bytes) (length before)) (length bytes) 0

-- how long the error is, or 0 where it does not fit or is none
abbrev pub length_by : Option Trouble → ℕ → List ℕ → List ℕ → ℕ
length_by (Some trouble) me p before = fitting (error_of me trouble p) before
length_by None me p before = 0

-- the buffer after it
abbrev pub left_by : Option Trouble → ℕ → List ℕ → List ℕ → List ℕ
left_by (Some trouble) me p before = again true (error_of me trouble p) before
left_by None me p before = before
