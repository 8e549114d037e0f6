-- What writing a sum leaves behind, and the number of its one refusal.
-- Assumes nothing.
use Rattle.std.specs.Prelude.{◌≡◌, ℕ, ◌-◌, ◌<◌, ◌≤◌, List, ◌++◌, length, take, Ok, Err, Result}
use Rattle.checksum.specs.declared.crc.SumRefused.{SumRefused}
use Rattle.checksum.specs.declared.crc.SumRefused.TheVariants.{TooShort}
use Rattle.checksum.specs.Crc.{sum_bytes}

abbrev pub refusal_number : SumRefused → ℕ
refusal_number TooShort = 1

-- All but the last four bytes of a frame.
abbrev pub body_of : List ℕ → List ℕ
body_of frame = take (length frame - 4) frame

-- Written: the body as it was, and behind it its sum. Refused: there is no room for a sum, and nothing has changed.
abbrev pub SumWritten : {A : Type 0} → List ℕ → List ℕ → Result A SumRefused → Type 0
SumWritten before after (Ok _) = (4 ≤ length before) × (after ≡ body_of before ++ sum_bytes (body_of before))
SumWritten before after (Err e) = (e ≡ TooShort) × (length before < 4) × (after ≡ before)
