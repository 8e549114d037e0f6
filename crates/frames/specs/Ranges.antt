-- Which values are in range, where there are n boxes: those that a frame, settings or a journal line can hold. Assumes nothing.
use Rattle.std.specs.Prelude.{◌≡◌, ℕ, ◌^◌, ◌<◌, ◌≤◌, List, ◌∷◌, ◌++◌, length, take, Some, None, Ok, Err, Option, Result, slice_index}
use Rattle.octets.specs.declared.Fault.{Fault}
use Rattle.messages.specs.declared.values.Hello.{Hello}
use Rattle.messages.specs.declared.values.Settings.{Settings}
use Rattle.frames.specs.declared.values.Entry.{Entry}
use Rattle.frames.specs.declared.values.Entry.TheVariants.{Began, Said, Taken, Refused}
use Rattle.frames.specs.declared.values.Frame.{Frame}
use Rattle.frames.specs.declared.values.Line.{Line}
use Rattle.frames.specs.Reading.{Told, a_hello, some_words, some_seen, a_packet, frame_in, line_in, settings_in, told_by, value_in}
use Rattle.wordframes.specs.Writing.{bytes_of_seens, bytes_of_words}
use Rattle.frames.specs.Writing.{bytes_of_hello, bytes_of_line, bytes_of_settings}
use Rattle.wordframes.specs.Ranges.{SeensInRange, WordInRange, WordsInRange}

pub record HelloInRange (n : ℕ) (h : Hello) : Type 0 where
  pub box : h.from < n
  pub some_drawn : 0 < h.drawn
  pub drawn : h.drawn < 2 ^ 64
  pub heard : h.heard < 2 ^ 64

-- each wire's cost may be 0, for no wire
pub record SettingsInRange (s : Settings) : Type 0 where
  pub some : 1 ≤ s.boxes
  pub few : s.boxes ≤ 64
  pub me : s.me < s.boxes
  pub wires : length s.costs ≡ 8
  pub costs : (i : ℕ) → i < 8 → slice_index s.costs i < 2 ^ 16

-- any packet is in range
abbrev pub InRange : ℕ → Told → Type 0
InRange n (a_hello h) = HelloInRange n h
InRange n (some_words w) = WordsInRange n w
InRange n (some_seen s) = SeensInRange n s
InRange n (a_packet bytes) = Unit {0}

abbrev pub bytes_of_frame : Told → List ℕ
bytes_of_frame (a_hello h) = bytes_of_hello h
bytes_of_frame (some_words w) = bytes_of_words w
bytes_of_frame (some_seen s) = bytes_of_seens s
bytes_of_frame (a_packet bytes) = 4 ∷ bytes

-- what was read is in range, and the bytes are those that are written for it
abbrev pub OnlyFrame : ℕ → List ℕ → Result Frame Fault → Type 0
OnlyFrame n bytes (Ok f) = (bytes ≡ bytes_of_frame (told_by f)) × InRange n (told_by f)
OnlyFrame n bytes (Err e) = Unit {0}

abbrev pub OnlySettings : List ℕ → Result Settings Fault → Type 0
OnlySettings bytes (Ok s) = (bytes ≡ bytes_of_settings s) × SettingsInRange s
OnlySettings bytes (Err e) = Unit {0}

-- what was written reads as the frame again, if it is in range
abbrev pub FrameAgain : Told → Option ℕ → List ℕ → Type 0
FrameAgain f (Some k) after = (n : ℕ) → n ≤ 64 → InRange n f → frame_in n (take k after) ≡ Ok f
FrameAgain f None after = Unit {0}

abbrev pub SettingsAgain : Settings → Option ℕ → List ℕ → Type 0
SettingsAgain s (Some k) after = SettingsInRange s → value_in (settings_in (take k after)) ≡ Ok s
SettingsAgain s None after = Unit {0}

abbrev pub EntryInRange : ℕ → Entry → Type 0
EntryInRange n (Began boxes me) = (1 ≤ boxes) × (boxes ≤ 64) × (me < boxes)
EntryInRange n (Said w) = WordInRange n w
EntryInRange n (Taken w) = WordInRange n w
EntryInRange n (Refused number) = number < 2 ^ 8

pub record LineInRange (n : ℕ) (l : Line) : Type 0 where
  pub tick : l.tick < 2 ^ 32
  pub entry : EntryInRange n l.what

-- a line that was read is in range, and the bytes in front are those that are written for it
abbrev pub OnlyLine : ℕ → List ℕ → Result (Line × ℕ) Fault → Type 0
OnlyLine n bytes (Ok t) = (take t.1 bytes ≡ bytes_of_line t.0) × LineInRange n t.0
OnlyLine n bytes (Err e) = Unit {0}

-- what was written reads as the line again, whatever comes after it, and leaves that
abbrev pub LineAgain : Line → Option ℕ → List ℕ → Type 0
LineAgain l (Some k) after = (n : ℕ) → n ≤ 64 → LineInRange n l → (rest : List ℕ) → line_in n (take k after ++ rest) ≡ Ok (l, rest)
LineAgain l None after = Unit {0}
