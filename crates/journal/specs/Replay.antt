-- What the lines of a journal say, one after the other: the words that its box had. Assumes nothing.
use Rattle.std.specs.Prelude.{ℕ, zero, suc, cond, List, [], ◌∷◌, length, Some, None, Ok, Err, Option, Result, nat_lt}
use Rattle.octets.specs.declared.Fault.{Fault}
use Rattle.messages.specs.Values.{entry_of}
use Rattle.messages.specs.declared.values.Word.{Word}
use Rattle.model.specs.Flood.{row}
use Rattle.model.specs.Words.{Entry, unsaid}
use Rattle.frames.specs.declared.values.Entry.{Entry as Note}
use Rattle.frames.specs.declared.values.Entry.TheVariants.{Began, Said, Taken, Refused}
use Rattle.frames.specs.declared.values.Line.{Line}
use Rattle.frames.specs.Reading.{line_in}

-- how many boxes there are, which this is, and the word it has of each
pub record Known : Type 0 where
  pub n : ℕ
  pub me : ℕ
  pub word : ℕ → Entry

-- a box among n that has no words
abbrev pub begun : ℕ → ℕ → Known
begun n me = record { n = n; me = me; word = λ i. unsaid }

-- before the first line: no box at all
abbrev pub nothing : Known
nothing = begun 0 0

-- from now on it has this word of the box that the word is about
abbrev pub with_word : Word → Known → Known
with_word w k = record { n = k.n; me = k.me; word = row w.id.about (entry_of w) k.word }

-- what is known after a line
abbrev pub noted : Note → Known → Known
noted (Began n me) k = begun n me
noted (Said w) k = with_word w k
noted (Taken w) k = with_word w k
noted (Refused number) k = k

-- what is known, the bytes that were not read, and what is wrong with the line at their front, if that is why
pub record Replayed : Type 0 where
  pub known : Known
  pub left : List ℕ
  pub fault : Option Fault

-- nothing wrong, and these bytes not read
abbrev pub up_to : List ℕ → Known → Replayed
up_to left k = record { known = k; left = left; fault = None }

-- all bytes read
abbrev pub whole : Known → Replayed
whole k = up_to [] k

-- by what is read as the line in front: it stops before a fault and before a line of a later tick, else notes the line and goes on
abbrev pub by_line : (until : ℕ) → List ℕ → Known → (List ℕ → Known → Replayed) → Result (Line × List ℕ) Fault → Replayed
by_line until bytes k onward (Err e) = record { known = k; left = bytes; fault = Some e }
by_line until bytes k onward (Ok t) = cond (nat_lt until t.0.tick) (up_to bytes k) (onward t.1 (noted t.0.what k))

-- reads at most so many lines, as long as there are bytes
unfoldable pub replayed : (until lines : ℕ) → List ℕ → Known → Replayed
replayed until zero bytes k = up_to bytes k
replayed until (suc lines) [] k = whole k
replayed until (suc lines) (b ∷ bs) k = by_line until (b ∷ bs) k (replayed until lines) (line_in k.n (b ∷ bs))

-- what a journal says up to a tick; it has no more lines than bytes
abbrev pub replay : (until : ℕ) → List ℕ → Replayed
replay until bytes = replayed until (length bytes) bytes nothing
