-- What is so of every journal. Assumes nothing.
use Rattle.std.specs.Prelude.{◌≡◌, ℕ, ◌+◌, ◌<◌, ◌≤◌, List, [], ◌∷◌, ◌++◌, length}
use Rattle.std.specs.List.{flat_map}
use Rattle.frames.specs.declared.values.Line.{Line}
use Rattle.frames.specs.Ranges.{LineInRange}
use Rattle.frames.specs.Writing.{bytes_of_line}
use Rattle.journal.specs.Replay.{Known, noted, up_to, whole, replay, replayed}

-- a line more is noted
abbrev pub Grows : Type 0
Grows =
    (until : ℕ) (bytes : List ℕ) (k : Known) (l : Line) → replay until bytes ≡ whole k → LineInRange k.n l → l.tick ≤ until → replay until (bytes ++ bytes_of_line l) ≡ whole (noted l.what k)

-- a line of a later tick, and whatever comes after it, changes nothing of what was
abbrev pub Stops : Type 0
Stops =
    (until : ℕ) (bytes : List ℕ) (k : Known) (l : Line) → replay until bytes ≡ whole k → LineInRange k.n l → until < l.tick → (more : List ℕ)
    → replay until (bytes ++ (bytes_of_line l ++ more)) ≡ up_to (bytes_of_line l ++ more) k

-- what is known after some lines
abbrev pub noted_all : List Line → Known → Known
noted_all [] k = k
noted_all (l ∷ ls) k = noted_all ls (noted l.what k)

-- each line can be written where it stands, and none is of a later tick
abbrev pub InTurn : (until : ℕ) → List Line → Known → Type 0
InTurn until [] k = Unit {0}
InTurn until (l ∷ ls) k = LineInRange k.n l × (l.tick ≤ until) × InTurn until ls (noted l.what k)

-- some lines more are noted, in their order
abbrev pub GrowsByAll : Type 0
GrowsByAll = (until : ℕ) (bytes : List ℕ) (k : Known) (ls : List Line) → replay until bytes ≡ whole k → InTurn until ls k → replay until (bytes ++ flat_map bytes_of_line ls) ≡ whole (noted_all ls k)

-- to read more lines than there are bytes would find no other: a journal is read to its end
abbrev pub Enough : Type 0
Enough = (until : ℕ) (bytes : List ℕ) (k : Known) (more : ℕ) → replayed until (length bytes + more) bytes k ≡ replayed until (length bytes) bytes k
