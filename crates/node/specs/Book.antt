-- What a box notes in its journal, as bytes. Assumes nothing.
use Rattle.std.specs.Prelude.{ℕ, List, [], ◌∷◌, ◌++◌}
use Rattle.octets.specs.Writes.{octets}
use Rattle.outbox.specs.Parcels.{parcel_bytes}
use Rattle.linkmodel.specs.Station.{Item}
use Rattle.node.specs.Wires.{item_bytes}

-- the box began or fell, among n boxes as number me; it said a word; it took one; it refused something, for this number
pub data Note : Type 0 where
  Began : (n me : ℕ) → Note
  Said : (word : Item) → Note
  Taken : (word : Item) → Note
  Refused : (number : ℕ) → Note

-- each kind by its number, and what it tells
abbrev pub note_bytes : Note → List ℕ
note_bytes (Began n me) = 0 ∷ n ∷ me ∷ []
note_bytes (Said x) = 1 ∷ item_bytes x
note_bytes (Taken x) = 2 ∷ item_bytes x
note_bytes (Refused number) = 3 ∷ number ∷ []

-- a line of the journal at a tick
abbrev pub line_bytes : ℕ → Note → List ℕ
line_bytes t x = 5 ∷ (octets 4 t ++ note_bytes x)

-- and as a parcel
abbrev pub book_bytes : ℕ → Note → List ℕ
book_bytes t x = parcel_bytes 9 (line_bytes t x)
