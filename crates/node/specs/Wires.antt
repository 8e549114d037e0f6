-- What goes over a wire, as bytes. Assumes nothing.
use Rattle.std.specs.Prelude.{ℕ, zero, suc, cond, List, [], ◌∷◌, ◌++◌, length, ◌==◌}
use Rattle.std.specs.List.{flat_map}
use Rattle.octets.specs.Writes.{octets}
use Rattle.wordframes.specs.Writing.{bytes_of_road}
use Rattle.outbox.specs.Parcels.{parcel_bytes, sealed}
use Rattle.linkmodel.specs.Station.{Frame, Greets, Item, Out, Shows, Sight, Tells}

-- the roads of a word to the boxes below k, each with its cost, in rising order
unfoldable pub roads_of : (ℕ → ℕ) → ℕ → List (ℕ × ℕ)
roads_of f zero = []
roads_of f (suc k) = roads_of f k ++ cond (f k == 0) [] ((k, f k) ∷ [])

-- a word: the box, the count, the tag, how many roads, and each of them
abbrev pub item_bytes : Item → List ℕ
item_bytes x = (x.about ∷ (octets 8 x.entry.number ++ octets 8 x.entry.tag)) ++ (length (roads_of x.entry.road 64) ∷ flat_map bytes_of_road (roads_of x.entry.road 64))

abbrev pub sight_bytes : Sight → List ℕ
sight_bytes x = x.about ∷ (octets 8 x.number ++ octets 8 x.tag)

-- a frame: its kind, and what it holds
abbrev pub frame_bytes : Frame → List ℕ
frame_bytes (Greets h) = 1 ∷ h.from ∷ (octets 8 h.drawn ++ octets 8 h.heard)
frame_bytes (Tells p) = 2 ∷ (octets 8 p.drawn ++ (length p.items ∷ flat_map item_bytes p.items))
frame_bytes (Shows p) = 3 ∷ (octets 8 p.drawn ++ (length p.items ∷ flat_map sight_bytes p.items))

-- a frame that goes out, as a parcel: with its sum behind it
abbrev pub out_bytes : Out → List ℕ
out_bytes o = parcel_bytes o.on (sealed (frame_bytes o.frame))
