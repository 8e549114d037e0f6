-- The bytes of each value, and what a writer leaves in a buffer. Numbers have their high byte first.
-- Assumes nothing.
use Rattle.std.specs.Prelude.{ℕ, zero, suc, cond, List, [], ◌∷◌, ◌++◌, length, take, ◌==◌, slice_index}
use Rattle.std.specs.List.{flat_map}
use Rattle.octets.specs.Writes.{octets}
pub use Rattle.octets.specs.Writes.{Wrote}
use Rattle.messages.specs.declared.values.Word.{Word}
use Rattle.messages.specs.declared.values.WordId.{WordId}
use Rattle.messages.specs.Packets.{Seens}
use Rattle.messages.specs.Packets.{Words}

abbrev pub bytes_of_id : WordId → List ℕ
bytes_of_id i = i.about ∷ (octets 8 i.count ++ octets 8 i.tag)

-- the first so many
abbrev pub bytes_of_ids : List WordId → ℕ → List ℕ
bytes_of_ids items count = flat_map bytes_of_id (take count items)

-- the roads to boxes below i: those whose cost is not 0, each with its cost, in rising order
unfoldable pub roads_to : List ℕ → ℕ → List (ℕ × ℕ)
roads_to costs zero = []
roads_to costs (suc i) = roads_to costs i ++ cond (slice_index costs i == 0) [] ((i, slice_index costs i) ∷ [])

abbrev pub bytes_of_road : ℕ × ℕ → List ℕ
bytes_of_road road = road.0 ∷ octets 2 road.1

abbrev pub bytes_of_roads : List ℕ → List ℕ
bytes_of_roads costs = flat_map bytes_of_road (roads_to costs 64)

abbrev pub bytes_of_word : Word → List ℕ
bytes_of_word w = bytes_of_id w.id ++ (length (roads_to w.costs 64) ∷ bytes_of_roads w.costs)

abbrev pub bytes_of_word_items : List Word → ℕ → List ℕ
bytes_of_word_items items count = flat_map bytes_of_word (take count items)

-- the drawn number, how many, and each
abbrev pub bytes_of_row : {A : Type 0} → (A → List ℕ) → ℕ → ℕ → List A → List ℕ
bytes_of_row w drawn count items = octets 8 drawn ++ (count ∷ flat_map w items)

abbrev pub bytes_of_words : Words → List ℕ
bytes_of_words w = 2 ∷ (octets 8 w.drawn ++ (w.count ∷ bytes_of_word_items w.items w.count))

abbrev pub bytes_of_seens : Seens → List ℕ
bytes_of_seens s = 3 ∷ (octets 8 s.drawn ++ (s.count ∷ bytes_of_ids s.items s.count))
