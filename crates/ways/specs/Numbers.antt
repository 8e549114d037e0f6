-- What the numbers in the lent slices stand for, and the map that the words of a box make. Assumes nothing.
use Rattle.std.specs.Prelude.{ℕ, cond, List, [], ◌==◌, nat_lt, slice_index, slice_index_or}
use Rattle.model.specs.Map.{Map, Far, Never, At, Hop, Nowhere, To}
use Rattle.model.specs.Words.{Entry}
use Rattle.model.specs.Forward.{cost_by}

-- a distance: the largest number of 32 bits is "never"
abbrev pub far_of : ℕ → Far
far_of k = cond (k == 4294967295) Never (At k)

-- a next box: 255 is "none"
abbrev pub hop_of : ℕ → Hop
hop_of k = cond (k == 255) Nowhere (To k)

-- the word of box i
abbrev pub entry_at : List ℕ → List ℕ → List (List ℕ) → ℕ → Entry
entry_at counts tags costs i = record { number = slice_index counts i; tag = slice_index tags i; road = λ e. slice_index (slice_index_or costs i []) e }

-- the map of n boxes by their words
abbrev pub map_by : ℕ → List ℕ → List ℕ → List (List ℕ) → Map
map_by n counts tags costs = record { n = n; cost = cost_by (entry_at counts tags costs) }

-- what the road from a to e costs, by the costs alone, 0 if there is none
abbrev pub road_by : List (List ℕ) → ℕ → ℕ → ℕ
road_by costs a e = cond (nat_lt 0 (slice_index (slice_index_or costs e []) a)) (slice_index (slice_index_or costs a []) e) 0

-- the map by the costs alone
abbrev pub map_on : ℕ → List (List ℕ) → Map
map_on n costs = record { n = n; cost = road_by costs }
