-- What a database and a table stand for in the model. Assumes nothing.
use Rattle.std.specs.Prelude.{◌≡◌, ℕ, ◌≤◌, cond, [], Some, None, Option, nat_lt, slice_index, slice_index_or}
use Rattle.messages.specs.Values.{at}
use Rattle.model.specs.Forward.{cost_by}
use Rattle.model.specs.Map.{Map, Far, Never, At, Hop, Nowhere, To, far, hop}
use Rattle.model.specs.Words.{Entry}
use Rattle.ways.specs.Numbers.{far_of as farBy, hop_of as hopBy}
use Rattle.ways.specs.Table.{Found}
use Rattle.database.specs.declared.table.RoutingTable.{RoutingTable}
use Rattle.database.specs.declared.words.Database.{Database}

-- the word of each box
abbrev pub words_in : Database → ℕ → Entry
words_in d = λ i. record { number = at d.counts i; tag = at d.tags i; road = at (slice_index_or d.costs i []) }

-- the map of n boxes by the words
abbrev pub map_in : ℕ → Database → Map
map_in n d = record { n = n; cost = cost_by (words_in d) }

-- what the road from a to e costs by the words of both, 0 for none
abbrev pub road_in : (a e : ℕ) → Database → ℕ
road_in a e d = cost_by (words_in d) a e

-- a distance as the model has it
abbrev pub far_of : Option ℕ → Far
far_of None = Never
far_of (Some c) = At c

-- a next box as the model has it
abbrev pub hop_of : Option ℕ → Hop
hop_of None = Nowhere
hop_of (Some e) = To e

-- how far box d is by a table; never for a number of 64 or more
abbrev pub distance_in : ℕ → RoutingTable → Far
distance_in d t = cond (nat_lt d 64) (farBy (slice_index t.far d)) Never

-- the next box towards d by a table; nowhere for a number of 64 or more
abbrev pub next_in : ℕ → RoutingTable → Hop
next_in d t = cond (nat_lt d 64) (hopBy (slice_index t.next d)) Nowhere

-- a distance that is the map's, if the table is that of a map of at most 64 boxes; never for a number of no box
abbrev pub FarBy : ℕ → RoutingTable → Far → Type 0
FarBy d t f = (z : Map) (me : ℕ) → z.n ≤ 64 → ∥ Found z me t.far t.next ∥₁ → f ≡ cond (nat_lt d z.n) (far z d me) Never

-- and so for a next box
abbrev pub NextBy : ℕ → RoutingTable → Hop → Type 0
NextBy d t h = (z : Map) (me : ℕ) → z.n ≤ 64 → ∥ Found z me t.far t.next ∥₁ → h ≡ cond (nat_lt d z.n) (hop z d me) Nowhere

-- a table with no way to anybody
abbrev pub NoWay : RoutingTable → Type 0
NoWay t = (d : ℕ) → (distance_in d t ≡ Never) × (next_in d t ≡ Nowhere)
