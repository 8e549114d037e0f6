-- What a list of bytes is read as: a value, or the fault of the first group of bytes that is wrong.
-- Assumes nothing.
use Rattle.std.specs.Prelude.{ℕ, ◌+◌, ◌-◌, Bool, not, ◌&&◌, List, ◌++◌, length, replicate, ◌==◌, nat_le, slice_set}
use Rattle.std.specs.List.{list_all}
use Rattle.octets.specs.declared.Fault.TheVariants.{Form, Range, Count}
use Rattle.octets.specs.Reads.{Read, ◌>>=◌, ◌>>◌, give, unless, byte, number, below, positive, many, times, end}
use Rattle.messages.specs.declared.values.Packet.{Packet}
use Rattle.messages.specs.declared.values.Word.{Word}
use Rattle.messages.specs.declared.values.WordId.{WordId}
use Rattle.messages.specs.Packets.{Seens}
use Rattle.messages.specs.Packets.{Words}
pub use Rattle.messages.specs.Values.{low_count}

-- how many follow: 1 to 4
abbrev pub how_many : Read ℕ
how_many = do
  k ← byte
  unless Form (nat_le 1 k && nat_le k 4)
  give k

-- a word's numbers
abbrev pub id_in : ℕ → Read WordId
id_in n = do
  about ← below n
  count ← positive 8
  tag ← number 8
  give (record { about = about; count = count; tag = tag })

abbrev pub blank_id : WordId
blank_id = record { about = 0; count = 0; tag = 0 }

-- four, with blanks after those there are
abbrev pub padded : {A : Type 0} → A → List A → List A
padded blank xs = xs ++ replicate (4 - length xs) blank

-- so many of a kind, and blanks after them
abbrev pub four_in : {A : Type 0} → Read A → A → ℕ → Read (List A)
four_in p blank count = do
  xs ← many count p
  give (padded blank xs)

abbrev pub ids_in : ℕ → ℕ → Read (List WordId)
ids_in n count = do
  ids ← many count (id_in n)
  give (padded blank_id ids)

-- the test holds of each
abbrev pub each : {A : Type 0} → (A → Bool) → List A → Bool
each test xs = list_all test xs

-- one to four of a kind with a drawn number, after their kind and to the end; a count that is too large is the fault only of a frame that is whole
abbrev pub batch_in : {A B : Type 0} → Read A → A → (A → Bool) → (ℕ → ℕ → List A → B) → Read B
batch_in p blank low make = do
  drawn ← positive 8
  count ← how_many
  items ← four_in p blank count
  end
  unless Count (each low items)
  give (make drawn count items)

abbrev pub packet : {A : Type 0} → ℕ → ℕ → List A → Packet A
packet drawn count items = record { drawn = drawn; count = count; items = items }

-- what was seen, after its kind and to the end; a count that is too large is the fault only of a frame that is whole
abbrev pub seens_in : ℕ → Read Seens
seens_in n = do
  drawn ← positive 8
  count ← how_many
  items ← ids_in n count
  end
  unless Count (each low_count items)
  give (record { drawn = drawn; count = count; items = items })

-- a road: to a box below n and at the lowest to `from`, not to the box itself, at a cost other than 0
abbrev pub road_in : ℕ → ℕ → ℕ → Read (ℕ × ℕ)
road_in n about from = do
  to ← below n
  unless Range (nat_le from to && not (to == about))
  cost ← positive 2
  give (to, cost)

-- one road more onto the costs so far: the next goes further
abbrev pub road_onto : ℕ → ℕ → ℕ × List ℕ → Read (ℕ × List ℕ)
road_onto n about so = do
  road ← road_in n about so.0
  give (road.0 + 1, slice_set so.1 road.0 road.1)

-- so many roads, as what the road to each of 64 boxes costs, 0 for none
abbrev pub roads_in : ℕ → ℕ → ℕ → Read (List ℕ)
roads_in n about k = do
  so ← times k (road_onto n about) (0, replicate 64 0)
  give so.1

abbrev pub word_in : ℕ → Read Word
word_in n = do
  id ← id_in n
  roads ← byte
  unless Range (nat_le roads 8)
  costs ← roads_in n id.about roads
  give (record { id = id; costs = costs })

abbrev pub blank_word : Word
blank_word = record { id = blank_id; costs = replicate 64 0 }

abbrev pub word_items_in : ℕ → ℕ → Read (List Word)
word_items_in n count = do
  items ← many count (word_in n)
  give (padded blank_word items)

abbrev pub low_word : Word → Bool
low_word w = low_count w.id

-- words, after their kind and to the end
abbrev pub words_in : ℕ → Read Words
words_in n = do
  drawn ← positive 8
  count ← how_many
  items ← word_items_in n count
  end
  unless Count (each low_word items)
  give (record { drawn = drawn; count = count; items = items })
