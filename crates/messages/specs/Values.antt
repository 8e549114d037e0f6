-- What the values stand for in the model, and which word is newer. Assumes nothing.
use Rattle.std.specs.Prelude.{◌^◌, Bool, ◌&&◌, ◌||◌, List, ℕ, map, eqb, ltb, get_or, nat_lt}
use Rattle.model.specs.Words.{Entry, Word as Told}
use Rattle.messages.specs.declared.values.Word.{Word}
use Rattle.messages.specs.declared.values.WordId.{WordId}

-- a list of numbers as a function, 0 past its end
abbrev pub at : List ℕ → ℕ → ℕ
at xs i = get_or xs i 0

-- a word as the model has it
abbrev pub entry_of : Word → Entry
entry_of x = record { number = x.id.count; tag = x.id.tag; road = at x.costs }

-- the word on its way from one box to another
abbrev pub told_by : ℕ → ℕ → Word → Told
told_by from to x = record { from = from; to = to; about = x.id.about; entry = entry_of x }

-- the larger count, or with equal counts the larger tag
abbrev pub newer_id : WordId → WordId → Bool
newer_id x y = ltb y.count x.count || (eqb y.count x.count && ltb y.tag x.tag)

-- the same count and tag
abbrev pub same_id : WordId → WordId → Bool
same_id x y = eqb x.count y.count && eqb x.tag y.tag

-- the count is below 2 ^ 63
abbrev pub low_count : WordId → Bool
low_count i = nat_lt i.count (2 ^ 63)

-- the numbers of words, each by each
abbrev pub ids_of : List Word → List WordId
ids_of words = map (λ x. x.id) words
