-- Whatever calls come, the journal tells the truth. Each promise is a type; a proof of the type is the theorem. Assumes nothing.
use Rattle.std.specs.Prelude.{ℕ, ◌<◌, List, [], ◌∷◌, ◌++◌}
use Rattle.linkmodel.specs.Station.{Station as Whole}
use Rattle.truth.specs.Book.{book_in}
use Rattle.truth.specs.Truth.{Keeps, Recalls, Tells, known_in}

-- a call: the box that it leaves, and what it gives out
pub record Call : Type 0 where
  pub leaves : Whole
  pub given : List ℕ

-- calls one after the other, from this box on
unfoldable pub Run : Whole → List Call → Type 0
Run s [] = Unit {0}
Run s (c ∷ cs) = Keeps s c.leaves c.given × Run c.leaves cs

-- the box after them
unfoldable pub left_by : Whole → List Call → Whole
left_by s [] = s
left_by s (c ∷ cs) = left_by c.leaves cs

-- and the lines of their journal
unfoldable pub book_of : List Call → List ℕ
book_of [] = []
book_of (c ∷ cs) = book_in c.given ++ book_of cs

-- A journal that told of a box tells of it after any calls.
abbrev pub StaysTrue : Type 0
StaysTrue = (s : Whole) (cs : List Call) (book : List ℕ) → Run s cs → Tells book s → Tells (book ++ book_of cs) (left_by s cs)

-- What a box knew when a tick had passed, before the next call at a later tick, is told by its journal up to that tick ever after.
abbrev pub StaysRecalled : Type 0
StaysRecalled =
    (s : Whole) (c : Call) (cs : List Call) (book : List ℕ) → Run s (c ∷ cs) → Tells book s → s.links.tick < c.leaves.links.tick →
    Recalls s.links.tick (book ++ book_of (c ∷ cs)) (known_in s)
