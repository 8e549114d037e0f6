-- The journal tells the truth. Assumes nothing.
use Rattle.std.specs.Prelude.{◌≡◌, ℕ, ◌<◌, ◌≤◌, List, [], ◌++◌, None, Ok, Err, Result}
use Rattle.journal.specs.Replay.{Known, replay, whole}
use Rattle.linkmodel.specs.Station.{Station as Whole}
use Rattle.node.specs.State.{whole_of}
use Rattle.node.specs.declared.refusals.Refusal.{Refusal}
use Rattle.node.specs.declared.state.Node.{Node}
use Rattle.truth.specs.Book.{book_in}

-- how many boxes there are, which this is, and the word that it has of each
abbrev pub known_in : Whole → Known
known_in s = record { n = s.box.n; me = s.box.me; word = s.box.word }

-- replaying this journal up to now, or to a later tick, reads it whole, with no fault, and gives just what the box knows
abbrev pub Tells : List ℕ → Whole → Type 0
Tells book s = (until : ℕ) → s.links.tick ≤ until → replay until book ≡ whole (known_in s)

-- replaying it up to that tick finds no fault, and gives this, whatever lines of later ticks are behind
abbrev pub Recalls : (until : ℕ) → List ℕ → Known → Type 0
Recalls until book k = ((replay until book).known ≡ k) × ((replay until book).fault ≡ None)

-- A call that makes the box s the box r: ticks never fall; a journal that told of the box before tells of it after, with the lines that were given out behind it; and it recalls of each earlier tick what it did before.
pub record Keeps (s r : Whole) (given : List ℕ) : Type 0 where
  pub ticks : s.links.tick ≤ r.links.tick
  pub tells : (book : List ℕ) → Tells book s → Tells (book ++ book_in given) r
  pub recalls : (until : ℕ) (book : List ℕ) (k : Known) → until < r.links.tick → Tells book s → Recalls until book k → Recalls until (book ++ book_in given) k

-- the lines that are given out first tell of the box that began; where none began there is no line
abbrev pub Begins : Result Node Refusal → List ℕ → Type 0
Begins (Ok node) given = Tells (book_in given) (whole_of node)
Begins (Err r) given = given ≡ []
