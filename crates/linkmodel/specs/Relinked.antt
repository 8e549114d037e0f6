-- What the events of changed links do to a box: its roads cost then what the links say. A proof of RelinkSo is the theorem. Assumes nothing.
use Rattle.std.specs.Prelude.{◌≡◌, ℕ, ◌<◌, true, ◌&&◌, List, [], ◌∷◌, ◌++◌, ◌==◌, ◌≢◌, nat_lt}
use Rattle.model.specs.Words.{Ev, Road, Says, Sends, Comes, Falls}
use Rattle.model.specs.Box.{Box, Stands, road_is}
use Rattle.linkmodel.specs.Links.{Silent, Open, Links, road_cost, relinks}

-- a wire that isn't there is silent; a wire is open only to another box, under the last number that was heard of it
pub record Sound (s : Links) : Type 0 where
  pub silent : (w : ℕ) → s.cost w ≡ 0 → s.wire w ≡ Silent
  pub known : (w f d t : ℕ) → s.wire w ≡ Open f d t → (f < s.n) × ((f ≢ s.me) × ((s.last f ≡ d) × (0 < d)))

-- the box after its links went from before to after: its words stay, and what e has shown stays just where e's drawn number stayed and the road was open and still is
abbrev pub relinked : Links → Links → Box → Box
relinked before after b = record {
  n = b.n;
  me = b.me;
  cost = λ e. road_cost e after;
  word = b.word;
  shown = λ e i. (before.last e == after.last e) && (nat_lt 0 (road_cost e before) && (nat_lt 0 (road_cost e after) && b.shown e i));
}

-- The events of changed links lead a box from the roads of the links before to those of the links after.
abbrev pub RelinkSo : Type 0
RelinkSo =
    (before after : Links) (b : Box) (es : List Ev) → Sound before → Sound after →
    before.n ≡ b.n → before.me ≡ b.me → after.n ≡ b.n → after.me ≡ b.me → ((e : ℕ) → b.cost e ≡ road_cost e before) →
    Stands b es → Stands (relinked before after b) (relinks before after b.n ++ es)

-- what the road events of a list do to a box, one by one (the latest event first)
unfoldable pub by_roads : List Ev → Box → Box
by_roads [] b = b
by_roads (Road a e c ∷ es) b = road_is e c (by_roads es b)
by_roads (Says a t ∷ es) b = by_roads es b
by_roads (Sends a e i ∷ es) b = by_roads es b
by_roads (Comes k t ∷ es) b = by_roads es b
by_roads (Falls a ∷ es) b = by_roads es b

-- Told of these events one by one, a box becomes that box, if only neighbours to which a road is open have shown anything.
abbrev pub RelinkOneByOne : Type 0
RelinkOneByOne =
    (before after : Links) (b : Box) → Sound before → Sound after →
    before.n ≡ b.n → before.me ≡ b.me → after.n ≡ b.n → after.me ≡ b.me → ((e : ℕ) → b.cost e ≡ road_cost e before) → ((e i : ℕ) → b.shown e i ≡ true → 0 < b.cost e) →
    by_roads (relinks before after b.n) b ≡ relinked before after b
