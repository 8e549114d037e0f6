-- One box by itself: its state, and what each call does to it. Assumes nothing.
use Rattle.std.specs.Prelude.{◌≡◌, ℕ, zero, suc, ◌<◌, Bool, false, cond, not, ◌&&◌, ◌||◌, List, [], ◌∷◌, ◌++◌, ◌==◌, nat_lt}
use Rattle.model.specs.Map.{Map, Hop, hop}
use Rattle.model.specs.Words.{Entry, Word, Ev, Road, Says, Sends, newer, unsaid, world}
use Rattle.model.specs.Forward.{cost_by}
use Rattle.model.specs.Promise.{all_below}
use Rattle.model.specs.Code.{pick}
use Rattle.model.specs.Flood.{row}

-- n boxes, of which this is number me. cost e: what its road to e costs from here, 0 if it holds none open. word i: the newest word that it was told of i. shown e i: neighbour e has shown that it has the same word of i
pub record Box : Type 0 where
  pub n : ℕ
  pub me : ℕ
  pub cost : ℕ → ℕ
  pub word : ℕ → Entry
  pub shown : ℕ → ℕ → Bool

-- this state is that of box me after these events
pub record Stands (s : Box) (es : List Ev) : Type 0 where
  pub is_one : s.me < s.n
  pub real : (e : ℕ) → (world s.n es).real s.me e ≡ s.cost e
  pub knows : (i : ℕ) → (world s.n es).knows s.me i ≡ s.word i

-- switched on: no road is open and nothing is known
abbrev pub begun : ℕ → ℕ → Box
begun n me = record { n = n; me = me; cost = λ e. 0; word = λ i. unsaid; shown = λ e i. false }

abbrev pub is_open : ℕ → Box → Bool
is_open e s = nat_lt 0 (s.cost e)

-- the road to e opens, closes (c is 0) or changes its cost; what e has shown stays only if the road was open and still is
abbrev pub road_is : ℕ → ℕ → Box → Box
road_is e c s = record { n = s.n; me = s.me; cost = cond (nat_lt e s.n && not (s.me == e)) (row e c s.cost) s.cost; word = s.word; shown = row e (λ i. nat_lt 0 (s.cost e) && (nat_lt 0 c && s.shown e i)) s.shown }

-- it has this word of i from now on, which nobody has shown yet
abbrev pub has : ℕ → Entry → Box → Box
has i x s = record { n = s.n; me = s.me; cost = s.cost; word = row i x s.word; shown = λ e j. not (j == i) && s.shown e j }

-- what it says of its roads now, above a number
abbrev pub own_word : ℕ → ℕ → Box → Entry
own_word number t s = record { number = suc number; tag = t; road = s.cost }

-- it says a new word of itself
abbrev pub says_now : ℕ → Box → Box
says_now t s = has s.me (own_word (s.word s.me).number t s) s

-- what is new to it of a word that it is told over an open road
abbrev pub is_new_to : Word → Box → Bool
is_new_to x s = is_open x.from s && newer x.entry (s.word x.about)

-- a word comes: if it is newer it is taken; but about itself the box says anew, above it
abbrev pub takes : Word → ℕ → Box → Box
takes x t s = cond (is_new_to x s) (has x.about (cond (s.me == x.about) (own_word x.entry.number t s) x.entry) s) s

-- e shows that it has the word of i with this number and tag: marked if the road to it is open and the box has just that word
abbrev pub sees : ℕ → ℕ → ℕ → ℕ → Box → Box
sees e i number t s = record { n = s.n; me = s.me; cost = s.cost; word = s.word; shown = λ f j. s.shown f j || (f == e && (j == i && (is_open e s && (number == (s.word i).number && t == (s.word i).tag)))) }

-- a word that comes is taken if it is newer, and shows that who told it has it
abbrev pub hears : Word → ℕ → Box → Box
hears x t s = sees x.from x.about x.entry.number x.entry.tag (takes x t s)

-- all that it knew is gone
abbrev pub forgets : Box → Box
forgets s = record { n = s.n; me = s.me; cost = s.cost; word = λ i. unsaid; shown = λ e i. false }

-- it falls: its roads close, and then all is gone
abbrev pub fallen : Box → Box
fallen s = begun s.n s.me

-- its open roads close, those to the boxes below k, in rising order (the latest event first)
unfoldable pub closings : Box → ℕ → List Ev
closings s zero = []
closings s (suc k) = cond (is_open k s) (Road s.me k 0 ∷ closings s k) (closings s k)

-- what it tells e of i
abbrev pub word_for : ℕ → ℕ → Box → Word
word_for e i s = record { from = s.me; to = e; about = i; entry = s.word i }

-- its map of the net, and the next box towards d
abbrev pub map_in : Box → Map
map_in s = record { n = s.n; cost = cost_by s.word }

abbrev pub hop_in : ℕ → Box → Hop
hop_in d s = hop (map_in s) d s.me

-- what it has said of itself is so; who has no road need have said nothing
abbrev pub own_so : Box → Bool
own_so s = all_below s.n (λ x. ((s.word s.me).road x == s.cost x) && (s.cost x == 0 || nat_lt 0 (s.word s.me).number))

abbrev pub must_say : Box → Bool
must_say s = not (own_so s)

-- what it tells e: at most 4, rising, that e hasn't shown
abbrev pub tells : ℕ → Box → List ℕ
tells e s = pick s.n 4 (λ i. nat_lt 0 (s.word i).number && not (s.shown e i)) 0

-- at a tick it first says a word if it must
abbrev pub ticked : ℕ → Box → Box
ticked t s = cond (must_say s) (says_now t s) s

abbrev pub tick_says : ℕ → Box → List Ev
tick_says t s = cond (must_say s) (Says s.me t ∷ []) []

-- then it sends each of these to e, in their order (the latest event first)
unfoldable pub sendings : ℕ → ℕ → List ℕ → List Ev
sendings me e [] = []
sendings me e (i ∷ is) = sendings me e is ++ (Sends me e i ∷ [])

-- and that for each open road, in rising order: the roads to the boxes below k
unfoldable pub tellings : Box → ℕ → List Ev
tellings s zero = []
tellings s (suc k) = cond (is_open k s) (sendings s.me k (tells k s)) [] ++ tellings s k
