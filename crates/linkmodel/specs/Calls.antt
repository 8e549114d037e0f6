-- Which events of the model each thing that a whole box does is. Each promise is a type; a proof of the type is the theorem. Assumes nothing.
use Rattle.std.specs.Prelude.{◌≡◌, ℕ, ◌<◌, Bool, true, false, cond, not, ◌&&◌, T, List, [], ◌∷◌, ◌++◌, length, ◌==◌, nat_lt}
use Rattle.model.specs.Words.{Word, Ev, Says, Falls, is_in, world}
use Rattle.model.specs.Code.{nth_is}
use Rattle.model.specs.Box.{Box, Stands, must_say, sendings, tellings}
use Rattle.model.specs.Boxes.{words_to, words_out}
use Rattle.linkmodel.specs.Links.{Hello, road_cost, passes, hears_hello, rewired, fell, relinks}
use Rattle.linkmodel.specs.Relinked.{Sound, relinked}
use Rattle.linkmodel.specs.Station.{Station, Item, Bundle, Seens, told_word, can_say, is_stuck, takes_item, marks_item, takings, heard_words, heard_seens, heard_hello, has_costs, falls, ticks}

-- wires and words of one box: the roads are those that the wires hold open
pub record Joined (s : Station) : Type 0 where
  pub sound : Sound s.links
  pub count : s.links.n ≡ s.box.n
  pub number : s.links.me ≡ s.box.me
  pub roads : (e : ℕ) → s.box.cost e ≡ road_cost e s.links

-- a box that stands after es, and does these events
abbrev pub Does : Station → List Ev → List Ev → Station → Type 0
Does s es fs r = Joined s → Stands s.box es → Joined r × Stands r.box (fs ++ es)

-- A hello and new costs open, close and change roads; a fall closes them all first.
abbrev pub HelloSo : Type 0
HelloSo = (s : Station) (es : List Ev) (w : ℕ) (h : Hello) → Does s es (relinks s.links (hears_hello w h s.links) s.box.n) (heard_hello w h s)

abbrev pub CostsSo : Type 0
CostsSo = (s : Station) (es : List Ev) (c : ℕ → ℕ) → Does s es (relinks s.links (rewired c s.links) s.box.n) (has_costs c s)

abbrev pub FallsSo : Type 0
FallsSo = (s : Station) (es : List Ev) (d : ℕ) → Does s es (Falls s.box.me ∷ relinks s.links (fell d s.links) s.box.n) (falls d s)

-- the box of a tick before it says anything, and what it says
abbrev pub expired : Station → Box
expired s = relinked s.links (passes s.links) s.box

abbrev pub saying : ℕ → Box → List Ev
saying t b = cond (must_say b && can_say (b.word b.me).number) (Says b.me t ∷ []) []

-- A tick drops old roads and says a word if one is owed; telling sends what neighbours haven't shown, and just these words are then on their way.
abbrev pub TicksSo : Type 0
TicksSo =
    (s : Station) (es : List Ev) (t : ℕ) → is_in t (world s.box.n es).drawn ≡ false →
    Does s es (saying t (expired s) ++ relinks s.links (passes s.links) s.box.n) (ticks t s)

abbrev pub TellsSo : Type 0
TellsSo =
    (s : Station) (es : List Ev) → Does s es (tellings s.box s.box.n) s ×
    (Stands s.box es → (world s.box.n (tellings s.box s.box.n ++ es)).flight ≡ words_out s.box s.box.n ++ (world s.box.n es).flight)

-- these places hold the words of a packet of e
unfoldable pub are_sent : List ℕ → ℕ → ℕ → List Item → List Word → Type 0
are_sent [] e me [] fl = Unit {0}
are_sent [] e me (x ∷ xs) fl = ⊥
are_sent (k ∷ ks) e me [] fl = ⊥
are_sent (k ∷ ks) e me (x ∷ xs) fl = nth_is k (told_word e me x) fl × are_sent ks e me xs fl

-- it never has to say a count that it cannot
unfoldable pub none_stuck : Bool → ℕ → List Item → List ℕ → Box → Bool
none_stuck fits e [] ts b = true
none_stuck fits e (x ∷ xs) [] b = true
none_stuck fits e (x ∷ xs) (t ∷ ts) b = not (is_stuck (told_word e b.me x) b) && none_stuck fits e xs ts (marks_item fits e x (takes_item e x t b))

-- no tag of these was drawn before, nor twice
unfoldable pub all_fresh : List ℕ → List ℕ → Bool
all_fresh [] old = true
all_fresh (t ∷ ts) old = not (is_in t old) && (not (is_in t ts) && all_fresh ts old)

-- A packet of words is the coming of each, in their order, wherever it is among all words sent; then the newer ones that it has are sent.
abbrev pub WordsSo : Type 0
WordsSo =
    (s : Station) (es : List Ev) (e : ℕ) (p : Bundle) (ks ts : List ℕ) → 0 < road_cost e s.links → are_sent ks e s.box.me p.items (world s.box.n es).flight →
    length ts ≡ length p.items → T (all_fresh ts (world s.box.n es).drawn) → T (none_stuck (p.drawn == s.links.last e) e p.items ts s.box) →
    Does s es (takings ks ts) (heard_words e p ts s)

-- whom these words are about
unfoldable pub abouts : List Item → List ℕ
abouts [] = []
abouts (x ∷ xs) = x.about ∷ abouts xs

-- all of them are below n
unfoldable pub all_under : ℕ → List ℕ → Bool
all_under n [] = true
all_under n (i ∷ is) = nat_lt i n && all_under n is

abbrev pub AnswersSo : Type 0
AnswersSo =
    (s : Station) (es : List Ev) (e : ℕ) (xs : List Item) → e < s.box.n → 0 < road_cost e s.links → T (all_under s.box.n (abouts xs)) →
    Does s es (sendings s.box.me e (abouts xs)) s ×
    (Joined s → Stands s.box es → (world s.box.n (sendings s.box.me e (abouts xs) ++ es)).flight ≡ words_to s.box e (abouts xs) ++ (world s.box.n es).flight)

-- A packet of seens is no event.
abbrev pub SeensSo : Type 0
SeensSo = (s : Station) (es : List Ev) (e : ℕ) (p : Seens) → Does s es [] (heard_seens e p s)
