-- A box whose words and numbers fit into frames stays so over each thing that it does.
use Rattle.std.proofs.Common.{◌≡◌, ℕ, zero, suc, ◌+◌, ◌^◌, ◌<◌, Bool, true, false, cond, not, ◌&&◌, eqb, ltb, List, [], ◌∷◌, sym, refl, ◌∙◌, subst, arith, ltb-true, eqb-true}
use borrow.Author.Tests.{eqb-false}
use Rattle.model.specs.Words.{Entry, Word}
use Rattle.model.specs.Box.{Box, begun, has, own_word, says_now, is_new_to, takes, sees, forgets, must_say}
use Rattle.model.proofs.Tests.{of_cond}
use Rattle.linkmodel.proofs.Bools.{true_not_false, and_left, and_right}
use Rattle.linkmodel.specs.Links.{Wire, Silent, Heard, Open, Hello, Links, wires, holds_for, heard_on, road_cost, fresh, passes, hears_hello, rewired, fell, aged, closed_to, greeted}
use Rattle.linkmodel.specs.Hellos.{Passes, Hears, Rewires, Fell, accepts}
use Rattle.linkmodel.specs.Relinked.{Sound, relinked}
use Rattle.linkmodel.specs.Station.{Item, Sight, told_word, can_say, is_stuck, takes_item, marks_item, takes_all, sees_all, says_if_owed}
use Rattle.linkmodel.proofs.Sounds.{sound_fresh, sound_meets, meets_same}
use Rattle.netmodel.specs.Net.{all_small, small_costs}
use Rattle.netmodel.specs.Fits.{ItemFits, Each, IsDrawn}
use Rattle.netmodel.proofs.FewRoads.{RoadsFit, roads_fit, no_roads_fit}

-- the wires of box a of n
pub record LinksFit (n a : ℕ) (s : Links) : Type 0 where
  pub sound : Sound s
  pub count : s.n ≡ n
  pub number : s.me ≡ a
  pub drawn : IsDrawn s.drawn
  pub heard : (w : ℕ) → heard_on (s.wire w) < 2 ^ 64
  pub costs : (w : ℕ) → w < wires → s.cost w < 2 ^ 16

-- its roads
links_roads : (n a : ℕ) (s : Links) → LinksFit n a s → RoadsFit n a (λ e. road_cost e s)
links_roads n a s k = subst (λ (m : ℕ). RoadsFit m a (λ e. road_cost e s)) k.count (subst (λ (m : ℕ). RoadsFit s.n m (λ e. road_cost e s)) k.number (roads_fit s k.sound k.costs))

-- switched on
pub links_fresh : (n a d : ℕ) → IsDrawn d → LinksFit n a (fresh n a d)
links_fresh n a d k = record { sound = sound_fresh n a d; count = refl; number = refl; drawn = k; heard = λ w. omega arith; costs = λ w l. omega arith }

-- a number that is forgotten is 0
aged_heard : (now : ℕ) (x : Wire) → heard_on x < 2 ^ 64 → heard_on (aged now x) < 2 ^ 64
aged_heard now Silent h = h
aged_heard now (Heard f d t) h = of_cond (λ (y : Wire). heard_on y < 2 ^ 64) (ltb (t + holds_for) now) Silent (Heard f d t) (λ _. omega arith) (λ _. h)
aged_heard now (Open f d t) h = of_cond (λ (y : Wire). heard_on y < 2 ^ 64) (ltb (t + holds_for) now) Silent (Open f d t) (λ _. omega arith) (λ _. h)

closed_heard : (e : ℕ) (x : Wire) → heard_on x < 2 ^ 64 → heard_on (closed_to e x) < 2 ^ 64
closed_heard e Silent h = h
closed_heard e (Heard f d t) h = h
closed_heard e (Open f d t) h = of_cond (λ (y : Wire). heard_on y < 2 ^ 64) (eqb f e) (Heard f d t) (Open f d t) (λ _. h) (λ _. h)

-- a tick passes
pub links_passes : (n a : ℕ) (s : Links) → LinksFit n a s → LinksFit n a (passes s)
links_passes n a s k = record {
  sound = sound_meets Passes s k.sound;
  count = k.count;
  number = k.number;
  drawn = k.drawn;
  heard = λ w. aged_heard (suc s.tick) (s.wire w) (k.heard w);
  costs = k.costs;
}

-- a hello comes with a number that fits
links_greeted : (n a w : ℕ) (h : Hello) (s : Links) → h.drawn < 2 ^ 64 → LinksFit n a s → (v : ℕ) → heard_on ((greeted w h s).wire v) < 2 ^ 64
links_greeted n a w h s d k v =
    of_cond (λ (y : Wire). heard_on y < 2 ^ 64) (eqb v w)
    (cond (eqb h.heard s.drawn) (Open h.from h.drawn s.tick) (Heard h.from h.drawn s.tick))
    (cond (eqb (s.last h.from) h.drawn) (s.wire v) (closed_to h.from (s.wire v)))
    (λ _. of_cond (λ (y : Wire). heard_on y < 2 ^ 64) (eqb h.heard s.drawn) (Open h.from h.drawn s.tick) (Heard h.from h.drawn s.tick) (λ _. d) (λ _. d))
    (λ _. of_cond (λ (y : Wire). heard_on y < 2 ^ 64) (eqb (s.last h.from) h.drawn) (s.wire v) (closed_to h.from (s.wire v)) (λ _. k.heard v) (λ _. closed_heard h.from (s.wire v) (k.heard v)))

pub links_hears : (n a w : ℕ) (h : Hello) (s : Links) → h.drawn < 2 ^ 64 → LinksFit n a s → LinksFit n a (hears_hello w h s)
links_hears n a w h s d k = record {
  sound = sound_meets (Hears w h) s k.sound;
  count = (meets_same (Hears w h) s).0 ∙ k.count;
  number = (meets_same (Hears w h) s).1 ∙ k.number;
  drawn = of_cond (λ (y : Links). IsDrawn y.drawn) (accepts w h s) (greeted w h s) s (λ _. k.drawn) (λ _. k.drawn);
  heard = λ v. of_cond (λ (y : Links). heard_on (y.wire v) < 2 ^ 64) (accepts w h s) (greeted w h s) s (λ _. links_greeted n a w h s d k v) (λ _. k.heard v);
  costs = λ v l. of_cond (λ (y : Links). y.cost v < 2 ^ 16) (accepts w h s) (greeted w h s) s (λ _. k.costs v l) (λ _. k.costs v l);
}

-- each cost of these is small
each_small : (c : ℕ → ℕ) (m : ℕ) → small_costs c m ≡ true → (w : ℕ) → w < m → c w < 2 ^ 16
unfolding small_costs
each_small c zero h w l = absurd (omega arith)
each_small c (suc m) h w l = go (eqb w m) refl (λ k. each_small c m (and_left (small_costs c m) (ltb (c m) (2 ^ 16)) h) w k)
  where
    go : (b : Bool) → eqb w m ≡ b → (w < m → c w < 2 ^ 16) → c w < 2 ^ 16
    go true z ih = subst (λ (v : ℕ). c v < 2 ^ 16) (sym (eqb-true w m z)) (ltb-true (c m) (2 ^ 16) (and_right (small_costs c m) (ltb (c m) (2 ^ 16)) h))
    go false z ih = ih (let y : w ≡ m → ⊥ = eqb-false w m z in omega arith)

-- new costs
pub links_rewired : (n a : ℕ) (c : ℕ → ℕ) (s : Links) → small_costs c wires ≡ true → LinksFit n a s → LinksFit n a (rewired c s)
links_rewired n a c s h k = record {
  sound = sound_meets (Rewires c) s k.sound;
  count = k.count;
  number = k.number;
  drawn = k.drawn;
  heard = λ w. of_cond (λ (y : Wire). heard_on y < 2 ^ 64) (eqb (c w) 0) Silent (s.wire w) (λ _. omega arith) (λ _. k.heard w);
  costs = each_small c wires h;
}

-- a fall, with a new number
pub links_fell : (n a d : ℕ) (s : Links) → IsDrawn d → LinksFit n a s → LinksFit n a (fell d s)
links_fell n a d s h k = record {
  sound = sound_meets (Fell d) s k.sound;
  count = k.count;
  number = k.number;
  drawn = h;
  heard = λ w. omega arith;
  costs = k.costs;
}

-- the roads and words of box a of n
pub record BoxFits (n a : ℕ) (b : Box) : Type 0 where
  pub count : b.n ≡ n
  pub number : b.me ≡ a
  pub roads : RoadsFit n a b.cost
  pub words : (i : ℕ) → 0 < (b.word i).number → ItemFits n (record { about = i; entry = b.word i })

-- at first nothing was said
pub box_begun : (n a : ℕ) → BoxFits n a (begun n a)
box_begun n a = record { count = refl; number = refl; roads = no_roads_fit n a; words = λ i h. absurd (omega arith) }

-- its wires changed
pub box_relinked : (n a : ℕ) (before after : Links) (b : Box) → LinksFit n a after → BoxFits n a b → BoxFits n a (relinked before after b)
box_relinked n a before after b l k = record { count = k.count; number = k.number; roads = links_roads n a after l; words = k.words }

-- all is gone
pub box_forgets : (n a : ℕ) (b : Box) → BoxFits n a b → BoxFits n a (forgets b)
box_forgets n a b k = record { count = k.count; number = k.number; roads = k.roads; words = λ i h. absurd (omega arith) }

-- another word of one box
box_has : (n a i : ℕ) (x : Entry) (b : Box) → (0 < x.number → ItemFits n (record { about = i; entry = x })) → BoxFits n a b → BoxFits n a (has i x b)
box_has n a i x b f k = record {
  count = k.count;
  number = k.number;
  roads = k.roads;
  words = λ j. of_cond (λ (y : Entry). 0 < y.number → ItemFits n (record { about = j; entry = y })) (eqb j i) x (b.word j)
      (λ e h. subst (λ (z : ℕ). ItemFits n (record { about = z; entry = x })) (sym (eqb-true j i e)) (f h)) (λ _. k.words j);
}

-- something is seen
box_sees : (n a e i c t : ℕ) (b : Box) → BoxFits n a b → BoxFits n a (sees e i c t b)
box_sees n a e i c t b k = record { count = k.count; number = k.number; roads = k.roads; words = k.words }

-- what it says of itself
own_fits : (n a number t : ℕ) (b : Box) → a < n → suc number < 2 ^ 63 → t < 2 ^ 64 → BoxFits n a b → ItemFits n (record { about = a; entry = own_word number t b })
own_fits n a number t b l c m k = record {
  box = l;
  some_count = omega arith;
  count = c;
  tag = m;
  few = k.roads.few;
  below = k.roads.below;
  other = k.roads.other;
  costs = k.roads.costs;
}

-- it says a word if it must and can
pub box_owed : (n a t : ℕ) (b : Box) → a < n → t < 2 ^ 64 → BoxFits n a b → BoxFits n a (says_if_owed t b)
box_owed n a t b l m k =
    of_cond (BoxFits n a) (must_say b && can_say (b.word b.me).number) (says_now t b) b
    (λ e. box_has n a b.me (own_word (b.word b.me).number t b) b
    (λ _. subst (λ (z : ℕ). ItemFits n (record { about = z; entry = own_word (b.word b.me).number t b })) (sym k.number)
    (own_fits n a (b.word b.me).number t b l (ltb-true (suc (b.word b.me).number) (2 ^ 63) (and_right (must_say b) (can_say (b.word b.me).number) e)) m k)) k)
    (λ _. k)

-- what isn't stuck can say a count above a word that is new to it
unstuck : (p q r : Bool) → (p && (q && not r)) ≡ false → p ≡ true → q ≡ true → r ≡ true
unstuck true true true e f g = refl
unstuck true true false e f g = true_not_false true refl e
unstuck true false r e f g = true_not_false false g refl
unstuck false q r e f g = true_not_false false f refl

-- one word of a packet
box_takes_item : (n a e : ℕ) (x : Item) (t : ℕ) (b : Box) → a < n → t < 2 ^ 64 → ItemFits n x → BoxFits n a b → BoxFits n a (takes_item e x t b)
box_takes_item n a e x t b l m o k =
    let w : Word = told_word e b.me x in
    of_cond (BoxFits n a) (is_stuck w b) b (takes w t b) (λ _. k)
    (λ z. of_cond (BoxFits n a) (is_new_to w b) (has x.about (cond (eqb b.me x.about) (own_word x.entry.number t b) x.entry) b) b
    (λ y. box_has n a x.about (cond (eqb b.me x.about) (own_word x.entry.number t b) x.entry) b
    (of_cond (λ (u : Entry). 0 < u.number → ItemFits n (record { about = x.about; entry = u })) (eqb b.me x.about) (own_word x.entry.number t b) x.entry
    (λ q _. subst (λ (v : ℕ). ItemFits n (record { about = v; entry = own_word x.entry.number t b })) (sym k.number ∙ eqb-true b.me x.about q)
    (own_fits n a x.entry.number t b l (ltb-true (suc x.entry.number) (2 ^ 63) (unstuck (eqb b.me x.about) (is_new_to w b) (can_say x.entry.number) z q y)) m k))
    (λ _ _. o)) k)
    (λ _. k))

-- a packet of words that fits, with tags that fit
pub box_takes_all : (n a : ℕ) (fits : Bool) (e : ℕ) (xs : List Item) (ts : List ℕ) (b : Box) → a < n → all_small ts ≡ true → Each (ItemFits n) xs → BoxFits n a b → BoxFits n a (takes_all fits e xs ts b)
unfolding takes_all all_small Each
box_takes_all n a fits e [] ts b l m o k = k
box_takes_all n a fits e (x ∷ xs) [] b l m o k = k
box_takes_all n a fits e (x ∷ xs) (t ∷ ts) b l m o k =
    let c : BoxFits n a (takes_item e x t b) = box_takes_item n a e x t b l (ltb-true t (2 ^ 64) (and_left (ltb t (2 ^ 64)) (all_small ts) m)) o.0 k in
    box_takes_all n a fits e xs ts (marks_item fits e x (takes_item e x t b)) l (and_right (ltb t (2 ^ 64)) (all_small ts) m) o.1
    (of_cond (BoxFits n a) fits (sees e x.about x.entry.number x.entry.tag (takes_item e x t b)) (takes_item e x t b)
    (λ _. box_sees n a e x.about x.entry.number x.entry.tag (takes_item e x t b) c) (λ _. c))

-- a packet of seens
pub box_sees_all : (n a e : ℕ) (xs : List Sight) (b : Box) → BoxFits n a b → BoxFits n a (sees_all e xs b)
unfolding sees_all
box_sees_all n a e [] b k = k
box_sees_all n a e (x ∷ xs) b k = box_sees_all n a e xs (sees e x.about x.number x.tag b) (box_sees n a e x.about x.number x.tag b k)
