-- What one event of the world does at one router, as a call of a box: a box that is like the router's row is still like it after the call.
use Rattle.std.proofs.Common.{◌≡◌, ℕ, zero, suc, ◌<◌, Bool, true, false, cond, not, ◌&&◌, eqb, ltb, List, [], ◌∷◌, sym, refl, ap, ◌∙◌, subst, ap₂, subst₂}
use mathlib.Core.Path.{fun_ext}
use Rattle.std.proofs.lemmas.Bool.{eqb-true, eq-eqb, ne_eqb, lt-ltb, cond-true, cond-false}
use Rattle.model.specs.Words.{Entry, Word, World, Ev, Road, Says, Sends, Comes, Falls, newer, unsaid, is_in, at2, own_entry, with_knows, says, told, comes, comes_nth, sends, step, world}
use Rattle.model.specs.Code.{of_box, nth_is}
use Rattle.model.specs.Flood.{row}
use Rattle.model.specs.Box.{Box, is_open, road_is, has, own_word, says_now, takes, sees, hears, forgets}
use Rattle.model.specs.Boxes.{StandsAs}
use Rattle.model.proofs.Tests.{of_cond, both_cond}
pub use Rattle.model.proofs.Events.{with_real}
use Rattle.model.proofs.Events.{of_comes}
pub use Rattle.model.proofs.Tables.{row_else, row_here, row_same}

-- this box is router a of n as it is in this world
pub record Like (n a : ℕ) (w : World) (s : Box) : Type 0 where
  pub size : s.n ≡ n
  pub self : s.me ≡ a
  pub real : (e : ℕ) → w.real a e ≡ s.cost e
  pub knows : (i : ℕ) → w.knows a i ≡ s.word i

pub like_of : (n a : ℕ) (s : Box) (es : List Ev) → StandsAs n a s es → Like n a (world n es) s
like_of n a s es (p, q, st) = record {
  size = p;
  self = q;
  real = λ e. subst₂ (λ (m b : ℕ). (world m es).real b e ≡ s.cost e) p q (st.real e);
  knows = λ i. subst₂ (λ (m b : ℕ). (world m es).knows b i ≡ s.word i) p q (st.knows i);
}

pub stands_of : (n a : ℕ) (s : Box) (es : List Ev) → a < n → Like n a (world n es) s → StandsAs n a s es
stands_of n a s es l k = (
  k.size,
  k.self,
  record {
    is_one = subst₂ (λ (m b : ℕ). b < m) (sym k.size) (sym k.self) l;
    real = λ e. subst₂ (λ (m b : ℕ). (world m es).real b e ≡ s.cost e) (sym k.size) (sym k.self) (k.real e);
    knows = λ i. subst₂ (λ (m b : ℕ). (world m es).knows b i ≡ s.word i) (sym k.size) (sym k.self) (k.knows i);
  },
)

-- the word that comes is the one with this number
pub nth_comes : (i t : ℕ) (x : Word) (xs : List Word) (w : World) → nth_is i x xs → comes_nth i t xs w ≡ comes x t w
unfolding comes_nth nth_is
nth_comes i t x [] w h = absurd h
nth_comes zero t x (y ∷ ys) w h = ap (λ (z : Word). comes z t w) (sym h)
nth_comes (suc i) t x (y ∷ ys) w h = nth_comes i t x ys w h

-- two tests at once, or one after the other
and_cond : {A : Type 0} (b c : Bool) (x y : A) → cond b (cond c x y) y ≡ cond (b && c) x y
and_cond true c x y = refl
and_cond false c x y = refl

-- where the second test passes
and-true : (b c : Bool) → c ≡ true → (b && c) ≡ b
and-true true c h = h
and-true false c h = refl

module _ (n a : ℕ) (l : a < n) (w : World) (m : w.n ≡ n) where
  inside : ltb a w.n ≡ true
  inside = lt-ltb a w.n (subst (λ k. a < k) (sym m) l)

  -- the same box, in a world that is the same there
  same_row : (v : World) (s : Box) → ((e : ℕ) → v.real a e ≡ w.real a e) → ((i : ℕ) → v.knows a i ≡ w.knows a i) → Like n a w s → Like n a v s
  same_row v s p q k = record { size = k.size; self = k.self; real = λ e. p e ∙ k.real e; knows = λ i. q i ∙ k.knows i }

  pub like_road : (s : Box) (e c : ℕ) → Like n a w s → Like n a (step (Road a e c) w) (road_is e c s)
  like_road s e c k = record {
    size = k.size;
    self = k.self;
    real = λ q. both_cond (λ (u : World) (f : ℕ → ℕ). u.real a q ≡ f q) (ltb a w.n && (ltb e w.n && not (eqb a e))) (ltb e s.n && not (eqb s.me e))
        (with_real (at2 a e c w.real) w) w (row e c s.cost) s.cost
        (rw (inside, m, k.size, k.self) refl)
        (λ _. row_here a e q c w.real ∙ row_same e e q c c (w.real a) s.cost refl refl (k.real q))
        (λ _. k.real q);
    knows = λ i. of_cond (λ (u : World). u.knows a i ≡ s.word i) (ltb a w.n && (ltb e w.n && not (eqb a e))) (with_real (at2 a e c w.real) w) w (λ _. k.knows i) (λ _. k.knows i);
  }

  -- what it says of its roads is the same
  own_same : (s : Box) (x y t : ℕ) → x ≡ y → Like n a w s → own_entry a x t w ≡ own_word y t s
  own_same s x y t h k = ap₂ {C = Entry} (λ (z : ℕ) (r : ℕ → ℕ). record { number = suc z; tag = t; road = r }) h (fun_ext k.real)

  -- it has something else of i
  has_same : (s : Box) (i j : ℕ) (x y : Entry) (ts : List ℕ) → i ≡ j → x ≡ y → Like n a w s → Like n a (with_knows (at2 a i x w.knows) ts w) (has j y s)
  has_same s i j x y ts p h k = record { size = k.size; self = k.self; real = k.real; knows = λ q. row_here a i q x w.knows ∙ row_same i j q x y (w.knows a) s.word p h (k.knows q) }

  pub like_says : (s : Box) (t : ℕ) → is_in t w.drawn ≡ false → Like n a w s → Like n a (step (Says a t) w) (says_now t s)
  like_says s t f k =
      subst (λ (u : World). Like n a u (says_now t s)) (sym (cond-true (ltb a w.n && not (is_in t w.drawn)) (says a t w) w (rw (inside, f) refl)))
      (has_same s a s.me (own_entry a (w.knows a a).number t w) (own_word (s.word s.me).number t s) (t ∷ []) (sym k.self)
      (own_same s (w.knows a a).number (s.word s.me).number t (ap (λ (x : Entry). x.number) (k.knows a ∙ ap s.word (sym k.self))) k) k)

  pub like_sends : (s : Box) (b e i : ℕ) → Like n a w s → Like n a (step (Sends b e i) w) s
  like_sends s b e i k = of_cond (λ (u : World). Like n a u s) (ltb b w.n && (ltb e w.n && (ltb i w.n && ltb 0 (w.real b e)))) (sends b e i w) w (λ _. same_row (sends b e i w) s (λ q. refl) (λ q. refl) k) (λ _. k)

  pub like_falls : (s : Box) → Like n a w s → Like n a (step (Falls a) w) (forgets s)
  like_falls s k =
      subst (λ (u : World). Like n a u (forgets s)) (sym (cond-true (ltb a w.n) (with_knows (λ p q. cond (eqb p a) unsaid (w.knows p q)) [] w) w inside))
      (record { size = k.size; self = k.self; real = k.real; knows = λ i. cond-true (eqb a a) unsaid (w.knows a i) (eq-eqb a a refl) })

  -- what another router does changes nothing here
  pub like_others : (s : Box) (e : Ev) → of_box a e ≡ false → ((i t : ℕ) → e ≡ Comes i t → ⊥) → Like n a w s → Like n a (step e w) s
  like_others s (Road b e c) f h k =
      of_cond (λ (u : World). Like n a u s) (ltb b w.n && (ltb e w.n && not (eqb b e))) (with_real (at2 b e c w.real) w) w
      (λ _. same_row (with_real (at2 b e c w.real) w) s (λ q. row_else b e a q c w.real f) (λ i. refl) k) (λ _. k)
  like_others s (Says b t) f h k =
      of_cond (λ (u : World). Like n a u s) (ltb b w.n && not (is_in t w.drawn)) (says b t w) w
      (λ _. same_row (says b t w) s (λ q. refl) (λ i. row_else b b a i (own_entry b (w.knows b b).number t w) w.knows f) k) (λ _. k)
  like_others s (Sends b e i) f h k = like_sends s b e i k
  like_others s (Comes i t) f h k = absurd (h i t refl)
  like_others s (Falls b) f h k =
      of_cond (λ (u : World). Like n a u s) (ltb b w.n) (with_knows (λ p q. cond (eqb p b) unsaid (w.knows p q)) [] w) w
      (λ _. same_row (with_knows (λ p q. cond (eqb p b) unsaid (w.knows p q)) [] w) s (λ q. refl) (λ i. cond-false (eqb a b) unsaid (w.knows a i) f) k) (λ _. k)

  -- a word that comes to another router
  pub like_else : (s : Box) (x : Word) (t : ℕ) → (x.to ≡ a → ⊥) → Like n a w s → Like n a (comes x t w) s
  like_else s x t h k =
      let f : eqb a x.to ≡ false = ne_eqb a x.to (λ e. h (sym e)) in
      of_comes (λ (u : World). Like n a u s) x t w k (λ i y ts. same_row (with_knows (at2 x.to i y w.knows) ts w) s (λ q. refl) (λ j. row_else x.to i a j y w.knows f) k)

  pub like_sees : (s : Box) (e i c t : ℕ) → Like n a w s → Like n a w (sees e i c t s)
  like_sees s e i c t k = record { size = k.size; self = k.self; real = k.real; knows = k.knows }

  -- a word that comes here, and says who it is for
  takes_here : (s : Box) (from about : ℕ) (y : Entry) (t : ℕ) → is_in t w.drawn ≡ false → Like n a w s →
      Like n a (comes (record { from = from; to = a; about = about; entry = y }) t w) (takes (record { from = from; to = a; about = about; entry = y }) t s)
  takes_here s from about y t f k =
      let own : Entry = own_entry a y.number t w in
      let mine : Entry = own_word y.number t s in
      let news : Box = has about (cond (eqb s.me about) mine y) s in
      let same_box : cond (is_open from s) (cond (newer y (s.word about)) news s) s ≡ cond (is_open from s && newer y (s.word about)) news s = and_cond (is_open from s) (newer y (s.word about)) news s in
      subst (λ (v : Box). Like n a (comes (record { from = from; to = a; about = about; entry = y }) t w) v) same_box
      (both_cond (Like n a) (ltb 0 (w.real a from) && not (is_in t w.drawn)) (is_open from s) (told (record { from = from; to = a; about = about; entry = y }) t w) w (cond (newer y (s.word about)) news s) s
      (and-true (ltb 0 (w.real a from)) (not (is_in t w.drawn)) (ap not f) ∙ ap (λ c. ltb 0 c) (k.real from))
      (λ _. both_cond (Like n a) (newer y (w.knows a about)) (newer y (s.word about))
      (cond (eqb a about) (with_knows (at2 a a own w.knows) (t ∷ []) w) (with_knows (at2 a about y w.knows) [] w)) w news s
      (ap (λ (z : Entry). newer y z) (k.knows about))
      (λ _. both_cond (λ (u : World) (z : Entry). Like n a u (has about z s)) (eqb a about) (eqb s.me about) (with_knows (at2 a a own w.knows) (t ∷ []) w) (with_knows (at2 a about y w.knows) [] w) mine y
      (ap (λ b. eqb b about) (sym k.self))
      (λ e. has_same s a about own mine (t ∷ []) (eqb-true a about e) (own_same s y.number y.number t refl k) k)
      (λ _. has_same s about about y y [] refl refl k))
      (λ _. k))
      (λ _. k))

  pub like_takes : (s : Box) (x : Word) (t : ℕ) → x.to ≡ a → is_in t w.drawn ≡ false → Like n a w s → Like n a (comes x t w) (takes x t s)
  like_takes s x t h f k =
      subst (λ (b : ℕ). Like n a (comes (record { from = x.from; to = b; about = x.about; entry = x.entry }) t w) (takes x t s)) (sym h) (takes_here s x.from x.about x.entry t f k)

  pub like_hears : (s : Box) (x : Word) (t : ℕ) → x.to ≡ a → is_in t w.drawn ≡ false → Like n a w s → Like n a (comes x t w) (hears x t s)
  like_hears s x t h f k = let r = like_takes s x t h f k in record { size = r.size; self = r.self; real = r.real; knows = r.knows }
