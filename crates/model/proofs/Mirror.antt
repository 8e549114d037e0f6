-- A net that mirrors a world of routers still does after one event: by its act on the one, and by itself on the other.
use Rattle.std.proofs.Common.{◌≡◌, ℕ, zero, suc, Bool, true, false, cond, not, ◌&&◌, eqb, ltb, List, [], ◌∷◌, ◌++◌, map, sym, refl, ap, ◌∙◌, subst, ap₂}
use mathlib.Core.Path.{fun_ext}
use Rattle.std.proofs.lemmas.Bool.{eqb-true, eq-eqb, both_ways}
use Rattle.model.specs.Words.{Entry, Word, World, Ev, Road, Says, Sends, Comes, Falls, newer, unsaid, is_in, at2, own_entry, with_knows, says, told, comes, comes_nth, sends, step}
use Rattle.model.specs.Flood.{Item, fresher, Copy, Setup, Net, row, unspoken, puts, spoken, taken, gets, gets_nth, recall, act}
use Rattle.model.specs.Roads.{item_of, copy_of, act_of, Mirrors}
use Rattle.model.proofs.Tests.{of_cond, both_cond}
use Rattle.model.proofs.Acts.{turned, telling, back}
use Rattle.model.proofs.Events.{with_real}
use Rattle.model.proofs.Tables.{row_here, row_else}

-- what a world holds, as a net that never had anything before
abbrev pub net_of : World → Net (ℕ → ℕ)
net_of w = record { link = λ a e. ltb 0 (w.real a e); speaks = eqb; would = λ a i. w.real a; holds = λ a i. item_of (w.knows a i); had = λ a i. []; flight = map copy_of w.flight; drawn = w.drawn }

pub net_of_mirrors : (w : World) → Mirrors w (net_of w)
net_of_mirrors w = record { link = λ a e. refl; speaks = λ a i. refl; would = λ a i. refl; holds = λ a i. refl; flight = refl; drawn = refl }

-- one row of costs replaced
turned_mirrors : (w : World) (v : Net (ℕ → ℕ)) (a : ℕ) (r : ℕ → ℕ → ℕ) (costs : ℕ → ℕ) → ((q : ℕ) → r a q ≡ costs q) → ((p q : ℕ) → eqb p a ≡ false → r p q ≡ w.real p q) → Mirrors w v →
    Mirrors (with_real r w) (turned a (λ x. ltb 0 (costs x)) (eqb a) (λ i. costs) v)
turned_mirrors w v a r costs here there m = record {
  link = λ p q. of_cond (λ (l : ℕ → Bool). l q ≡ ltb 0 (r p q)) (eqb p a) (λ x. ltb 0 (costs x)) (v.link p)
      (λ e. let z : p ≡ a = eqb-true p a e in rw z (ap (λ c. ltb 0 c) (sym (here q)))) (λ e. m.link p q ∙ ap (λ c. ltb 0 c) (sym (there p q e)));
  speaks = λ p q. of_cond (λ (l : ℕ → Bool). l q ≡ eqb p q) (eqb p a) (eqb a) (v.speaks p)
      (λ e. let z : p ≡ a = eqb-true p a e in rw z) (λ e. m.speaks p q);
  would = λ p q. of_cond (λ (l : ℕ → ℕ → ℕ). l q ≡ r p) (eqb p a) (λ i. costs) (v.would p)
      (λ e. let z : p ≡ a = eqb-true p a e in rw z (fun_ext (λ x. sym (here x)))) (λ e. m.would p q ∙ fun_ext (λ x. sym (there p x e)));
  holds = m.holds;
  flight = m.flight;
  drawn = m.drawn;
}

-- a road changes, if there can be such a road
road_mirrors : (g la lb : Bool) (w : World) (v : Net (ℕ → ℕ)) (a e c : ℕ) → la ≡ lb → Mirrors w v →
    Mirrors (cond (la && g) (with_real (at2 a e c w.real) w) w) (cond lb (turned a (λ x. ltb 0 (cond g (row e c (w.real a)) (w.real a) x)) (eqb a) (λ i. cond g (row e c (w.real a)) (w.real a)) v) v)
road_mirrors true true true w v a e c same m =
    turned_mirrors w v a (at2 a e c w.real) (row e c (w.real a)) (λ q. row_here a e q c w.real) (λ p q no-a. row_else a e p q c w.real no-a) m
road_mirrors false true true w v a e c same m = turned_mirrors w v a w.real (w.real a) (λ q. refl) (λ p q _. refl) m
road_mirrors true false false w v a e c same m = m
road_mirrors false false false w v a e c same m = m
road_mirrors true true false w v a e c same m = absurd (both_ways true (same) refl)
road_mirrors false true false w v a e c same m = absurd (both_ways true (same) refl)
road_mirrors true false true w v a e c same m = absurd (both_ways false refl same)
road_mirrors false false true w v a e c same m = absurd (both_ways false refl same)

-- something else is had in one place
puts_mirrors : (w : World) (v : Net (ℕ → ℕ)) (a i : ℕ) (x : Item (ℕ → ℕ)) (y : Entry) (ts : List ℕ) → x ≡ item_of y → Mirrors w v → Mirrors (with_knows (at2 a i y w.knows) ts w) (puts a i x ts v)
puts_mirrors w v a i x y ts same m = record {
  link = m.link;
  speaks = m.speaks;
  would = m.would;
  holds = λ p q. both_cond (λ (z : Item (ℕ → ℕ)) (u : Entry). z ≡ item_of u) (eqb p a && eqb q i) (eqb p a && eqb q i) x (v.holds p q) y (w.knows p q) refl (λ _. same) (λ _. m.holds p q);
  flight = m.flight;
  drawn = ap (λ l. ts ++ l) m.drawn;
}

-- what is said of oneself is the same
own_same : (w : World) (v : Net (ℕ → ℕ)) (a i number k t : ℕ) → number ≡ k → Mirrors w v → spoken a i number t v ≡ item_of (own_entry a k t w)
own_same w v a i number k t same m = ap₂ (λ (z : ℕ) (b : ℕ → ℕ). record { number = suc z; tag = t; body = b }) same (m.would a i)

-- a copy comes, or the word that it mirrors
told_mirrors : (w : World) (v : Net (ℕ → ℕ)) (x : Word) (t : ℕ) → Mirrors w v → Mirrors (told x t w) (taken (copy_of x) t v)
told_mirrors w v x t m =
    both_cond Mirrors (newer x.entry (w.knows x.to x.about)) (fresher (item_of x.entry) (v.holds x.to x.about))
    (cond (eqb x.to x.about) (with_knows (at2 x.to x.to (own_entry x.to x.entry.number t w) w.knows) (t ∷ []) w) (with_knows (at2 x.to x.about x.entry w.knows) [] w)) w
    (cond (v.speaks x.to x.about) (puts x.to x.about (spoken x.to x.about x.entry.number t v) (t ∷ []) v) (puts x.to x.about (item_of x.entry) [] v)) v
    (ap (λ (y : Item (ℕ → ℕ)). fresher (item_of x.entry) y) (sym (m.holds x.to x.about)))
    (λ _. both_cond Mirrors (eqb x.to x.about) (v.speaks x.to x.about)
    (with_knows (at2 x.to x.to (own_entry x.to x.entry.number t w) w.knows) (t ∷ []) w) (with_knows (at2 x.to x.about x.entry w.knows) [] w)
    (puts x.to x.about (spoken x.to x.about x.entry.number t v) (t ∷ []) v) (puts x.to x.about (item_of x.entry) [] v)
    (sym (m.speaks x.to x.about))
    (λ e. subst (λ (i : ℕ). Mirrors (with_knows (at2 x.to i (own_entry x.to x.entry.number t w) w.knows) (t ∷ []) w) (puts x.to x.about (spoken x.to x.about x.entry.number t v) (t ∷ []) v))
    (sym (eqb-true x.to x.about e))
    (puts_mirrors w v x.to x.about (spoken x.to x.about x.entry.number t v) (own_entry x.to x.entry.number t w) (t ∷ []) (own_same w v x.to x.about x.entry.number x.entry.number t refl m) m))
    (λ _. puts_mirrors w v x.to x.about (item_of x.entry) x.entry [] refl m))
    (λ _. m)

comes_mirrors : (w : World) (v : Net (ℕ → ℕ)) (x : Word) (t : ℕ) → Mirrors w v → Mirrors (comes x t w) (gets (copy_of x) t v)
comes_mirrors w v x t m =
    both_cond Mirrors (ltb 0 (w.real x.to x.from) && not (is_in t w.drawn)) (v.link x.to x.from && not (is_in t v.drawn)) (told x t w) w (taken (copy_of x) t v) v
    (ap₂ (λ (b : Bool) (ts : List ℕ). b && not (is_in t ts)) (sym (m.link x.to x.from)) (sym m.drawn))
    (λ _. told_mirrors w v x t m) (λ _. m)

nth_mirrors : (k t : ℕ) (xs : List Word) (w : World) (v : Net (ℕ → ℕ)) → Mirrors w v → Mirrors (comes_nth k t xs w) (gets_nth k t (map copy_of xs) v)
unfolding comes_nth gets_nth
nth_mirrors k t [] w v m = m
nth_mirrors zero t (x ∷ xs) w v m = comes_mirrors w v x t m
nth_mirrors (suc k) t (x ∷ xs) w v m = nth_mirrors k t xs w v m

recall_none : {A : Type 0} (z : A) (xs : List A) → recall z 0 xs ≡ z
unfolding recall
recall_none z [] = refl
recall_none z (x ∷ xs) = refl

-- a setup of roads for a world of just so many routers
pub record Fits (w : World) (s : Setup (ℕ → ℕ)) : Type 0 where
  pub boxes : s.boxes ≡ w.n
  pub subjects : s.subjects ≡ w.n
  pub blank : (x : ℕ) → s.blank x ≡ 0

falls_mirrors : (w : World) (v : Net (ℕ → ℕ)) (s : Setup (ℕ → ℕ)) (a : ℕ) → Fits w s → Mirrors w v → Mirrors (with_knows (λ p q. cond (eqb p a) unsaid (w.knows p q)) [] w) (back s a (λ i. 0) v)
falls_mirrors w v s a f m = record {
  link = m.link;
  speaks = m.speaks;
  would = m.would;
  holds = λ p q. both_cond (λ (r : ℕ → Item (ℕ → ℕ)) (u : Entry). r q ≡ item_of u) (eqb p a) (eqb p a) (λ i. recall (unspoken s) 0 (v.had a i)) (v.holds p) unsaid (w.knows p q) refl
      (λ _. recall_none (unspoken s) (v.had a q) ∙ ap (λ (b : ℕ → ℕ). record { number = 0; tag = 0; body = b }) (fun_ext f.blank)) (λ _. m.holds p q);
  flight = m.flight;
  drawn = m.drawn;
}

sends_mirrors : (w : World) (v : Net (ℕ → ℕ)) (a e i : ℕ) → Mirrors w v → Mirrors (sends a e i w) (telling a e i v)
sends_mirrors w v a e i m = record {
  link = m.link;
  speaks = m.speaks;
  would = m.would;
  holds = m.holds;
  flight = ap₂ {C = List (Copy (ℕ → ℕ))} (λ (x : Item (ℕ → ℕ)) (l : List (Copy (ℕ → ℕ))). record { from = a; to = e; about = i; item = x } ∷ l) (m.holds a i) m.flight;
  drawn = m.drawn;
}

-- the test of one's own word is the same
says_test : (la lb ls sp d : Bool) → la ≡ lb → la ≡ ls → sp ≡ true → (la && d) ≡ (lb && (ls && (sp && d)))
says_test true lb ls sp d e f g = cc
says_test false lb ls sp d e f g = cc

-- one event
pub mirror_step : (w : World) (v : Net (ℕ → ℕ)) (s : Setup (ℕ → ℕ)) → Fits w s → Mirrors w v → (e : Ev) → Mirrors (step e w) (act s (act_of w e) v)
mirror_step w v s f m (Road a e c) = road_mirrors (ltb e w.n && not (eqb a e)) (ltb a w.n) (ltb a s.boxes) w v a e c (ap (λ n. ltb a n) (sym f.boxes)) m
mirror_step w v s f m (Says a t) =
    both_cond Mirrors (ltb a w.n && not (is_in t w.drawn)) (ltb a s.boxes && (ltb a s.subjects && (v.speaks a a && not (is_in t v.drawn)))) (says a t w) w (puts a a (spoken a a (v.holds a a).number t v) (t ∷ []) v) v
    (ap (λ (ts : List ℕ). ltb a w.n && not (is_in t ts)) (sym m.drawn) ∙ says_test (ltb a w.n) (ltb a s.boxes) (ltb a s.subjects) (v.speaks a a) (not (is_in t v.drawn)) (ap (λ n. ltb a n) (sym f.boxes)) (ap (λ n. ltb a n) (sym f.subjects)) (m.speaks a a ∙ eq-eqb a a refl))
    (λ _. puts_mirrors w v a a (spoken a a (v.holds a a).number t v) (own_entry a (w.knows a a).number t w) (t ∷ []) (own_same w v a a (v.holds a a).number (w.knows a a).number t (ap (λ (x : Item (ℕ → ℕ)). x.number) (m.holds a a)) m) m)
    (λ _. m)
mirror_step w v s f m (Sends a e i) =
    both_cond Mirrors (ltb a w.n && (ltb e w.n && (ltb i w.n && ltb 0 (w.real a e)))) (ltb a s.boxes && (ltb e s.boxes && (ltb i s.subjects && v.link a e))) (sends a e i w) w (telling a e i v) v
    (rw (f.boxes, f.subjects, m.link a e)) (λ _. sends_mirrors w v a e i m) (λ _. m)
mirror_step w v s f m (Comes k t) = subst (λ (l : List (Copy (ℕ → ℕ))). Mirrors (comes_nth k t w.flight w) (gets_nth k t l v)) (sym m.flight) (nth_mirrors k t w.flight w v m)
mirror_step w v s f m (Falls a) =
    both_cond Mirrors (ltb a w.n) (ltb a s.boxes) (with_knows (λ p q. cond (eqb p a) unsaid (w.knows p q)) [] w) w (back s a (λ i. 0) v) v (ap (λ n. ltb a n) (sym f.boxes)) (λ _. falls_mirrors w v s a f m) (λ _. m)
