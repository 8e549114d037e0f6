-- What is known of one wire after each input: an open wire comes from where, and what a taken hello is.
use Rattle.std.proofs.Common.{◌≡◌, ℕ, ◌+◌, ◌<◌, ◌≤◌, Bool, true, false, cond, not, ◌&&◌, ◌||◌, eqb, ltb, ◌⊎◌, refl, ◌∙◌, inl, inr, arith, ltb-false, eq-eqb, ne_eqb, eqb-true}
use borrow.Author.Tests.{eqb-false}
use Rattle.std.proofs.lemmas.Bool.Decides.{nat_tests}
use Rattle.model.specs.Flood.{row}
use Rattle.model.proofs.Tests.{of_cond, cond-true, cond-false}
use Rattle.linkmodel.specs.Links.{Wire, Silent, Heard, Open, Hello, Links, wires, holds_for, aged, closed_to, taken, greeted}
use Rattle.linkmodel.specs.Hellos.{accepts}

-- a wire that is silent or only heard is not open
pub shut_wire : {A : Type 0} (f d t : ℕ) → Silent ≡ Open f d t → A
shut_wire f d t e = let z : ◌≡◌ {A = ℕ} 0 1 = cc in absurd (omega arith)

pub heard_wire : {A : Type 0} (g c u f d t : ℕ) → Heard g c u ≡ Open f d t → A
heard_wire g c u f d t e = let z : ◌≡◌ {A = ℕ} 0 1 = cc in absurd (omega arith)

-- what is open after ageing was open, and isn't too old
pub aged_open : (now : ℕ) (x : Wire) (f d t : ℕ) → aged now x ≡ Open f d t → (x ≡ Open f d t) × (now ≤ t + holds_for)
aged_open now Silent f d t e = shut_wire f d t e
aged_open now (Heard g c u) f d t e = of_cond (λ (y : Wire). y ≡ Open f d t → (Heard g c u ≡ Open f d t) × (now ≤ t + holds_for)) (ltb (u + holds_for) now) Silent (Heard g c u) (λ _ q. shut_wire f d t q) (λ _ q. heard_wire g c u f d t q) e
aged_open now (Open g c u) f d t e = of_cond (λ (y : Wire). y ≡ Open f d t → (Open g c u ≡ Open f d t) × (now ≤ t + holds_for)) (ltb (u + holds_for) now) Silent (Open g c u) (λ _ q. shut_wire f d t q)
    (λ k q. let ut : u ≡ t = cc in (q, omega (arith, ltb-false (u + holds_for) now k))) e

-- what is open after a box's road closed was open, to another box
pub closed_open : (a : ℕ) (x : Wire) (f d t : ℕ) → closed_to a x ≡ Open f d t → (x ≡ Open f d t) × (f ≡ a → ⊥)
closed_open a Silent f d t e = shut_wire f d t e
closed_open a (Heard g c u) f d t e = heard_wire g c u f d t e
closed_open a (Open g c u) f d t e = of_cond (λ (y : Wire). y ≡ Open f d t → (Open g c u ≡ Open f d t) × (f ≡ a → ⊥)) (eqb g a) (Heard g c u) (Open g c u) (λ _ q. heard_wire g c u f d t q)
    (λ k q. let gf : g ≡ f = cc in (q, λ fa. eqb-false g a k (gf ∙ fa))) e

-- what a taken hello is
pub record Taken (w : ℕ) (h : Hello) (s : Links) : Type 0 where
  pub there : w < wires
  pub costs : 0 < s.cost w
  pub one : h.from < s.n
  pub other : h.from ≡ s.me → ⊥
  pub drew : 0 < h.drawn
  pub free : taken h.from (s.wire w) ≡ false

pub accepted : (w : ℕ) (h : Hello) (s : Links) → accepts w h s ≡ true → Taken w h s
accepted w h s e = go (taken h.from (s.wire w)) refl
  where
    go : (b : Bool) → taken h.from (s.wire w) ≡ b → Taken w h s
    go true k =
        let z : (ltb w wires && (ltb 0 (s.cost w) && eqb (cond (not (ltb h.from s.n) || (eqb h.from s.me || eqb h.drawn 0)) 2 (cond true 4 0)) 0)) ≡ true =
        rw k at e in
        absurd (refuted w (s.cost w) h.from s.n s.me h.drawn z)
      where
        refuted : (w c f n m d : ℕ) → (ltb w 8 && (ltb 0 c && eqb (cond (not (ltb f n) || (eqb f m || eqb d 0)) 2 4) 0)) ≡ true → ⊥
        refuted w c f n m d e = grind (arith, nat_tests)
    go false k =
        let z : (ltb w wires && (ltb 0 (s.cost w) && eqb (cond (not (ltb h.from s.n) || (eqb h.from s.me || eqb h.drawn 0)) 2 (cond false 4 0)) 0)) ≡ true =
        rw k at e in
        let c : ℕ = s.cost w in
        record {
          there = w1 w c h.from s.n s.me h.drawn z;
          costs = w2 w c h.from s.n s.me h.drawn z;
          one = w3 w c h.from s.n s.me h.drawn z;
          other = w4 w c h.from s.n s.me h.drawn z;
          drew = w5 w c h.from s.n s.me h.drawn z;
          free = k;
        }
      where
        w1 : (w c f n m d : ℕ) → (ltb w 8 && (ltb 0 c && eqb (cond (not (ltb f n) || (eqb f m || eqb d 0)) 2 0) 0)) ≡ true → w < 8
        w1 w c f n m d e = grind (arith, nat_tests)

        w2 : (w c f n m d : ℕ) → (ltb w 8 && (ltb 0 c && eqb (cond (not (ltb f n) || (eqb f m || eqb d 0)) 2 0) 0)) ≡ true → 0 < c
        w2 w c f n m d e = grind (arith, nat_tests)

        w3 : (w c f n m d : ℕ) → (ltb w 8 && (ltb 0 c && eqb (cond (not (ltb f n) || (eqb f m || eqb d 0)) 2 0) 0)) ≡ true → f < n
        w3 w c f n m d e = grind (arith, nat_tests)

        w4 : (w c f n m d : ℕ) → (ltb w 8 && (ltb 0 c && eqb (cond (not (ltb f n) || (eqb f m || eqb d 0)) 2 0) 0)) ≡ true → f ≡ m → ⊥
        w4 w c f n m d e q = grind (arith, nat_tests)

        w5 : (w c f n m d : ℕ) → (ltb w 8 && (ltb 0 c && eqb (cond (not (ltb f n) || (eqb f m || eqb d 0)) 2 0) 0)) ≡ true → 0 < d
        w5 w c f n m d e = grind (arith, nat_tests)

-- and what makes a hello taken
pub accepting : (w : ℕ) (h : Hello) (s : Links) → w < wires → 0 < s.cost w → h.from < s.n → (h.from ≡ s.me → ⊥) → 0 < h.drawn → taken h.from (s.wire w) ≡ false → accepts w h s ≡ true
accepting w h s a b c d e k = rw k (go w (s.cost w) h.from s.n s.me h.drawn a b c d e)
  where
    go : (w c f n m d : ℕ) → w < 8 → 0 < c → f < n → (f ≡ m → ⊥) → 0 < d → (ltb w 8 && (ltb 0 c && eqb (cond (not (ltb f n) || (eqb f m || eqb d 0)) 2 0) 0)) ≡ true
    go w c f n m d a b x y z = grind (arith, nat_tests)

-- a wire of a table with one wire replaced
pub row_at : {A : Type 0} (w : ℕ) (x : A) (r : ℕ → A) → row w x r w ≡ x
row_at w x r = cond-true (eqb w w) x (r w) (eq-eqb w w refl)

pub row_off : {A : Type 0} (w v : ℕ) (x : A) (r : ℕ → A) → (v ≡ w → ⊥) → row w x r v ≡ r v
row_off w v x r k = cond-false (eqb v w) x (r v) (ne_eqb v w k)

-- what holds of the new row, and of the old ones elsewhere, holds of each
pub at_row : {A : Type 0} (Q : A → Type 0) (a : ℕ) (s : A) (r : ℕ → A) (b : ℕ) → (b ≡ a → Q s) → ((b ≡ a → ⊥) → Q (r b)) → Q (row a s r b)
at_row Q a s r b p q = of_cond Q (eqb b a) s (r b) (λ e. p (eqb-true b a e)) (λ e. q (eqb-false b a e))

-- a wire that is open after a taken hello was opened by it
pub record OpenedBy (v : ℕ) (h : Hello) (s : Links) (w f d t : ℕ) : Type 0 where
  pub here : w ≡ v
  pub names : h.heard ≡ s.drawn
  pub who : f ≡ h.from
  pub which : d ≡ h.drawn
  pub when : t ≡ s.tick

-- or was open before, and the hello is of another box or has the number that was heard last
pub record OpenBefore (v : ℕ) (h : Hello) (s : Links) (w f d t : ℕ) : Type 0 where
  pub away : w ≡ v → ⊥
  pub was : s.wire w ≡ Open f d t
  pub same : (s.last h.from ≡ h.drawn) ⊎ (f ≡ h.from → ⊥)

pub greeted_open : (v : ℕ) (h : Hello) (s : Links) (w f d t : ℕ) → (greeted v h s).wire w ≡ Open f d t → OpenedBy v h s w f d t ⊎ OpenBefore v h s w f d t
greeted_open v h s w f d t e =
    of_cond (λ (y : Wire). y ≡ Open f d t → OpenedBy v h s w f d t ⊎ OpenBefore v h s w f d t) (eqb w v)
    (cond (eqb h.heard s.drawn) (Open h.from h.drawn s.tick) (Heard h.from h.drawn s.tick))
    (cond (eqb (s.last h.from) h.drawn) (s.wire w) (closed_to h.from (s.wire w)))
    (λ k. of_cond (λ (y : Wire). y ≡ Open f d t → OpenedBy v h s w f d t ⊎ OpenBefore v h s w f d t) (eqb h.heard s.drawn) (Open h.from h.drawn s.tick) (Heard h.from h.drawn s.tick)
    (λ j q. inl (record { here = eqb-true w v k; names = eqb-true h.heard s.drawn j; who = cc; which = cc; when = cc }))
    (λ j q. heard_wire h.from h.drawn s.tick f d t q))
    (λ k. of_cond (λ (y : Wire). y ≡ Open f d t → OpenedBy v h s w f d t ⊎ OpenBefore v h s w f d t) (eqb (s.last h.from) h.drawn) (s.wire w) (closed_to h.from (s.wire w))
    (λ j q. inr (record { away = eqb-false w v k; was = q; same = inl (eqb-true (s.last h.from) h.drawn j) }))
    (λ j q. let p = closed_open h.from (s.wire w) f d t q in inr (record { away = eqb-false w v k; was = p.0; same = inr p.1 })))
    e
