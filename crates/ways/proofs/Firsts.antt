-- The boxes that can come next on a least way, and how the last road of a way keeps them.
-- Assumes nothing.
use Rattle.std.proofs.Common.{◌≡◌, ℕ, zero, suc, ◌+◌, ◌<◌, ◌≤◌, Bool, true, false, cond, ◌&&◌, eqb, ◌⊎◌, sym, refl, ap, ◌∙◌, inl, inr, zero-le, arith, ne_eqb, eqb-true}
use borrow.Author.Tests.{eqb-false, clash}
use Rattle.model.specs.Map.{Map, Far, Never, At, plus, far, To, hop, first_of, has_way, same_far}
use Rattle.model.proofs.Fars.{at_inj, plus_at, plus_inv, same_true, same_self}
use Rattle.model.proofs.Settled.{far_self}
use Rattle.model.proofs.Hopping.{on_least, first_had, hop_away}
use Rattle.model.proofs.Closed.{first_to}
use Rattle.ways.proofs.Lasts.{last_road, last_had, first_road}

-- e can come next after s on a least way to d
pub record Fit (z : Map) (s d e : ℕ) : Type 0 where
  pub below : e < z.n
  pub road : 0 < z.cost s e
  pub rest : ℕ
  pub from : far z d e ≡ At rest
  pub whole : far z d s ≡ At (z.cost s e + rest)

-- as the test says
fit_test : (z : Map) (s d e : ℕ) → Fit z s d e → on_least z d s e ≡ true
fit_test z s d e f =
    let p : plus (z.cost s e) (far z d e) ≡ At (z.cost s e + f.rest) = ap (λ (g : Far). plus (z.cost s e) g) f.from ∙ plus_at (z.cost s e) f.rest f.road in
    ap (λ (g : Far). has_way g && same_far g (far z d s)) p ∙ ap (λ (g : Far). same_far (At (z.cost s e + f.rest)) g) f.whole ∙ same_self (At (z.cost s e + f.rest))

test_same : (f g : Far) → (has_way f && same_far f g) ≡ true → (c : ℕ) × (f ≡ At c) × (g ≡ At c)
test_same Never g h = absurd (clash h)
test_same (At c) g h = (c, refl, sym (same_true (At c) g h))

test_fit : (z : Map) (s d e : ℕ) → e < z.n → on_least z d s e ≡ true → Fit z s d e
test_fit z s d e l h =
    let t = test_same (plus (z.cost s e) (far z d e)) (far z d s) h in
    let i = plus_inv (z.cost s e) (far z d e) t.0 t.1 in
    record { below = l; road = i.2; rest = i.0; from = i.1; whole = t.2 ∙ ap At i.3 }

-- the first that passes the test is the lowest
to_inj : (v e : ℕ) → To v ≡ To e → v ≡ e
to_inj v e h = cc

first_low : (z : Map) (d a e k v x : ℕ) → first_of z d a e k ≡ To v → e ≤ x → x < e + k → on_least z d a x ≡ true → v ≤ x
unfolding first_of
first_low z d a e zero v x h l m t = absurd (omega arith)
first_low z d a e (suc k) v x h l m t = go (on_least z d a e) refl (λ i q. first_low z d a (e + 1) k v x i q (omega arith) t) h
  where
    go : (b : Bool) → on_least z d a e ≡ b → (first_of z d a (e + 1) k ≡ To v → e + 1 ≤ x → v ≤ x) → cond b (To e) (first_of z d a (e + 1) k) ≡ To v → v ≤ x
    go true i r j = omega (arith, to_inj e v j)
    go false i r j =
        let ne : e ≡ x → ⊥ = λ q. clash (sym i ∙ ap (λ (y : ℕ). on_least z d a y) q ∙ t) in
        r j (omega arith)

-- v is next just if it can come next and no lower one can
pub record Lowest (z : Map) (s d v : ℕ) : Type 0 where
  pub fits : Fit z s d v
  pub low : (e : ℕ) → Fit z s d e → v ≤ e

pub lowest_hop : (z : Map) (s d v : ℕ) → (s ≡ d → ⊥) → Lowest z s d v → hop z d s ≡ To v
lowest_hop z s d v ne w =
    let r = first_had z d s 0 z.n v zero-le (omega (arith, w.fits.below)) (fit_test z s d v w.fits) in
    let u = r.0 in
    let up : v ≤ u = w.low u (test_fit z s d u (omega (arith, r.2)) r.3) in
    let down : u ≤ v = first_low z d s 0 z.n u v r.1 zero-le (omega (arith, w.fits.below)) (fit_test z s d v w.fits) in
    hop_away z d s (ne_eqb s d ne) ∙ r.1 ∙ ap To (omega arith)

pub hop_lowest : (z : Map) (s d v : ℕ) → (s ≡ d → ⊥) → hop z d s ≡ To v → Lowest z s d v
hop_lowest z s d v ne h =
    let f : first_of z d s 0 z.n ≡ To v = sym (hop_away z d s (ne_eqb s d ne)) ∙ h in
    let t = first_to z d s 0 z.n v f in
    record { fits = test_fit z s d v (omega (arith, t.0)) t.1; low = λ e g. first_low z d s 0 z.n v e f zero-le (omega (arith, g.below)) (fit_test z s d e g) }

-- the only road is a least way
pub fit_self : (z : Map) (s d c : ℕ) → d < z.n → far z d s ≡ At c → 0 < z.cost s d → c ≡ z.cost s d → Fit z s d d
fit_self z s d c l h p q = record { below = l; road = p; rest = 0; from = far_self z d; whole = h ∙ ap At (omega arith) }

-- a road more on a least way keeps who can come next
pub fit_on : (z : Map) (s p d k e : ℕ) → s < z.n → p < z.n → d < z.n → far z p s ≡ At k → 0 < z.cost p d → far z d s ≡ At (k + z.cost p d) → Fit z s p e → Fit z s d e
fit_on z s p d k e ls lp ld h c w f =
    let i : k ≡ z.cost s e + f.rest = at_inj k (z.cost s e + f.rest) (sym h ∙ f.whole) in
    let m = last_road z e p d f.rest f.below lp ld f.from c in
    let o = first_road z s e d m.0 ls f.below m.1 f.road in
    let j : k + z.cost p d ≡ o.0 = at_inj (k + z.cost p d) o.0 (sym w ∙ o.1) in
    record { below = f.below; road = f.road; rest = m.0; from = m.1; whole = w ∙ ap At (omega (arith, m.2, o.2)) }

-- and who can come next does so by the only road or by such a one
pub fit_back : (z : Map) (s d e : ℕ) → s < z.n → d < z.n → Fit z s d e →
    ((e ≡ d) × (far z d s ≡ At (z.cost s d)) × (0 < z.cost s d)) ⊎
    ((p : ℕ) × (k : ℕ) × (p < z.n) × (0 < z.cost p d) × (far z p s ≡ At k) × (far z d s ≡ At (k + z.cost p d)) × Fit z s p e)
fit_back z s d e ls ld f = go (eqb e d) refl
  where
    go : (b : Bool) → eqb e d ≡ b →
        ((e ≡ d) × (far z d s ≡ At (z.cost s d)) × (0 < z.cost s d)) ⊎
        ((p : ℕ) × (k : ℕ) × (p < z.n) × (0 < z.cost p d) × (far z p s ≡ At k) × (far z d s ≡ At (k + z.cost p d)) × Fit z s p e)
    go true i =
        let q : e ≡ d = eqb-true e d i in
        let r : f.rest ≡ 0 = at_inj f.rest 0 (sym f.from ∙ ap (λ (x : ℕ). far z d x) q ∙ far_self z d) in
        let c : z.cost s e ≡ z.cost s d = ap (λ (x : ℕ). z.cost s x) q in
        inl (q, f.whole ∙ ap At (omega arith), omega (arith, f.road))
    go false i =
        let w = last_had z e d f.rest f.below ld (eqb-false e d i) f.from in
        let p = w.0 in
        let r = w.1 in
        let k = first_road z s e p r ls f.below w.4 f.road in
        let m = last_road z s p d k.0 ls w.2 ld k.1 w.3 in
        let j : m.0 ≡ z.cost s e + f.rest = at_inj m.0 (z.cost s e + f.rest) (sym m.1 ∙ f.whole) in
        let t : k.0 ≡ z.cost s e + r = omega (arith, w.5, k.2, m.2) in
        inr (p, k.0, w.2, w.3, k.1, m.1 ∙ ap At (omega (arith, w.5)), record { below = f.below; road = f.road; rest = r; from = w.4; whole = k.1 ∙ ap At t })
