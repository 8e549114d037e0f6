-- Distances by the last road of a way, where the model has them by the first.
-- Assumes nothing.
use Rattle.std.proofs.Common.{◌≡◌, ℕ, ◌+◌, ◌<◌, ◌≤◌, T, List, [], ◌∷◌, ◌++◌, sym, refl, ap, ◌∙◌, subst, arith}
use Rattle.model.specs.Map.{Map, Far, At, plus, far}
use Rattle.model.specs.Promise.{is_way, last, cost_of}
use Rattle.model.proofs.Fars.{at_most, most_at, at_inj, plus_at}
use Rattle.model.proofs.Settled.{far_road}
use Rattle.model.proofs.Shortest.{way_in, way_out, least}

-- a way with a road more at its end
pub way_on : (z : Map) (a d : ℕ) (ws : List ℕ) → d < z.n → 0 < z.cost (last a ws) d → T (is_way z a ws) →
    T (is_way z a (ws ++ (d ∷ []))) × (last a (ws ++ (d ∷ [])) ≡ d) × (cost_of z a (ws ++ (d ∷ [])) ≡ cost_of z a ws + z.cost (last a ws) d)
unfolding is_way last cost_of
way_on z a d [] l p t = (way_in z a d [] l p tt, refl, omega arith)
way_on z a d (y ∷ ys) l p t =
    let o = way_out z a y ys t in
    let r = way_on z y d ys l p o.2 in
    (way_in z a y (ys ++ (d ∷ [])) o.0 o.1 r.0, r.1, omega (arith, r.2))

-- a way with a road has a last one
way_last : (z : Map) (a y : ℕ) (ys : List ℕ) → a < z.n → T (is_way z a (y ∷ ys)) →
    (us : List ℕ) × T (is_way z a us) × (last a us < z.n) × (0 < z.cost (last a us) (last a (y ∷ ys))) × (cost_of z a us + z.cost (last a us) (last a (y ∷ ys)) ≡ cost_of z a (y ∷ ys))
unfolding is_way last cost_of
way_last z a y [] l t = let o = way_out z a y [] t in ([], tt, l, o.1, omega arith)
way_last z a y (x ∷ xs) l t =
    let o = way_out z a y (x ∷ xs) t in
    let r = way_last z y x xs o.0 o.2 in
    (y ∷ r.0, way_in z a y r.0 o.0 o.1 r.1, r.2, r.3, omega (arith, r.4))

-- no place is farther than to another and over a road from there
pub last_road : (z : Map) (a p d k : ℕ) → a < z.n → p < z.n → d < z.n → far z p a ≡ At k → 0 < z.cost p d → (m : ℕ) × (far z d a ≡ At m) × (m ≤ k + z.cost p d)
last_road z a p d k la lp ld h c =
    let w = (least z p a la lp).1 k h in
    let P : ℕ → Type 0 = λ x. 0 < z.cost x d in
    let r = way_on z a d w.0 ld (subst P (sym w.2) c) w.1 in
    let m = (least z d a la ld).0 (w.0 ++ (d ∷ [])) r.0 r.1 in
    (m.0, m.1, omega (arith, m.2, r.2, w.3, ap (λ (x : ℕ). z.cost x d) w.2))

-- and but for the beginning it is just that for some road
pub last_had : (z : Map) (a d c : ℕ) → a < z.n → d < z.n → (a ≡ d → ⊥) → far z d a ≡ At c →
    (p : ℕ) × (k : ℕ) × (p < z.n) × (0 < z.cost p d) × (far z p a ≡ At k) × (c ≡ k + z.cost p d)
unfolding last
last_had z a d c la ld ne h = go w.0 w.1 w.2 w.3
  where
    w : (ws : List ℕ) × T (is_way z a ws) × (last a ws ≡ d) × (cost_of z a ws ≡ c)
    w = (least z d a la ld).1 c h

    go : (ws : List ℕ) → T (is_way z a ws) → last a ws ≡ d → cost_of z a ws ≡ c → (p : ℕ) × (k : ℕ) × (p < z.n) × (0 < z.cost p d) × (far z p a ≡ At k) × (c ≡ k + z.cost p d)
    go [] t e f = absurd (ne e)
    go (y ∷ ys) t e f =
        let r = way_last z a y ys la t in
        let p = last a r.0 in
        let cp : z.cost p (last a (y ∷ ys)) ≡ z.cost p d = ap (λ (x : ℕ). z.cost p x) e in
        let m = (least z p a la r.2).0 r.0 r.1 refl in
        let pos : 0 < z.cost p d = omega (arith, r.3, cp) in
        let n = last_road z a p d m.0 la r.2 ld m.1 pos in
        let q : c ≡ n.0 = at_inj c n.0 (sym h ∙ n.1) in
        (p, m.0, r.2, pos, m.1, omega (arith, q, n.2, r.4, m.2, f, cp))

-- the road at the beginning, in numbers
pub first_road : (z : Map) (a e d k : ℕ) → a < z.n → e < z.n → far z d e ≡ At k → 0 < z.cost a e → (m : ℕ) × (far z d a ≡ At m) × (m ≤ z.cost a e + k)
first_road z a e d k la le h p =
    most_at (far z d a) (z.cost a e + k) (subst (λ (f : Far). at_most (far z d a) f) (ap (λ (f : Far). plus (z.cost a e) f) h ∙ plus_at (z.cost a e) k p) (far_road z d a e la le))
