-- Going through the boxes in the order of their distances: what holds between turns, and why the nearest open box is settled. It knows nothing of slices.
-- Assumes nothing.
use Rattle.std.proofs.Common.{◌≡◌, ℕ, zero, suc, ◌+◌, ◌<◌, ◌≤◌, Bool, true, false, cond, eqb, ◌⊎◌, sym, refl, ap, ◌∙◌, subst, inl, inr, arith, eq-eqb, ne_eqb, eqb-true}
use borrow.Author.Tests.{eqb-false}
use Rattle.model.specs.Map.{Map, Far, Never, At, far}
use Rattle.model.proofs.Fars.{at_inj, never_at}
use Rattle.model.proofs.Settled.{far_self}
use Rattle.ways.proofs.Lasts.{last_road, last_had}
use Rattle.ways.proofs.Firsts.{Fit, Lowest, fit_self, fit_on, fit_back}

-- the next box on a way from s whose last road goes from p to u
abbrev pub first_by : ℕ → (ℕ → ℕ) → ℕ → ℕ → ℕ
first_by s x p u = cond (eqb p s) u (x p)

pub first_here : (s : ℕ) (x : ℕ → ℕ) (p u : ℕ) → p ≡ s → first_by s x p u ≡ u
first_here s x p u q = ap (λ (b : Bool). cond b u (x p)) (eq-eqb p s q)

pub first_there : (s : ℕ) (x : ℕ → ℕ) (p u : ℕ) → (p ≡ s → ⊥) → first_by s x p u ≡ x p
first_there s x p u q = ap (λ (b : Bool). cond b u (x p)) (ne_eqb p s q)

-- g: the distances of the boxes gone through; o: those of the open ones, by ways over boxes gone through; x: the numbers of the next boxes
pub record Going (z : Map) (s : ℕ) (g o : ℕ → Far) (x : ℕ → ℕ) : Type 0 where
  pub home : g s ≡ At 0
  pub home_x : x s ≡ 255
  pub done : (k c : ℕ) → k < z.n → g k ≡ At c → (far z k s ≡ At c) × (o k ≡ Never) × ((s ≡ k → ⊥) → Lowest z s k (x k))
  pub most : (u p c : ℕ) → u < z.n → p < z.n → g u ≡ Never → g p ≡ At c → 0 < z.cost p u → (m : ℕ) × (o u ≡ At m) × (m ≤ c + z.cost p u)
  pub had : (u m : ℕ) → u < z.n → g u ≡ Never → o u ≡ At m → (p : ℕ) × (c : ℕ) × (p < z.n) × (g p ≡ At c) × (0 < z.cost p u) × (m ≡ c + z.cost p u) × (x u ≡ first_by s x p u)
  pub low : (u m p c : ℕ) → u < z.n → p < z.n → g u ≡ Never → o u ≡ At m → g p ≡ At c → 0 < z.cost p u → m ≡ c + z.cost p u → x u ≤ first_by s x p u
  pub none : (u : ℕ) → u < z.n → g u ≡ Never → o u ≡ Never → x u ≡ 255

-- no open box is nearer than b
abbrev pub NoneNearer : Map → (ℕ → Far) → ℕ → Type 0
NoneNearer z o b = (k m : ℕ) → k < z.n → o k ≡ At m → b ≤ m

-- a box that isn't gone through isn't where the ways begin
pub not_home : (z : Map) (s : ℕ) (g o : ℕ → Far) (x : ℕ → ℕ) → Going z s g o x → (u : ℕ) → g u ≡ Never → s ≡ u → ⊥
not_home z s g o x w u h q = never_at 0 (sym h ∙ ap g (sym q) ∙ w.home)

-- then no box that isn't gone through is: a least way to it leads over an open one
pub beyond : (z : Map) (s : ℕ) (g o : ℕ → Far) (x : ℕ → ℕ) → Going z s g o x → s < z.n → (b : ℕ) → NoneNearer z o b →
    (j u c : ℕ) → u < z.n → c < j → g u ≡ Never → far z u s ≡ At c → b ≤ c
beyond z s g o x w ls b near zero u c lu l h f = absurd (omega arith)
beyond z s g o x w ls b near (suc j) u c lu l h f =
    let r = last_had z s u c ls lu (not_home z s g o x w u h) f in
    go r.0 r.1 r.2 r.3 r.4 r.5 (g r.0) refl (λ p k lp lk hp fp. beyond z s g o x w ls b near j p k lp lk hp fp)
  where
    go : (p k : ℕ) → p < z.n → 0 < z.cost p u → far z p s ≡ At k → c ≡ k + z.cost p u → (f : Far) → g p ≡ f →
        ((p k : ℕ) → p < z.n → k < j → g p ≡ Never → far z p s ≡ At k → b ≤ k) → b ≤ c
    go p k lp cp fp q Never e i = let r : b ≤ k = i p k lp (omega arith) e fp in omega arith
    go p k lp cp fp q (At c') e i =
        let d : c' ≡ k = at_inj c' k (sym (w.done p c' lp e).0 ∙ fp) in
        let m = w.most u p c' lu lp h e cp in
        let r : b ≤ m.0 = near u m.0 lu m.1 in
        omega (arith, m.2)

-- so the nearest open box is as far as it is open
pub exact : (z : Map) (s : ℕ) (g o : ℕ → Far) (x : ℕ → ℕ) → Going z s g o x → s < z.n → (v b : ℕ) → v < z.n → g v ≡ Never → o v ≡ At b → NoneNearer z o b → far z v s ≡ At b
exact z s g o x w ls v b lv h e near =
    let r = w.had v b lv h e in
    let m = last_road z s r.0 v r.1 ls r.2 lv (w.done r.0 r.1 r.2 r.3).0 r.4 in
    let l : b ≤ m.0 = beyond z s g o x w ls b near (suc m.0) v m.0 lv (omega arith) h m.1 in
    m.1 ∙ ap At (omega (arith, m.2, r.5))

-- and its next box is the lowest
pub lowest_at : (z : Map) (s : ℕ) (g o : ℕ → Far) (x : ℕ → ℕ) → Going z s g o x → s < z.n → (v b : ℕ) → v < z.n → g v ≡ Never → o v ≡ At b → NoneNearer z o b → Lowest z s v (x v)
lowest_at z s g o x w ls v b lv h e near = record { fits = fits (w.had v b lv h e); low = λ y f. low y (fit_back z s v y ls lv f) }
  where
    is : far z v s ≡ At b
    is = exact z s g o x w ls v b lv h e near

    fits : (p : ℕ) × (c : ℕ) × (p < z.n) × (g p ≡ At c) × (0 < z.cost p v) × (b ≡ c + z.cost p v) × (x v ≡ first_by s x p v) → Fit z s v (x v)
    fits r = go (eqb r.0 s) refl
      where
        go : (t : Bool) → eqb r.0 s ≡ t → Fit z s v (x v)
        go true i =
            let q : r.0 ≡ s = eqb-true r.0 s i in
            let c0 : r.1 ≡ 0 = at_inj r.1 0 (sym r.3 ∙ ap g q ∙ w.home) in
            let cs : z.cost r.0 v ≡ z.cost s v = ap (λ (y : ℕ). z.cost y v) q in
            let xv : x v ≡ v = r.6 ∙ first_here s x r.0 v q in
            subst (λ (y : ℕ). Fit z s v y) (sym xv) (fit_self z s v b lv is (omega (arith, r.4)) (omega (arith, r.5)))
        go false i =
            let q : r.0 ≡ s → ⊥ = eqb-false r.0 s i in
            let d = w.done r.0 r.1 r.2 r.3 in
            let xv : x v ≡ x r.0 = r.6 ∙ first_there s x r.0 v q in
            subst (λ (y : ℕ). Fit z s v y) (sym xv)
            (fit_on z s r.0 v r.1 (x r.0) ls r.2 lv d.0 r.4 (is ∙ ap At r.5) (d.2 (λ i. q (sym i))).fits)

    low : (y : ℕ) →
        ((y ≡ v) × (far z v s ≡ At (z.cost s v)) × (0 < z.cost s v)) ⊎
        ((p : ℕ) × (k : ℕ) × (p < z.n) × (0 < z.cost p v) × (far z p s ≡ At k) × (far z v s ≡ At (k + z.cost p v)) × Fit z s p y) → x v ≤ y
    low y (inl r) =
        let q : b ≡ z.cost s v = at_inj b (z.cost s v) (sym is ∙ r.1) in
        let l : x v ≤ first_by s x s v = w.low v b s 0 lv ls h e w.home r.2 (omega arith) in
        omega (arith, l, first_here s x s v refl, r.0)
    low y (inr r) = go (g p) refl
      where
        p : ℕ
        p = r.0

        k : ℕ
        k = r.1

        q : b ≡ k + z.cost p v
        q = at_inj b (k + z.cost p v) (sym is ∙ r.5)

        ns : p ≡ s → ⊥
        ns i =
            let f = r.6 in
            let j : 0 ≡ z.cost s y + f.rest = at_inj 0 (z.cost s y + f.rest) (sym (far_self z s) ∙ ap (λ (a : ℕ). far z a s) (sym i) ∙ f.whole) in
            omega (arith, f.road)

        go : (f : Far) → g p ≡ f → x v ≤ y
        go Never i =
            let l : b ≤ k = beyond z s g o x w ls b near (suc k) p k r.2 (omega arith) i r.4 in
            absurd (omega (arith, q, l, r.3))
        go (At c) i =
            let d = w.done p c r.2 i in
            let ck : c ≡ k = at_inj c k (sym d.0 ∙ r.4) in
            let l : x v ≤ first_by s x p v = w.low v b p c lv r.2 h e i r.3 (omega (arith, q, ck)) in
            let m : x p ≤ y = (d.2 (λ i. ns (sym i))).low y r.6 in
            omega (arith, l, m, first_there s x p v ns)
