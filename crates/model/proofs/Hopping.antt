-- The lowest next place on a least way is one policy.
use Rattle.std.proofs.Common.{◌≡◌, ℕ, zero, suc, ◌+◌, ◌<◌, ◌≤◌, Bool, true, false, cond, ◌&&◌, T, eqb, sym, refl, ap, ◌∙◌, zero-le, arith}
use borrow.Author.Tests.{clash}
use Rattle.std.proofs.lemmas.Bool.{eqb-false, eq-eqb}
use Rattle.model.specs.Map.{Map, Far, Never, At, plus, far, Nowhere, To, hop, first_of, has_way, same_far}
use Rattle.model.specs.Ways.{Picks, HopPicks}
use Rattle.model.proofs.Fars.{plus_inv, same_true, same_self}
use Rattle.model.proofs.Settled.{far_had}

-- e is next to a on a least way to d
abbrev pub on_least : Map → ℕ → ℕ → ℕ → Bool
on_least z d a e = has_way (plus (z.cost a e) (far z d e)) && same_far (plus (z.cost a e) (far z d e)) (far z d a)

-- the first of e, e + 1, .. that is, if x is one
pub first_had : (z : Map) (d a e k x : ℕ) → e ≤ x → x < e + k → on_least z d a x ≡ true → (v : ℕ) × (first_of z d a e k ≡ To v) × (v < e + k) × (on_least z d a v ≡ true)
unfolding first_of
first_had z d a e zero x l m h = absurd (omega arith)
first_had z d a e (suc k) x l m h = go (on_least z d a e) refl (λ q. first_had z d a (e + 1) k x q (omega arith) h)
  where
    go : (b : Bool) → on_least z d a e ≡ b → (e + 1 ≤ x → (v : ℕ) × (first_of z d a (e + 1) k ≡ To v) × (v < e + 1 + k) × (on_least z d a v ≡ true)) →
        (v : ℕ) × (cond (on_least z d a e) (To e) (first_of z d a (e + 1) k) ≡ To v) × (v < e + suc k) × (on_least z d a v ≡ true)
    go true i r = (e, ap (λ (b : Bool). cond b (To e) (first_of z d a (e + 1) k)) i, omega arith, i)
    go false i r =
        let ne : e ≡ x → ⊥ = λ q. clash (sym i ∙ ap (λ (y : ℕ). on_least z d a y) q ∙ h) in
        let s = r (omega arith) in
        (s.0, ap (λ (b : Bool). cond b (To e) (first_of z d a (e + 1) k)) i ∙ s.1, omega (arith, s.2), s.3)

-- nobody, if none is
pub first_none : (z : Map) (d a e k : ℕ) → ((x : ℕ) → e ≤ x → x < e + k → on_least z d a x ≡ false) → first_of z d a e k ≡ Nowhere
unfolding first_of
first_none z d a e zero h = refl
first_none z d a e (suc k) h = ap (λ (b : Bool). cond b (To e) (first_of z d a (e + 1) k)) (h e (omega arith) (omega arith)) ∙ first_none z d a (e + 1) k (λ x l m. h x (omega arith) (omega arith))

pub hop_away : (z : Map) (d a : ℕ) → eqb a d ≡ false → hop z d a ≡ first_of z d a 0 z.n
hop_away z d a h = ap (λ (b : Bool). cond b Nowhere (first_of z d a 0 z.n)) h

pub hop_home : (z : Map) (d : ℕ) → hop z d d ≡ Nowhere
hop_home z d = ap (λ (b : Bool). cond b Nowhere (first_of z d d 0 z.n)) (eq-eqb d d refl)

-- the test passes at the least
least_same : (f : Far) (g : Far) (c : ℕ) → g ≡ At c → f ≡ At c → (has_way f && same_far f g) ≡ true
least_same f g c h i = rw (h, i) (same_self (At c))

-- and only there
same_least : (f g : Far) → (has_way f && same_far f g) ≡ true → (f ≡ g) × T (has_way f)
same_least Never g h = absurd (clash h)
same_least (At c) g h = (same_true (At c) g h, tt)

-- and nowhere if there is no way
none_same : (f g : Far) → g ≡ Never → (has_way f && same_far f g) ≡ false
none_same Never g h = refl
none_same (At c) g h = rw h refl

pub hop_pick : (z : Map) (d : ℕ) → Picks z d (hop z d)
hop_pick z d a c l ne h =
    let x = far_had z d a c l (eqb-false a d ne) h in
    let s = first_had z d a 0 z.n x.0 zero-le (omega (arith, x.1)) (least_same (plus (z.cost a x.0) (far z d x.0)) (far z d a) c h x.3) in
    let q = same_least (plus (z.cost a s.0) (far z d s.0)) (far z d a) s.3 in
    let i = plus_inv (z.cost a s.0) (far z d s.0) c (q.0 ∙ h) in
    (s.0, hop_away z d a ne ∙ s.1, omega (arith, s.2), i.2, sym q.0)

pub hop_never : (z : Map) (d a : ℕ) → far z d a ≡ Never → hop z d a ≡ Nowhere
hop_never z d a h = go (eqb a d) refl
  where
    go : (b : Bool) → eqb a d ≡ b → cond b Nowhere (first_of z d a 0 z.n) ≡ Nowhere
    go true i = refl
    go false i = first_none z d a 0 z.n (λ x l m. none_same (plus (z.cost a x) (far z d x)) (far z d a) h)

pub hop_picks_lem : HopPicks
hop_picks_lem z d l = (hop_pick z d, λ a m h. hop_never z d a h, hop_home z d)
