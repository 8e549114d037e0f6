-- The numbers of distances, and an offer in numbers.
-- Assumes nothing.
use Rattle.std.proofs.Common.{◌≡◌, ℕ, ◌<◌, ◌≤◌, Bool, true, false, cond, ◌&&◌, eqb, ltb, ◌⊎◌, List, get_or, sym, refl, ap, ◌∙◌, inl, inr, arith, ltb-false, ltb-true, eq-eqb, ne_eqb, eqb-true}
use borrow.Author.Tests.{eqb-false}
use Rattle.model.specs.Map.{Far, Never, At}
use Rattle.model.proofs.Fars.{at_inj, never_at}
use Rattle.ways.specs.Numbers.{far_of}
use Rattle.ways.specs.Turns.{less_of, next_of}
use Rattle.ways.proofs.Turn.{Out, Taken, Kept}

-- a list of distances, and one of next boxes
abbrev pub fars : List ℕ → ℕ → Far
fars xs k = far_of (get_or xs k 0)

-- an open distance: 0 stands at a box gone through
abbrev pub open_of : ℕ → Far
open_of k = cond (eqb k 0) Never (far_of k)

abbrev pub opens : List ℕ → ℕ → Far
opens xs k = open_of (get_or xs k 0)

abbrev pub nums : List ℕ → ℕ → ℕ
nums xs k = get_or xs k 0

pub far_at : (k : ℕ) → (k ≡ 4294967295 → ⊥) → far_of k ≡ At k
far_at k h = ap (λ (b : Bool). cond b Never (At k)) (ne_eqb k 4294967295 h)

pub far_never : (k : ℕ) → k ≡ 4294967295 → far_of k ≡ Never
far_never k h = ap (λ (b : Bool). cond b Never (At k)) (eq-eqb k 4294967295 h)

pub at_far : (k m : ℕ) → far_of k ≡ At m → (k ≡ m) × (k ≡ 4294967295 → ⊥)
at_far k m h = go (eqb k 4294967295) refl h
  where
    go : (b : Bool) → eqb k 4294967295 ≡ b → cond b Never (At k) ≡ At m → (k ≡ m) × (k ≡ 4294967295 → ⊥)
    go true i e = absurd (never_at m e)
    go false i e = (at_inj k m e, eqb-false k 4294967295 i)

pub never_far : (k : ℕ) → far_of k ≡ Never → k ≡ 4294967295
never_far k h = go (eqb k 4294967295) refl h
  where
    go : (b : Bool) → eqb k 4294967295 ≡ b → cond b Never (At k) ≡ Never → k ≡ 4294967295
    go true i e = eqb-true k 4294967295 i
    go false i e = absurd (never_at k (sym e))

pub open_far : (k : ℕ) → 0 < k → open_of k ≡ far_of k
open_far k p = ap (λ (b : Bool). cond b Never (far_of k)) (ne_eqb k 0 (λ h. omega arith))

pub open_zero : (k : ℕ) → k ≡ 0 → open_of k ≡ Never
open_zero k h = ap (λ (b : Bool). cond b Never (far_of k)) (eq-eqb k 0 h)

pub open_never : (k : ℕ) → k ≡ 4294967295 → open_of k ≡ Never
open_never k h = open_far k (omega arith) ∙ far_never k h

pub open_at : (k : ℕ) → 0 < k → (k ≡ 4294967295 → ⊥) → open_of k ≡ At k
open_at k p h = open_far k p ∙ far_at k h

pub at_open : (k m : ℕ) → open_of k ≡ At m → (k ≡ m) × (0 < k) × (k ≡ 4294967295 → ⊥)
at_open k m h = go (eqb k 0) refl h
  where
    go : (b : Bool) → eqb k 0 ≡ b → cond b Never (far_of k) ≡ At m → (k ≡ m) × (0 < k) × (k ≡ 4294967295 → ⊥)
    go true i e = absurd (never_at m e)
    go false i e = let r = at_far k m e in let ne : k ≡ 0 → ⊥ = eqb-false k 0 i in (r.0, omega arith, r.1)

-- an offer, in numbers
pub offer_out : (o o' x x' sum f : ℕ) → 0 < o → o ≤ 4294967295 → 0 < sum → sum < 4294967295 → o' ≡ less_of sum o → x' ≡ next_of sum o f x → Out (open_of o) (open_of o') x x' sum f
offer_out o o' x x' sum f po lo ps ls p q = go (ltb sum o) refl
  where
    tie : (b : Bool) → ltb sum o ≡ false → (eqb sum o && ltb f x) ≡ b → (x' ≤ x) × (o ≡ sum → x' ≤ f) × ((x' ≡ x) ⊎ ((o ≡ sum) × (x' ≡ f)))
    tie true i j =
        let e : x' ≡ f = q ∙ ap (λ (b : Bool). cond b f (cond (eqb sum o && ltb f x) f x)) i ∙ ap (λ (b : Bool). cond b f x) j in
        let s = both (eqb sum o) (ltb f x) j in
        let l : f < x = ltb-true f x s.1 in
        let m : sum ≡ o = eqb-true sum o s.0 in
        (omega arith, λ _. omega arith, inr (omega arith, e))
      where
        both : (a b : Bool) → (a && b) ≡ true → (a ≡ true) × (b ≡ true)
        both true b h = (refl, h)
        both false b h = let z : ◌≡◌ {A = ℕ} 0 1 = cc in absurd (omega arith)
    tie false i j =
        let e : x' ≡ x = q ∙ ap (λ (b : Bool). cond b f (cond (eqb sum o && ltb f x) f x)) i ∙ ap (λ (b : Bool). cond b f x) j in
        (omega arith, λ k. let l : x ≤ f = ltb-false f x (sym (ap (λ (b : Bool). b && ltb f x) (eq-eqb sum o (sym k))) ∙ j) in omega arith, inl e)

    go : (b : Bool) → ltb sum o ≡ b → Out (open_of o) (open_of o') x x' sum f
    go true i =
        let e : o' ≡ sum = p ∙ ap (λ (b : Bool). cond b sum o) i in
        let l : sum < o = ltb-true sum o i in
        Taken (λ m h. let r = at_open o m h in omega (arith, r.0)) (ap open_of e ∙ open_at sum ps (λ h. omega arith)) (q ∙ ap (λ (b : Bool). cond b f (cond (eqb sum o && ltb f x) f x)) i)
    go false i =
        let e : o' ≡ o = p ∙ ap (λ (b : Bool). cond b sum o) i in
        let l : o ≤ sum = ltb-false sum o i in
        let n : o ≡ 4294967295 → ⊥ = λ h. omega arith in
        let t = tie (eqb sum o && ltb f x) i refl in
        Kept o (open_at o po n) (ap open_of e ∙ open_at o po n) l t.0 t.1 t.2
