-- How many places below a number have a Boolean property.
use Rattle.std.proofs.Common.{◌≡◌, ℕ, zero, suc, ◌+◌, ◌<◌, ◌≤◌, Bool, true, false, cond, T, eqb, refl, subst, zero-le, arith}
use Rattle.std.proofs.lemmas.Bool.{eqb-true, eqb-false}

-- a test counts for one if it passes
abbrev pub one : Bool → ℕ
one b = cond b 1 0

pub one_le : (b : Bool) → one b ≤ 1
one_le true = omega arith
one_le false = omega arith

pub one_mono : (p q : Bool) → (T p → T q) → one p ≤ one q
one_mono true true h = omega arith
one_mono true false h = absurd (h tt)
one_mono false q h = zero-le

-- a test that passes when there is nothing counts for no more than there is if it fails
pub fails_le : (b : Bool) (k : ℕ) → (k ≡ 0 → T b) → cond b 0 1 ≤ k
fails_le true k h = zero-le
fails_le false zero h = absurd (h refl)
fails_le false (suc k) h = omega arith

-- how many of 0 to n - 1 have it
unfoldable pub count : ℕ → (ℕ → Bool) → ℕ
count zero p = 0
count (suc n) p = one (p n) + count n p

pub count_le : (n : ℕ) (p : ℕ → Bool) → count n p ≤ n
unfolding count
count_le zero p = zero-le
count_le (suc n) p = omega (arith, count_le n p, one_le (p n))

-- what holds of more counts for no less
pub count_mono : (n : ℕ) (p q : ℕ → Bool) → ((x : ℕ) → x < n → T (p x) → T (q x)) → count n p ≤ count n q
unfolding count
count_mono zero p q h = zero-le
count_mono (suc n) p q h =
    let hn : one (p n) ≤ one (q n) = one_mono (p n) (q n) (h n (omega arith)) in
    let hr : count n p ≤ count n q = count_mono n p q (λ x l. h x (omega arith)) in
    omega arith

one_lt : (p q : Bool) → p ≡ false → q ≡ true → one p < one q
one_lt p q e f = rw (e, f) (omega arith)

-- what holds of strictly more counts for more
pub count_lt : (n : ℕ) (p q : ℕ → Bool) → ((x : ℕ) → x < n → T (p x) → T (q x)) → (e : ℕ) → e < n → p e ≡ false → q e ≡ true → count n p < count n q
unfolding count
count_lt zero p q h e l pe qe = omega arith
count_lt (suc n) p q h e l pe qe = go (eqb e n) refl (λ m. count_lt n p q (λ x k. h x (omega arith)) e m pe qe)
  where
    go : (b : Bool) → eqb e n ≡ b → (e < n → count n p < count n q) → one (p n) + count n p < one (q n) + count n q
    go true i r =
        let en : e ≡ n = eqb-true e n i in
        let hr : count n p ≤ count n q = count_mono n p q (λ x k. h x (omega arith)) in
        let hn : one (p n) < one (q n) = one_lt (p n) (q n) (subst (λ (k : ℕ). p k ≡ false) en pe) (subst (λ (k : ℕ). q k ≡ true) en qe) in
        omega arith
    go false i r =
        let hr : count n p < count n q = r (omega (arith, eqb-false e n i)) in
        let hn : one (p n) ≤ one (q n) = one_mono (p n) (q n) (h n (omega arith)) in
        omega arith

-- what fails somewhere doesn't count for all
pub count_below : (n : ℕ) (p : ℕ → Bool) (e : ℕ) → e < n → p e ≡ false → count n p < n
count_below n p e l pe =
    let h : count n p < count n (λ x. true) = count_lt n p (λ x. true) (λ x k t. tt) e l pe refl in
    omega (arith, count_le n (λ x. true))
