-- What holds of all numbers below n, and as a test; finding one that passes, and bounding.
use Rattle.std.proofs.Common.{◌≡◌, ℕ, zero, suc, ◌+◌, ◌<◌, ◌≤◌, Bool, true, false, ◌&&◌, ◌||◌, T, ◌⊎◌, sym, subst, inl, inr, ⊎_elim, arith}
use Rattle.std.proofs.lemmas.Bool.{cases_eq, cases_Bool}
use Rattle.model.specs.Promise.{all_below}
use Rattle.model.proofs.Tests.{both_t, left_t, right_t, or_t, or_t_left, or_t_right, same_t}

-- what holds below n and at n holds below suc n
pub below_suc : (A : ℕ → Type 0) (n : ℕ) → ((p : ℕ) → p < n → A p) → A n → (p : ℕ) → p < suc n → A p
below_suc A n h k p l = ⊎_elim (λ e. subst A (sym e) k) (λ ne. h p (omega arith)) (cases_eq p n)

-- each below n is an A, unless there is a B
pub each_or : (n : ℕ) (A : ℕ → Type 0) (B : Type 0) → ((p : ℕ) → p < n → A p ⊎ B) → ((p : ℕ) → p < n → A p) ⊎ B
each_or zero A B d = inl (λ p l. let z : ⊥ = omega arith in absurd z)
each_or (suc n) A B d = ⊎_elim (λ h. ⊎_elim (λ a. inl (below_suc A n h a)) inr (d n (omega arith))) inr (each_or n A B (λ p l. d p (omega arith)))

-- some p below n passes, or none does
pub find : (n : ℕ) (f : ℕ → Bool) → ((p : ℕ) × (p < n) × (f p ≡ true)) ⊎ ((p : ℕ) → p < n → f p ≡ false)
find n f = ⊎_elim inr inl (each_or n (λ p. f p ≡ false) ((p : ℕ) × (p < n) × (f p ≡ true)) (λ p l. ⊎_elim (λ e. inr (p, l, e)) inl (cases_Bool (f p))))

pub below_so : (n : ℕ) (f : ℕ → Bool) → T (all_below n f) → (x : ℕ) → x < n → T (f x)
unfolding all_below
below_so zero f h x l = absurd (let k : ⊥ = omega arith in k)
below_so (suc n) f h x l = below_suc (λ y. T (f y)) n (below_so n f (right_t (f n) (all_below n f) h)) (left_t (f n) (all_below n f) h) x l

pub so_below : (n : ℕ) (f : ℕ → Bool) → ((x : ℕ) → x < n → T (f x)) → T (all_below n f)
unfolding all_below
so_below zero f h = tt
so_below (suc n) f h = both_t (f n) (all_below n f) (h n (omega arith)) (so_below n f (λ x l. h x (omega arith)))

-- what does not hang on the number leaves the test
below_or : (n : ℕ) (g : ℕ → Bool) (c : Bool) → ((x : ℕ) → x < n → T (g x || c)) → T (all_below n g || c)
below_or n g true h = or_t_right (all_below n g) true tt
below_or n g false h = or_t_left (all_below n g) false (so_below n g (λ x l. go x (or_t (g x) false (h x l))))
  where
    go : (x : ℕ) → T (g x) ⊎ ⊥ → T (g x)
    go x (inl p) = p
    go x (inr p) = absurd p

or_below : (n : ℕ) (g : ℕ → Bool) (c : Bool) → T (all_below n g || c) → (x : ℕ) → x < n → T (g x || c)
or_below n g c h x l = go (or_t (all_below n g) c h)
  where
    go : T (all_below n g) ⊎ T c → T (g x || c)
    go (inl p) = or_t_left (g x) c (below_so n g p x l)
    go (inr p) = or_t_right (g x) c p

pub below_split : (n : ℕ) (f g : ℕ → Bool) (c : Bool) → all_below n (λ x. f x && (g x || c)) ≡ (all_below n f && (all_below n g || c))
below_split n f g c = same_t (all_below n (λ x. f x && (g x || c))) (all_below n f && (all_below n g || c))
    (λ h. both_t (all_below n f) (all_below n g || c) (so_below n f (λ x l. left_t (f x) (g x || c) (below_so n (λ x. f x && (g x || c)) h x l))) (below_or n g c (λ x l. right_t (f x) (g x || c) (below_so n (λ x. f x && (g x || c)) h x l))))
    (λ h. so_below n (λ x. f x && (g x || c)) (λ x l. both_t (f x) (g x || c) (below_so n f (left_t (all_below n f) (all_below n g || c) h) x l) (or_below n g c (right_t (all_below n f) (all_below n g || c) h) x l)))

-- a number that none below n exceeds
pub bound : (n : ℕ) (f : ℕ → ℕ) → (m : ℕ) × ((p : ℕ) → p < n → f p ≤ m)
bound zero f = (0, λ p l. omega arith)
bound (suc n) f = let r = bound n f in (r.0 + f n, below_suc (λ p. f p ≤ r.0 + f n) n (λ p l. omega (arith, r.1 p l)) (omega arith))
