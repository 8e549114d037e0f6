-- The laws of pick: over fewer places, by an equal test, and its first one.
use Rattle.std.proofs.Common.{◌≡◌, ℕ, zero, suc, ◌+◌, ◌<◌, ◌≤◌, Bool, true, false, cond, not, ◌&&◌, eqb, ◌⊎◌, [], ◌∷◌, length, get_or, sym, refl, ap, ◌∙◌, inl, inr, suc-le-suc, zero-le, le_of_suc-le-suc, not-suc-le-zero, eq-or-lt_of_le, arith, eq-eqb, ne_eqb}
use mathlib.Core.Bool.{and-true, and-false}
use Rattle.model.specs.Code.{pick}
use Rattle.model.proofs.Tests.{of_cond}

-- one place after the other
pub pick_yes : (m k : ℕ) (f : ℕ → Bool) (i : ℕ) → f i ≡ true → pick (suc m) (suc k) f i ≡ i ∷ pick m k f (i + 1)
unfolding pick
pick_yes m k f i e = ap (λ b. cond b (i ∷ pick m k f (i + 1)) (pick m (suc k) f (i + 1))) e

pub pick_zero : (m : ℕ) (f : ℕ → Bool) (i : ℕ) → pick m 0 f i ≡ []
unfolding pick
pick_zero zero f i = refl
pick_zero (suc m) f i = refl

pub pick_not : (m k : ℕ) (f : ℕ → Bool) (i : ℕ) → f i ≡ false → pick (suc m) k f i ≡ pick m k f (i + 1)
unfolding pick
pick_not m zero f i e = sym (pick_zero m f (i + 1))
pick_not m (suc k) f i e = ap (λ b. cond b (i ∷ pick m k f (i + 1)) (pick m (suc k) f (i + 1))) e

-- none passes
pub pick_none : (m k : ℕ) (f : ℕ → Bool) (i : ℕ) → ((j : ℕ) → i ≤ j → f j ≡ false) → pick m k f i ≡ []
unfolding pick
pick_none zero k f i h = refl
pick_none (suc m) k f i h = pick_not m k f i (h i (omega arith)) ∙ pick_none m k f (i + 1) (λ j l. h j (omega arith))

-- two picks agree when they do at the first place and past it
pick_both : (m n k : ℕ) (f g : ℕ → Bool) (i : ℕ) → f i ≡ g i → ((k : ℕ) → pick m k f (i + 1) ≡ pick n k g (i + 1)) → pick (suc m) k f i ≡ pick (suc n) k g i
unfolding pick
pick_both m n zero f g i e h = refl
pick_both m n (suc k) f g i e h = go (f i) refl
  where
    go : (b : Bool) → f i ≡ b → pick (suc m) (suc k) f i ≡ pick (suc n) (suc k) g i
    go true q = pick_yes m k f i q ∙ ap (λ ps. i ∷ ps) (h k) ∙ sym (pick_yes n k g i (sym e ∙ q))
    go false q = pick_not m (suc k) f i q ∙ h (suc k) ∙ sym (pick_not n (suc k) g i (sym e ∙ q))

-- only the test's values at these places count
pub pick_same : (m k : ℕ) (f g : ℕ → Bool) (i : ℕ) → ((j : ℕ) → i ≤ j → j < i + m → f j ≡ g j) → pick m k f i ≡ pick m k g i
unfolding pick
pick_same zero k f g i h = refl
pick_same (suc m) k f g i h =
    pick_both m m k f g i (h i (omega arith) (omega arith)) (λ q. pick_same m q f g (i + 1) (λ j l u. h j (omega arith) (omega arith)))

-- where no place past the first n passes, these are enough
pub pick_short : (n m k : ℕ) (f : ℕ → Bool) (i : ℕ) → n ≤ m → ((j : ℕ) → i + n ≤ j → f j ≡ false) → pick m k f i ≡ pick n k f i
unfolding pick
pick_short zero m k f i l h = pick_none m k f i (λ j u. h j (omega arith))
pick_short (suc n) zero k f i l h = absurd (not-suc-le-zero l)
pick_short (suc n) (suc m) k f i l h =
    pick_both m n k f f i refl (λ q. pick_short n m q f (i + 1) (le_of_suc-le-suc l) (λ j u. h j (omega arith)))

-- no more than are asked for
pub pick_length : (m k : ℕ) (f : ℕ → Bool) (i : ℕ) → length (pick m k f i) ≤ k
unfolding pick
pick_length zero k f i = zero-le
pick_length (suc m) zero f i = zero-le
pick_length (suc m) (suc k) f i =
    of_cond (λ ps. length ps ≤ suc k) (f i) (i ∷ pick m k f (i + 1)) (pick m (suc k) f (i + 1)) (λ e. suc-le-suc (pick_length m k f (i + 1))) (λ e. pick_length m (suc k) f (i + 1))

-- p is one of the m places from i on, and passes
abbrev pub Passes : ℕ → (ℕ → Bool) → ℕ → ℕ → Type 0
Passes m f i p = (i ≤ p) × (p < i + m) × (f p ≡ true)

-- so does each that is picked
pub pick_at : (m k : ℕ) (f : ℕ → Bool) (i j : ℕ) → j < length (pick m k f i) → Passes m f i (get_or (pick m k f i) j 0)
unfolding pick
pick_at zero k f i j l = absurd (not-suc-le-zero l)
pick_at (suc m) zero f i j l = absurd (not-suc-le-zero l)
pick_at (suc m) (suc k) f i j l =
    of_cond (λ ps. j < length ps → Passes (suc m) f i (get_or ps j 0)) (f i) (i ∷ pick m k f (i + 1)) (pick m (suc k) f (i + 1))
    (λ e. first j e (pick_at m k f (i + 1)))
    (λ e u. wider (get_or (pick m (suc k) f (i + 1)) j 0) (pick_at m (suc k) f (i + 1) j u)) l
  where
    wider : (p : ℕ) → Passes m f (i + 1) p → Passes (suc m) f i p
    wider p h = (omega arith, omega arith, h.2)

    first : (j : ℕ) → f i ≡ true → ((q : ℕ) → q < length (pick m k f (i + 1)) → Passes m f (i + 1) (get_or (pick m k f (i + 1)) q 0)) →
        j < suc (length (pick m k f (i + 1))) → Passes (suc m) f i (get_or (i ∷ pick m k f (i + 1)) j 0)
    first zero e more u = (omega arith, omega arith, e)
    first (suc q) e more u = wider (get_or (pick m k f (i + 1)) q 0) (more q (le_of_suc-le-suc u))

-- the first that passes, and then the others
pub pick_first : (m k : ℕ) (f g : ℕ → Bool) (i t : ℕ) → i ≤ t → t < i + m → f t ≡ true → ((j : ℕ) → j < t → f j ≡ false) → ((j : ℕ) → g j ≡ (f j && not (eqb j t))) → pick m (suc k) f i ≡ t ∷ pick m k g i
pick_first zero k f g i t l u e none rest = absurd (omega arith)
pick_first (suc m) k f g i t l u e none rest = go (eq-or-lt_of_le l) (λ h. pick_first m k f g (i + 1) t (omega arith) (omega arith) e none rest)
  where
    here : i ≡ t → pick (suc m) (suc k) f i ≡ t ∷ pick (suc m) k g i
    here q =
        pick_yes m k f i (ap f q ∙ e)
        ∙ ap (λ ps. i ∷ ps) (pick_same m k f g (i + 1) (λ j a b. sym (rest j ∙ ap (λ c. f j && not c) (ne_eqb j t (omega arith)) ∙ and-true (f j))))
        ∙ ap (λ ps. i ∷ ps) (sym (pick_not m k g i (rest i ∙ ap (λ c. f i && not c) (eq-eqb i t q) ∙ and-false (f i))))
        ∙ ap (λ s. s ∷ pick (suc m) k g i) q

    go : (i ≡ t) ⊎ (i < t) → (i < t → pick m (suc k) f (i + 1) ≡ t ∷ pick m k g (i + 1)) → pick (suc m) (suc k) f i ≡ t ∷ pick (suc m) k g i
    go (inl q) more = here q
    go (inr h) more = pick_not m (suc k) f i (none i h) ∙ more h ∙ ap (λ ps. t ∷ ps) (sym (pick_not m k g i (rest i ∙ ap (λ c. c && not (eqb i t)) (none i h))))
