-- What holds of all below n, one by one.
use Rattle.std.proofs.Common.{◌≡◌, ℕ, zero, suc, ◌+◌, ◌<◌, Bool, true, false, ◌&&◌, List, [], ◌∷◌, length, get_or, sym, refl, ap, ◌∙◌, inl, inr, add-zero, add-one, arith}
use mathlib.Core.Bool.{and-true}
use Rattle.std.specs.List.{list_all, range_with_len, zip}
use Rattle.std.proofs.lemmas.Bool.{and_left, and_right, both_ways, cases_Bool, cases_eq}
use Rattle.model.specs.Promise.{all_below}
use Rattle.node.specs.declared.state.Node.{Node}

-- a test holds below m just where it does below k and of each of the others
all_on : (n k m : ℕ) (f : ℕ → Bool) → m ≡ k + n → all_below m f ≡ (all_below k f && list_all f (range_with_len k n))
unfolding all_below
all_on zero k m f e = ap (λ (i : ℕ). all_below i f) (e ∙ add-zero k) ∙ sym (and-true (all_below k f))
all_on (suc n) k m f e = all_on n (k + 1) m f (omega (arith, e)) ∙ rw (add-one k) (both (f k) (all_below k f) (list_all f (range_with_len (suc k) n)))
  where
    both : (a b c : Bool) → ((a && b) && c) ≡ (b && (a && c))
    both true true c = refl
    both true false c = refl
    both false true c = refl
    both false false c = refl

-- all of the numbers below n pass
pub all_listed : (n : ℕ) (f : ℕ → Bool) → list_all f (range_with_len 0 n) ≡ all_below n f
unfolding all_below
all_listed n f = sym (all_on n 0 n f (omega arith))

-- a test of boxes with their numbers holds of all just where one of the numbers does
pub all_zipped : (k : ℕ) (ss : List Node) (g : ℕ × Node → Bool) (f : ℕ → Bool) → ((i x : ℕ) (d : Node) → x ≡ k + i → i < length ss → g (x, get_or ss i d) ≡ f x) → list_all g (zip (range_with_len k (length ss)) ss) ≡ list_all f (range_with_len k (length ss))
all_zipped k [] g f h = refl
all_zipped k (s ∷ ss) g f h = λ j. h 0 k s (omega arith) (omega arith) j && all_zipped (k + 1) ss g f (λ i x d e l. h (suc i) x d (omega (arith, e)) (omega (arith, l))) j

-- one that fails
pub all_fails : (n i : ℕ) (f : ℕ → Bool) → i < n → f i ≡ false → all_below n f ≡ false
unfolding all_below
all_fails zero i f h e = absurd (omega arith)
all_fails (suc n) i f h e =
    elim (cases_eq i n) [ inl p ↦ and_left (f n) (all_below n f) (ap f (sym p) ∙ e) | inr p ↦ and_right (f n) (all_below n f) (all_fails n i f (omega arith) e) ]

-- tests that agree below n
pub all_same : (n : ℕ) (f g : ℕ → Bool) → ((i : ℕ) → i < n → f i ≡ g i) → all_below n f ≡ all_below n g
unfolding all_below
all_same zero f g h = refl
all_same (suc n) f g h = λ k. h n (omega arith) k && all_same n f g (λ i l. h i (omega arith)) k

-- each of all
pub all_at : (n i : ℕ) (f : ℕ → Bool) → i < n → all_below n f ≡ true → f i ≡ true
all_at n i f l h = elim (cases_Bool (f i)) [ inl p ↦ p | inr p ↦ absurd (both_ways (all_below n f) (all_fails n i f l p) h) ]
