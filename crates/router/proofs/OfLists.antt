-- What the model counts or tests below a number, in the words of lists.
use Rattle.std.proofs.Common.{◌≡◌, ℕ, zero, suc, ◌+◌, Bool, true, false, cond, not, ◌&&◌, ◌||◌, ltb, List, [], ◌∷◌, length, refl, sym, ap, ◌∙◌, add-zero, add-one, arith}
use mathlib.Core.Bool.{and-true}
use Rattle.std.specs.List.{count_by, list_any, range_with_len}
use Rattle.std.proofs.lemmas.List.Sums.{sum_by-cons}
use Rattle.messages.specs.Values.{at}
use Rattle.model.specs.Box.{Box}
use Rattle.model.specs.Promise.{all_below}
use Rattle.router.specs.State.{open_below}

-- the open roads to the boxes below m are those below k and those of which the costs xs say so
pub open_counted : (xs : List ℕ) (k m : ℕ) (s : Box) → m ≡ k + length xs → ((i j : ℕ) → i ≡ k + j → s.cost i ≡ at xs j) → open_below m s ≡ open_below k s + count_by (λ x. ltb 0 x) xs
unfolding open_below
open_counted [] k m s e h = ap (λ (i : ℕ). open_below i s) (e ∙ add-zero k) ∙ sym (add-zero (open_below k s))
open_counted (x ∷ xs) k m s e h =
    let p : ℕ → Bool = λ c. ltb 0 c in
    let rest = open_counted xs (k + 1) m s (omega (arith, e)) (λ i j q. h i (suc j) (omega (arith, q))) in
    let next : open_below (k + 1) s ≡ open_below k s + cond (p x) 1 0 = ap (λ (i : ℕ). open_below i s) (add-one k) ∙ ap (λ (c : ℕ). open_below k s + cond (p c) 1 0) (h k 0 (sym (add-zero k))) in
    let more : count_by p (x ∷ xs) ≡ cond (p x) 1 0 + count_by p xs = sum_by-cons (λ c. cond (p c) 1 0) x xs in
    omega (arith, rest, next, more)

-- a test fails below m if it fails below k or at one of the others
pub any_fails : (n k m : ℕ) (f : ℕ → Bool) → m ≡ k + n → all_below m f ≡ (all_below k f && not (list_any (λ x. not (f x)) (range_with_len k n)))
unfolding all_below
any_fails zero k m f e = ap (λ (i : ℕ). all_below i f) (e ∙ add-zero k) ∙ sym (and-true (all_below k f))
any_fails (suc n) k m f e =
    any_fails n (k + 1) m f (omega (arith, e)) ∙ rw (add-one k) (both (f k) (all_below k f) (list_any (λ x. not (f x)) (range_with_len (suc k) n)))
  where
    both : (a b c : Bool) → ((a && b) && not c) ≡ (b && not (not a || c))
    both true true c = refl
    both true false c = refl
    both false true c = refl
    both false false c = refl

-- and so below n
pub some_fails : (n : ℕ) (f : ℕ → Bool) → list_any (λ x. not (f x)) (range_with_len 0 n) ≡ not (all_below n f)
unfolding all_below
some_fails n f = sym (ap not (any_fails n 0 n f (omega arith)) ∙ twice (list_any (λ x. not (f x)) (range_with_len 0 n)))
  where
    twice : (b : Bool) → not (true && not b) ≡ b
    twice true = refl
    twice false = refl
