-- Up to n of the lowest places of a number of w bits, taken one after the other.
use Rattle.std.proofs.Common.{◌≡◌, ℕ, suc, ◌+◌, ◌-◌, ◌^◌, ◌<◌, ◌≤◌, ◌⊎◌, List, [], ◌∷◌, ◌++◌, length, set, replicate, sym, refl, ap, ◌∙◌, inl, inr, append_assoc, append-nil, zero-le, arith, length-append}
use lib.Bits.{bit_and, and_le_l}
use lib.Count.{count_trailing_zeros}
use lib.Seq.{set_at}
use Rattle.model.specs.Code.{pick}
use Rattle.bits.specs.Bits.{bit, padded}
use Rattle.bits.proofs.Picks.{pick_zero}
use Rattle.bits.proofs.Lowest.{pick_lowest, pick_empty}

-- count places of x are taken and stand in items; those of left are yet to be
pub record Taking (w n x left count : ℕ) (items : List ℕ) : Type 0 where
  pub taken : List ℕ
  pub many : length taken ≡ count
  pub room : count ≤ n
  pub small : left < 2 ^ w
  pub shown : items ≡ padded n taken
  pub whole : taken ++ pick w (n - count) (bit left) 0 ≡ pick w n (bit x) 0

-- none yet
pub taking_none : (w n x : ℕ) → x < 2 ^ w → Taking w n x x 0 (replicate n 0)
taking_none w n x h = record {
  taken = [];
  many = refl;
  room = zero-le;
  small = h;
  shown = let all : n - 0 ≡ n = omega arith in sym (ap (λ (k : ℕ). replicate k 0) all);
  whole = let all : n - 0 ≡ n = omega arith in ap (λ (k : ℕ). pick w k (bit x) 0) all;
}

-- one more
pub taking_more : (w n x left count : ℕ) (items : List ℕ) → 0 < left → count < n → Taking w n x left count items → Taking w n x (bit_and left (left - 1)) (count + 1) (set items count (count_trailing_zeros w left))
taking_more w n x left count items p l s = record {
  taken = s.taken ++ (t ∷ []);
  many = more;
  room = omega arith;
  small = omega (arith, s.small, and_le_l left (left - 1));
  shown =
      ap (λ v. set v count t) (s.shown ∙ ap (λ (k : ℕ). s.taken ++ replicate k 0) before)
      ∙ set_at s.taken 0 (replicate r 0) t count s.many
      ∙ sym (append_assoc s.taken (t ∷ []) (replicate (n - length (s.taken ++ (t ∷ []))) 0) ∙ ap (λ (k : ℕ). s.taken ++ (t ∷ replicate k 0)) after);
  whole =
      append_assoc s.taken (t ∷ []) (pick w r (bit (bit_and left (left - 1))) 0)
      ∙ ap (λ v. s.taken ++ v) (sym (pick_lowest w r left p s.small) ∙ ap (λ (k : ℕ). pick w k (bit left) 0) one)
      ∙ s.whole;
}
  where
    t : ℕ
    t = count_trailing_zeros w left

    r : ℕ
    r = n - (count + 1)

    more : length (s.taken ++ (count_trailing_zeros w left ∷ [])) ≡ count + 1
    more = length-append s.taken (count_trailing_zeros w left ∷ []) ∙ ap (λ (k : ℕ). k + 1) s.many

    before : n - length s.taken ≡ suc (n - (count + 1))
    before = omega (arith, s.many)

    after : n - length (s.taken ++ (count_trailing_zeros w left ∷ [])) ≡ n - (count + 1)
    after = ap (λ (k : ℕ). n - k) more

    one : suc (n - (count + 1)) ≡ n - count
    one = omega arith

-- no more to take: these are all
pub taking_all : (w n x left count : ℕ) (items : List ℕ) → (left ≡ 0) ⊎ (n ≤ count) → Taking w n x left count items → (count ≡ length (pick w n (bit x) 0)) × (items ≡ padded n (pick w n (bit x) 0))
taking_all w n x left count items e s = (sym s.many ∙ ap length is, s.shown ∙ ap (padded n) is)
  where
    rest : (left ≡ 0) ⊎ (n ≤ count) → pick w (n - count) (bit left) 0 ≡ []
    rest (inl z) = ap (λ (y : ℕ). pick w (n - count) (bit y) 0) z ∙ pick_empty w (n - count)
    rest (inr l) = let none : n - count ≡ 0 = omega arith in ap (λ (k : ℕ). pick w k (bit left) 0) none ∙ pick_zero w (bit left) 0

    is : s.taken ≡ pick w n (bit x) 0
    is = sym (append-nil s.taken) ∙ ap (λ v. s.taken ++ v) (sym (rest e)) ∙ s.whole
