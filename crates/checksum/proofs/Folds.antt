-- The sum in one's complement is the plain sum of the words, less a multiple of 65535; it is 0 only where that is.
-- Assumes nothing.
use Rattle.std.proofs.Common.{◌≡◌, ℕ, zero, suc, ◌+◌, ◌*◌, ◌/◌, ◌%◌, ◌<◌, ◌≤◌, ◌≢◌, ◌⊎◌, List, [], ◌∷◌, length, get_or, set, sym, refl, ◌∙◌, subst, ap₂, inl, inr, arith, get_or-set_other}
use Rattle.std.proofs.lemmas.Bool.{cases_order}
use Rattle.checksum.proofs.Bytes.{bytes_set}
use Rattle.checksum.specs.Bytes.{Bytes}
use Rattle.checksum.specs.Internet.{words_of, ones_add, added_to, ones_sum, word_at, put_word, total, Leaves}

pub leaves_on : (n m s : ℕ) → Leaves n m → Leaves m s → Leaves n s
leaves_on n m s f g =
    record {
      times = f.times + g.times;
      is = omega (arith, f.is, g.is);
      none = elim f.none [ inl z ↦ inl z | inr p ↦ elim g.none [ inl z ↦ absurd (omega arith) | inr q ↦ inr q ] ];
    }

pub leaves_same : (n : ℕ) → Leaves n n
leaves_same zero = record { times = 0; is = refl; none = inl refl }
leaves_same (suc n) = record { times = 0; is = omega arith; none = inr (omega arith) }

pub leaves_more : (n s k : ℕ) → Leaves n s → Leaves (n + k) (s + k)
leaves_more n s k f =
    record {
      times = f.times;
      is = omega (arith, f.is);
      none = elim f.none [ inl z ↦ zeros k refl z | inr p ↦ inr (omega arith) ];
    }
  where
    zeros : (v : ℕ) → k ≡ v → n ≡ 0 → (n + k ≡ 0) ⊎ (0 < s + k)
    zeros zero e z = inl (omega arith)
    zeros (suc v) e z = inr (omega arith)

-- what is over 16 bits, put in at the low end
pub leaves_fold : (n : ℕ) → Leaves n (n % 65536 + n / 65536)
leaves_fold zero = record { times = 0; is = refl; none = inl refl }
leaves_fold (suc n) = record { times = suc n / 65536; is = omega arith; none = inr (omega arith) }

-- s is what n leaves in one word
pub record Folds (n s : ℕ) : Type 0 where
  pub leaves : Leaves n s
  pub small : s ≤ 65535

pub folds_add : (n s w : ℕ) → w ≤ 65535 → Folds n s → Folds (n + w) (ones_add s w)
unfolding ones_add
folds_add n s w h f =
    record {
      leaves = leaves_on (n + w) (s + w) ((s + w) % 65536 + (s + w) / 65536) (leaves_more n s w f.leaves) (leaves_fold (s + w));
      small = omega (arith, f.small);
    }

pub folds_same : (n s t : ℕ) → Folds n s → Folds n t → s ≡ t
folds_same n s t f g = same f.leaves g.leaves f.small g.small
  where
    same : Leaves n s → Leaves n t → s ≤ 65535 → t ≤ 65535 → s ≡ t
    same a b hs ht =
        elim (cases_order a.times b.times) [
          | inl e ↦ omega (arith, a.is, b.is, e)
          | inr (inl l) ↦ elim b.none [ inl z ↦ omega (arith, a.is, b.is) | inr p ↦ omega (arith, a.is, b.is) ]
          | inr (inr l) ↦ elim a.none [ inl z ↦ omega (arith, a.is, b.is) | inr p ↦ omega (arith, a.is, b.is) ]
        ]

pub folds_zero : Folds 0 0
folds_zero = record { leaves = leaves_same 0; small = omega arith }

-- ---- the words of bytes

added_folds : (n s : ℕ) (bytes : List ℕ) → Bytes bytes → Folds n s → Folds (n + total bytes) (added_to s (words_of bytes))
added_folds n s [] h f = let e : n ≡ n + 0 = omega arith in subst (λ (m : ℕ). Folds m s) e f
added_folds n s (a ∷ []) h f =
    let e : n + a * 256 ≡ n + (a * 256 + 0) = omega arith in
    subst (λ (m : ℕ). Folds m (ones_add s (a * 256))) e (folds_add n s (a * 256) (omega (arith, h.0)) f)
added_folds n s (a ∷ b ∷ bs) h f =
    let e : n + (a * 256 + b) + total bs ≡ n + (a * 256 + b + total bs) = omega arith in
    subst (λ (m : ℕ). Folds m (added_to (ones_add s (a * 256 + b)) (words_of bs))) e
    (added_folds (n + (a * 256 + b)) (ones_add s (a * 256 + b)) bs h.1.1
    (folds_add n s (a * 256 + b) (omega (arith, h.0, h.1.0)) f))

pub sum_folds : (bytes : List ℕ) → Bytes bytes → Folds (total bytes) (ones_sum bytes)
sum_folds bytes h =
    let e : 0 + total bytes ≡ total bytes = omega arith in
    subst (λ (m : ℕ). Folds m (ones_sum bytes)) e (added_folds 0 0 bytes h folds_zero)

-- a byte other than 0 shows in the sum
pub total_pos : (bytes : List ℕ) (j : ℕ) → 0 < get_or bytes j 0 → 0 < total bytes
total_pos [] j h = absurd (omega arith)
total_pos (a ∷ []) zero h = omega arith
total_pos (a ∷ []) (suc j) h = absurd (omega arith)
total_pos (a ∷ b ∷ bs) zero h = omega arith
total_pos (a ∷ b ∷ bs) (suc zero) h = omega arith
total_pos (a ∷ b ∷ bs) (suc (suc j)) h = omega (arith, total_pos bs j h)

-- ---- a word put in

pub total_put : (bytes : List ℕ) (i w : ℕ) → i % 2 ≡ 0 → suc i < length bytes → total (put_word bytes i w) + word_at bytes i ≡ total bytes + w
total_put [] i w e h = absurd (omega arith)
total_put (a ∷ []) i w e h = absurd (omega arith)
total_put (a ∷ b ∷ bs) zero w e h = omega arith
total_put (a ∷ b ∷ bs) (suc zero) w e h = absurd (omega arith)
total_put (a ∷ b ∷ bs) (suc (suc i)) w e h = omega (arith, total_put bs i w (omega arith) (omega arith))

pub put_bytes : (bytes : List ℕ) (i w : ℕ) → w ≤ 65535 → Bytes bytes → Bytes (put_word bytes i w)
put_bytes bytes i w h hb =
    bytes_set (set bytes i (w / 256)) (suc i) (w % 256) (omega arith) (bytes_set bytes i (w / 256) (omega arith) hb)

-- a word elsewhere stays
pub word_other : (bytes : List ℕ) (i k w : ℕ) → i % 2 ≡ 0 → k % 2 ≡ 0 → (i ≡ k → ⊥) → word_at (put_word bytes i w) k ≡ word_at bytes k
word_other bytes i k w hi hk ne =
    ap₂ (λ (x y : ℕ). x * 256 + y) (other k (λ e. ne (sym e)) (omega arith)) (other (suc k) (omega arith) (omega arith))
  where
    other : (j : ℕ) → j ≢ i → j ≢ suc i → get_or (put_word bytes i w) j 0 ≡ get_or bytes j 0
    other j p q = get_or-set_other (set bytes i (w / 256)) (suc i) j (w % 256) 0 q ∙ get_or-set_other bytes i j (w / 256) 0 p
