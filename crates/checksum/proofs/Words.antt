-- The words of what is left of a list: one more, a piece more, and at the end.
-- Assumes nothing.
use Rattle.std.proofs.Common.{◌≡◌, ℕ, zero, suc, ◌+◌, ◌*◌, ◌%◌, ◌<◌, ◌≤◌, min, List, [], ◌∷◌, ◌++◌, length, get_or, drop, sym, refl, ap, ◌∙◌, subst, add_assoc, add-one, arith, length-append}
use Rattle.std.proofs.lemmas.List.{append-nil, drop_more, drop_all}
use Rattle.std.specs.Simd.{first_chunks}
use Rattle.checksum.proofs.Bytes.{bytes_from}
use Rattle.checksum.proofs.Folds.{folds_same, leaves_on, leaves_more, sum_folds}
use Rattle.checksum.specs.Internet.{ones_sum, total, Leaves}

pub total_two : (bytes : List ℕ) (i : ℕ) → i + 2 ≤ length bytes
    → total (drop i bytes) ≡ get_or bytes i 0 * 256 + get_or bytes (i + 1) 0 + total (drop (i + 2) bytes)
total_two bytes i h =
    ap total
    (drop_more bytes i 0 (omega arith)
    ∙ ap (λ (xs : List ℕ). get_or bytes i 0 ∷ xs)
    (drop_more bytes (i + 1) 0 (omega arith) ∙ ap (λ (k : ℕ). get_or bytes (i + 1) 0 ∷ drop k bytes) (add_assoc i 1 1)))

pub total_one : (bytes : List ℕ) (i : ℕ) → i + 1 ≡ length bytes → total (drop i bytes) ≡ get_or bytes i 0 * 256 + 0
total_one bytes i h =
    ap total
    (drop_more bytes i 0 (omega arith) ∙ ap (λ (xs : List ℕ). get_or bytes i 0 ∷ xs) (drop_all (i + 1) bytes (omega arith)))

pub total_none : (bytes : List ℕ) (i : ℕ) → length bytes ≤ i → total (drop i bytes) ≡ 0
total_none bytes i h = ap total (drop_all i bytes h)

-- the chunks of two are the words
pub chunk_at : (m k i : ℕ) (xs : List ℕ) → k < m → m * 2 ≤ length xs → i ≡ 2 * k → get_or (first_chunks 2 m xs) k [] ≡ get_or xs i 0 ∷ get_or xs (i + 1) 0 ∷ []
chunk_at zero k i xs h l e = absurd (omega arith)
chunk_at (suc m) k i [] h l e = absurd (omega arith)
chunk_at (suc m) k i (a ∷ []) h l e = absurd (omega arith)
chunk_at (suc m) zero zero (a ∷ b ∷ xs) h l e = refl
chunk_at (suc m) zero (suc i) (a ∷ b ∷ xs) h l e = absurd (omega arith)
chunk_at (suc m) (suc k) zero (a ∷ b ∷ xs) h l e = absurd (omega arith)
chunk_at (suc m) (suc k) (suc zero) (a ∷ b ∷ xs) h l e = absurd (omega arith)
chunk_at (suc m) (suc k) (suc (suc i)) (a ∷ b ∷ xs) h l e = rw add-one (rw add-one at (chunk_at m k i xs (omega arith) (omega arith) (omega arith)))

-- bytes behind whole words
total_join : (xs ys : List ℕ) → length xs % 2 ≡ 0 → total (xs ++ ys) ≡ total xs + total ys
total_join [] ys h = omega arith
total_join (a ∷ []) ys h = absurd (omega arith)
total_join (a ∷ b ∷ xs) ys h = omega (arith, total_join xs ys (omega arith))

total_nothing : (xs : List ℕ) → length xs ≡ 0 → total xs ≡ 0
total_nothing [] h = refl
total_nothing (x ∷ xs) h = absurd (omega arith)

-- a piece in front of the rest: of whole words, or all that there is
total_piece : (rest piece left : List ℕ) (size : ℕ) → size ≡ 65536 → rest ≡ piece ++ left → length piece ≡ min size (length rest)
    → total rest ≡ total piece + total left
total_piece rest piece [] size f e h = ap total (e ∙ append-nil piece) ∙ omega arith
total_piece rest piece (x ∷ left) size f e h =
    let l : length rest ≡ length piece + (1 + length left) = ap length e ∙ length-append piece (x ∷ left) ∙ omega arith in
    ap total e ∙ total_join piece (x ∷ left) (omega arith)

-- n words in all: what is left of them, with the sum so far, when a piece more is added and folded
pub left_piece : (n : ℕ) (rest piece left : List ℕ) (size s w t : ℕ) → size ≡ 65536 → rest ≡ piece ++ left → length piece ≡ min size (length rest) → w ≡ total piece
    → Leaves (s + w) t → Leaves n (s + total rest) → Leaves n (t + total left)
left_piece n rest piece left size s w t z a h e f l =
    let c : total rest ≡ w + total left = total_piece rest piece left size z a h ∙ ap (λ (x : ℕ). x + total left) (sym e) in
    let p : s + total rest ≡ s + w + total left = omega arith in
    leaves_on n (s + total rest) (t + total left) l
    (subst (λ (x : ℕ). Leaves x (t + total left)) (sym p) (leaves_more (s + w) t (total left) f))

-- at the end nothing is left
pub left_end : (bytes rest : List ℕ) (s t : ℕ) → ((k : ℕ) → get_or bytes k 0 < 256) → length rest ≡ 0 → Leaves (total bytes) (s + total rest)
    → Leaves s t → t < 65536 → t ≡ ones_sum bytes
left_end bytes rest s t hb e l f h =
    let z : s + total rest ≡ s = omega (arith, total_nothing rest e) in
    folds_same (total bytes) t (ones_sum bytes)
    (record {
      leaves = leaves_on (total bytes) s t (subst (λ (n : ℕ). Leaves (total bytes) n) z l) f;
      small = omega arith;
    })
    (sum_folds bytes (bytes_from bytes hb))
