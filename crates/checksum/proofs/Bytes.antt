-- Lists of bytes.
-- Assumes nothing.
use Rattle.std.proofs.Common.{ℕ, zero, suc, ◌<◌, List, [], ◌∷◌, ◌++◌, get_or, set, lit<}
use Rattle.checksum.specs.Bytes.{Bytes}

pub bytes_left : (xs ys : List ℕ) → Bytes (xs ++ ys) → Bytes xs
bytes_left [] ys h = tt
bytes_left (x ∷ xs) ys h = (h.0, bytes_left xs ys h.1)

pub bytes_set : (xs : List ℕ) (i v : ℕ) → v < 256 → Bytes xs → Bytes (set xs i v)
bytes_set [] i v l h = tt
bytes_set (x ∷ xs) zero v l h = (l, h.1)
bytes_set (x ∷ xs) (suc i) v l h = (h.0, bytes_set xs i v l h.1)

pub bytes_at : (xs : List ℕ) (i : ℕ) → Bytes xs → get_or xs i 0 < 256
bytes_at [] i h = lit< tt
bytes_at (x ∷ xs) zero h = h.0
bytes_at (x ∷ xs) (suc i) h = bytes_at xs i h.1

-- what a slice of bytes is known to hold
pub bytes_from : (xs : List ℕ) → ((i : ℕ) → get_or xs i 0 < 256) → Bytes xs
bytes_from [] h = tt
bytes_from (x ∷ xs) h = (h 0, bytes_from xs (λ i. h (suc i)))
