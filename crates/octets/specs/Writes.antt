-- The bytes of a number, and bytes put into a list. Assumes nothing.
use Rattle.std.specs.Prelude.{◌≡◌, ℕ, zero, suc, ◌+◌, ◌/◌, ◌%◌, ◌<◌, List, [], ◌∷◌, ◌++◌, length, take, drop, Some, None, Option}

-- the last so many bytes of a number, high byte first
unfoldable pub octets : ℕ → ℕ → List ℕ
octets zero x = []
octets (suc k) x = octets k (x / 256) ++ (x % 256 ∷ [])

-- the list with new elements from a place on, as many as there are, and the others as they were
unfoldable pub put : ℕ → List ℕ → List ℕ → List ℕ
put at new old = take at old ++ (new ++ drop (at + length new) old)

-- each is a byte
abbrev pub Bytes : List ℕ → Type 0
Bytes [] = Unit {0}
Bytes (b ∷ bs) = (b < 256) × Bytes bs

-- they stand in the front of the buffer and the rest is as it was, or they do not fit and nothing changed
abbrev pub Wrote : List ℕ → List ℕ → Option ℕ → List ℕ → Type 0
Wrote bytes before (Some k) after = (k ≡ length bytes) × (after ≡ put 0 bytes before)
Wrote bytes before None after = (length before < length bytes) × (after ≡ before)
