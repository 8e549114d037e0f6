-- Known sums, as they stand on the wire.
-- Assumes nothing.
use Rattle.std.specs.Prelude.{◌≡◌, ℕ, zero, suc, List, [], ◌∷◌, reverse, replicate, codes}
use Rattle.checksum.specs.Crc.{sum_bytes}

-- from the number a, n numbers up
abbrev pub up_from : ℕ → ℕ → List ℕ
up_from a zero = []
up_from a (suc n) = a ∷ up_from (suc a) n

-- 32 bytes of 0, of 0xff, from 0 up to 31, from 31 down to 0, and nine digits
abbrev pub KnownSums : Type 0
KnownSums =
    (sum_bytes (replicate 32 0) ≡ 0xaa ∷ 0x36 ∷ 0x91 ∷ 0x8a ∷ [])
    × (sum_bytes (replicate 32 0xff) ≡ 0x43 ∷ 0xab ∷ 0xa8 ∷ 0x62 ∷ [])
    × (sum_bytes (up_from 0 32) ≡ 0x4e ∷ 0x79 ∷ 0xdd ∷ 0x46 ∷ [])
    × (sum_bytes (reverse (up_from 0 32)) ≡ 0x5c ∷ 0xdb ∷ 0x3f ∷ 0x11 ∷ [])
    × (sum_bytes (codes "123456789") ≡ 0x83 ∷ 0x92 ∷ 0x06 ∷ 0xe3 ∷ [])
