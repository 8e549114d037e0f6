-- What goes into the journal of all that a box gives out. Assumes nothing.
use Rattle.std.specs.Prelude.{ℕ, zero, suc, ◌+◌, ◌*◌, cond, List, [], ◌∷◌, ◌++◌, length, take, drop, ◌==◌}

-- of at most so many parcels, one after the other, each with its port and its length in two bytes before it: the bytes of those for the journal, whose port is 9
unfoldable pub booked : (parcels : ℕ) → List ℕ → List ℕ
booked zero given = []
booked (suc k) [] = []
booked (suc k) (port ∷ []) = []
booked (suc k) (port ∷ high ∷ []) = []
booked (suc k) (port ∷ high ∷ low ∷ bs) = cond (port == 9) (take (high * 256 + low) bs) [] ++ booked k (drop (high * 256 + low) bs)

-- and of all; there are no more parcels than bytes
abbrev pub book_in : List ℕ → List ℕ
book_in given = booked (length given) given
