-- The bits of a number, and the lowest four that are 1. Assumes nothing.
use Rattle.std.specs.Prelude.{ℕ, ◌-◌, ◌/◌, ◌%◌, ◌^◌, Bool, List, ◌++◌, length, replicate, ◌==◌}
use Rattle.model.specs.Code.{pick}

-- the bit of weight 2 ^ i is 1
unfoldable pub bit : ℕ → ℕ → Bool
bit x i = x / 2 ^ i % 2 == 1

-- where the lowest four bits of x that are 1 stand, of 64, rising; all of them where they are fewer
abbrev pub four_lowest : ℕ → List ℕ
four_lowest x = pick 64 4 (bit x) 0

-- these, and then 0 up to n of them
abbrev pub padded : ℕ → List ℕ → List ℕ
padded n ps = ps ++ replicate (n - length ps) 0
