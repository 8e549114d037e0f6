-- When the call is refused, and with which number. Assumes nothing.
use Rattle.std.specs.Prelude.{ℕ, cond, ◌&&◌, ◌||◌, Ok, Err, Result, ◌==◌, nat_le, nat_lt}
use Rattle.ways.specs.declared.Refusal.{Refusal}
use Rattle.ways.specs.declared.Refusal.TheVariants.{Size, Place, Length}

-- the number of each refusal
abbrev pub number_of : Refusal → ℕ
number_of Size = 1
number_of Place = 2
number_of Length = 3

-- the number of an outcome: 0 where all is found
abbrev pub outcome_of : Result Unit Refusal → ℕ
outcome_of (Ok u) = 0
outcome_of (Err e) = number_of e

-- that number by the sizes: of the net, of the box's place in it, of the three slices of words and of the two to be filled
abbrev pub why_not : (n me counts tags costs dist next : ℕ) → ℕ
why_not n me counts tags costs dist next =
    cond (n == 0 || nat_lt 64 n) 1
    (cond (nat_le n me) 2
    (cond (counts == 64 && (tags == 64 && (costs == 64 && (dist == 64 && next == 64)))) 0 3))
