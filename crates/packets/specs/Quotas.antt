-- How many errors a box makes in one second of ten ticks.
-- Assumes nothing.
use Rattle.std.specs.Prelude.{ℕ, ◌+◌, ◌/◌, ◌≤◌, Bool, true, false, cond, ◌&&◌, Some, None, Option, List, [], ◌∷◌, ◌==◌, nat_lt}
use Rattle.packets.specs.declared.error_quota.Quota.{Quota}

-- nothing was made yet
abbrev pub unspent : Quota
unspent = record { second = 0; made = 0 }

-- one more in this second, if fewer than ten were made in it; the first of another second always
abbrev pub granted : Quota → ℕ → Quota × Bool
granted q tick =
    cond (tick / 10 == q.second)
    (cond (nat_lt q.made 10) (record { second = tick / 10; made = q.made + 1 }, true) (q, false))
    (record { second = tick / 10; made = 1 }, true)

-- what an answer leaves of a quota, and whether it grants the request: none leaves it as it was
abbrev pub left_of : Quota → Option Quota → Quota × Bool
left_of q (Some left) = (left, true)
left_of q None = (q, false)

-- how many of the requests at these ticks are granted and fall into the second s
abbrev pub grants_in : ℕ → Quota → List ℕ → ℕ
grants_in s q [] = 0
grants_in s q (t ∷ ts) = cond (t / 10 == s && (granted q t).1) 1 0 + grants_in s (granted q t).0 ts

-- the seconds of the ticks never fall, and the first is not before `low`
abbrev pub NeverFall : ℕ → List ℕ → Type 0
NeverFall low [] = Unit {0}
NeverFall low (t ∷ ts) = (low ≤ t / 10) × NeverFall (t / 10) ts

-- whenever errors are asked for, no second has more than ten
abbrev pub AtMostTen : Type 0
AtMostTen = (ticks : List ℕ) (s : ℕ) → NeverFall 0 ticks → grants_in s unspent ticks ≤ 10
