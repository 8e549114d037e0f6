-- What each part of a turn does to the numbers. Assumes nothing.
use Rattle.std.specs.Prelude.{◌≡◌, ℕ, ◌+◌, ◌<◌, ◌≤◌, Option, MatchOption, Bool, cond, not, ◌&&◌, List, ◌==◌, nat_lt, slice_index, slice_index_or}
use Rattle.ways.specs.Numbers.{road_by}

-- the open distance at a box, offered another
abbrev pub less_of : ℕ → ℕ → ℕ
less_of sum old = cond (nat_lt sum old) sum old

-- its next box then: the new one if that is nearer, the lower of both if it is as near
abbrev pub next_of : ℕ → ℕ → ℕ → ℕ → ℕ
next_of sum old first had = cond (nat_lt sum old) first (cond (sum == old && nat_lt first had) first had)

-- what going through v, at distance best with the next box first, leaves at box e
pub record After (costs : List (List ℕ)) (v best first : ℕ) (edge next edge'' next'' : List ℕ) (e : ℕ) : Type 0 where
  pub edges : slice_index_or edge'' e 0 ≡ cond (nat_lt 0 (road_by costs v e)) (less_of (best + road_by costs v e) (slice_index edge e)) (slice_index edge e)
  pub nexts : slice_index_or next'' e 0 ≡ cond (nat_lt 0 (road_by costs v e)) (next_of (best + road_by costs v e) (slice_index edge e) first (slice_index next e)) (slice_index next e)
  pub small : road_by costs v e ≤ 65535

-- nothing is changed at box e
pub record Same (edge next edge'' next'' : List ℕ) (e : ℕ) : Type 0 where
  pub edges : slice_index_or edge'' e 0 ≡ slice_index edge e
  pub nexts : slice_index_or next'' e 0 ≡ slice_index next e

-- a road leads from me to box e, another one
abbrev pub begins : List (List ℕ) → ℕ → ℕ → Bool
begins costs me e = nat_lt 0 (road_by costs me e) && not (e == me)

-- what the first turn leaves at box e: open are the ends of the roads from me, each its own next box
pub record Begun (costs : List (List ℕ)) (me : ℕ) (edge next edge'' next'' : List ℕ) (e : ℕ) : Type 0 where
  pub edges : slice_index_or edge'' e 0 ≡ cond (begins costs me e) (road_by costs me e) (slice_index edge e)
  pub nexts : slice_index_or next'' e 0 ≡ cond (begins costs me e) e (slice_index next e)
  pub small : road_by costs me e ≤ 65535

-- the nearest of the first n boxes whose open distance is neither 0 nor never, or none if there is no such box
abbrev pub Nearest : ℕ → List ℕ → Option ℕ → Type 0
Nearest n edge near = MatchOption near
    ((k : ℕ) → k < n → 0 < slice_index edge k → 4294967295 ≤ slice_index edge k)
    (λ v. (v < n) × (0 < slice_index edge v) × (slice_index edge v < 4294967295) × ((k : ℕ) → k < n → 0 < slice_index edge k → slice_index edge v ≤ slice_index edge k))
