-- What both lent slices hold after the call. Assumes nothing.
use Rattle.std.specs.Prelude.{◌≡◌, ℕ, ◌<◌, ◌≤◌, List, slice_index}
use Rattle.model.specs.Map.{Map, far, hop}
use Rattle.ways.specs.Numbers.{far_of, hop_of}

-- for every box of the map its distance from me and the next box towards it, the lowest on a least way; "never" and "none" beyond
pub record Found (z : Map) (me : ℕ) (dist next : List ℕ) : Type 0 where
  pub dists : (d : ℕ) → d < z.n → far_of (slice_index dist d) ≡ far z d me
  pub nexts : (d : ℕ) → d < z.n → hop_of (slice_index next d) ≡ hop z d me
  pub no_dists : (d : ℕ) → z.n ≤ d → d < 64 → slice_index dist d ≡ 4294967295
  pub no_nexts : (d : ℕ) → z.n ≤ d → d < 64 → slice_index next d ≡ 255
