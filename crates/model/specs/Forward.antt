-- The map that a router has of the net, and the way of a packet. Assumes nothing.
use Rattle.std.specs.Prelude.{ℕ, zero, suc, ◌+◌, cond, ◌==◌, nat_lt}
use Rattle.model.specs.Map.{Map, Hop, Nowhere, To, hop}
use Rattle.model.specs.Words.{Entry, World}

-- a road counts if both its ends say so; it costs what its beginning says
abbrev pub cost_by : (ℕ → Entry) → ℕ → ℕ → ℕ
cost_by k a e = cond (nat_lt 0 ((k e).road a)) ((k a).road e) 0

abbrev pub map_of : World → ℕ → Map
map_of w a = record { n = w.n; cost = cost_by (w.knows a) }

-- the real map: a road is one if both ends hold it open
abbrev pub real_map : World → Map
real_map w = record { n = w.n; cost = λ a e. cond (nat_lt 0 (w.real e a)) (w.real a e) 0 }

pub data End : Type 0 where
  Arrived : (cost : ℕ) → End
  Refused : (where' : ℕ) → End
  Worn : End

abbrev pub onward : (ℕ → ℕ → End) → World → ℕ → ℕ → Hop → End
onward go w cost u Nowhere = Refused u
onward go w cost u (To v) = cond (nat_lt 0 (w.real u v)) (go (cost + w.real u v) v) (Refused u)

-- a packet for d at u, with so many steps left, each router going by its own map
unfoldable pub travels : ℕ → World → ℕ → ℕ → ℕ → End
travels zero w d cost u = Worn
travels (suc k) w d cost u = cond (u == d) (Arrived cost) (onward (λ c v. travels k w d c v) w cost u (hop (map_of w u) d u))
