-- What each router's map has, at rest, of every place that can be reached from it. A proof of the type is the theorem. Assumes nothing.
use Rattle.std.specs.Prelude.{◌≡◌, ℕ, ◌<◌, true, List}
use Rattle.model.specs.Map.{far, hop, has_way}
use Rattle.model.specs.Words.{Ev, world}
use Rattle.model.specs.Forward.{map_of, real_map}
use Rattle.model.specs.Promise.{Rest}

-- at rest a's map gives, from every place that can be reached from a, the real next places and the real distances
abbrev pub HopsTrue : Type 0
HopsTrue =
    (n : ℕ) (es : List Ev) → Rest (world n es) → (a d u : ℕ) → a < n → d < n → u < n → has_way (far (real_map (world n es)) u a) ≡ true →
    (hop (map_of (world n es) a) d u ≡ hop (real_map (world n es)) d u) × (far (map_of (world n es) a) d u ≡ far (real_map (world n es)) d u)
