-- What is so of the roads on least ways. Assumes nothing.
use Rattle.std.specs.Prelude.{◌≡◌, ℕ, ◌<◌, true, T, List, [], ◌∷◌, ◌++◌, ◌≢◌}
use Rattle.model.specs.Map.{At}
use Rattle.model.specs.Promise.{is_way, last, cost_of}
use Rattle.journal.specs.Replay.{Known}
use Rattle.journal.specs.State.{distance_to, map_of}
use Rattle.chart.specs.Ways.{on_least_way, on_taken_way}

-- a way from the journal's box over ws to a and on to e, which costs just as much as e is far
abbrev pub LeastOver : Known → List ℕ → ℕ → ℕ → Type 0
LeastOver k ws a e = T (is_way (map_of k) k.me (ws ++ (e ∷ []))) × (last k.me ws ≡ a) × (distance_to e k ≡ At (cost_of (map_of k) k.me (ws ++ (e ∷ []))))

-- a road is on a least way if and only if it is the last of some way that costs just as much as its end is far
abbrev pub OnSomeWay : Type 0
OnSomeWay =
    (k : Known) (a e : ℕ) → k.me < k.n → a < k.n → e < k.n →
    (on_least_way a e k ≡ true → (ws : List ℕ) × LeastOver k ws a e) × ((ws : List ℕ) → LeastOver k ws a e → on_least_way a e k ≡ true)

-- to each other box that a way leads to, a road is taken
abbrev pub Reached : Type 0
Reached = (k : Known) (d c : ℕ) → k.me < k.n → d < k.n → (k.me ≢ d) → distance_to d k ≡ At c → (a : ℕ) × (a < k.n) × (on_taken_way a d k ≡ true)
