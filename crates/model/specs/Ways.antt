-- Forwarding by any rule that picks a next place on a least way, and maps that agree on a part closed under roads. Assumes nothing.
use Rattle.std.specs.Prelude.{◌≡◌, ℕ, zero, suc, ◌<◌, ◌≤◌, Bool, false, cond, T, List, [], ◌∷◌, length, ◌==◌}
use Rattle.model.specs.Map.{Map, Never, At, plus, far, Hop, Nowhere, To, hop}
use Rattle.model.specs.Promise.{is_way, last, cost_of}

-- the places from the next one on, none if there is none
abbrev pub trail_on : (ℕ → List ℕ) → Hop → List ℕ
trail_on go Nowhere = []
trail_on go (To e) = e ∷ go e

-- the places that a packet for d comes to from a, each handing it on to the place that next names, in at most so many steps
unfoldable pub trail : ℕ → (ℕ → Hop) → ℕ → ℕ → List ℕ
trail zero next d a = []
trail (suc k) next d a = cond (a == d) [] (trail_on (λ e. trail k next d e) (next a))

-- a walk on which some rank falls at every step comes to d in no more steps than the rank with which it began
abbrev pub ByAnyRank : Type 0
ByAnyRank =
    (next : ℕ → Hop) (d : ℕ) (part : ℕ → Bool) (rank : ℕ → ℕ) →
    ((a : ℕ) → T (part a) → (a == d) ≡ false → (e : ℕ) × (next a ≡ To e) × T (part e) × (rank e < rank a)) →
    (k a : ℕ) → T (part a) → rank a ≤ k → (last a (trail k next d a) ≡ d) × (length (trail k next d a) ≤ rank a)

-- next picks, at every place but d from which there is a way to d, some neighbour on a least way
abbrev pub Picks : Map → ℕ → (ℕ → Hop) → Type 0
Picks z d next =
    (a c : ℕ) → a < z.n → (a == d) ≡ false → far z d a ≡ At c →
    (e : ℕ) × (next a ≡ To e) × (e < z.n) × (0 < z.cost a e) × (far z d a ≡ plus (z.cost a e) (far z d e))

-- whichever such neighbour is picked, a packet comes to d over a way than which none is cheaper, in fewer steps than there are places
abbrev pub ByAnyPolicy : Type 0
ByAnyPolicy =
    (z : Map) (d : ℕ) (next : ℕ → Hop) → d < z.n → Picks z d next → (a c : ℕ) → a < z.n → far z d a ≡ At c →
    T (is_way z a (trail z.n next d a)) × (last a (trail z.n next d a) ≡ d) × (cost_of z a (trail z.n next d a) ≡ c) × (length (trail z.n next d a) < z.n)

-- the lowest such neighbour is one policy, and where there is no way it names nobody
abbrev pub HopPicks : Type 0
HopPicks =
    (z : Map) (d : ℕ) → d < z.n →
    Picks z d (hop z d) × ((a : ℕ) → a < z.n → far z d a ≡ Never → hop z d a ≡ Nowhere) × (hop z d d ≡ Nowhere)

-- two maps with as many places that have the same roads from every place of a part, which no road leaves
pub record Agree (y z : Map) (part : ℕ → Bool) : Type 0 where
  pub size : y.n ≡ z.n
  pub same : (a e : ℕ) → T (part a) → a < z.n → e < z.n → y.cost a e ≡ z.cost a e
  pub closed : (a e : ℕ) → T (part a) → a < z.n → e < z.n → 0 < z.cost a e → T (part e)

-- from such a part both have the same distances, the same next places, the same ways at the same cost, and packets go the same way
abbrev pub AgreeOnClosed : Type 0
AgreeOnClosed =
    (y z : Map) (part : ℕ → Bool) → Agree y z part → (a d : ℕ) → T (part a) → a < z.n → d < z.n →
    (far y d a ≡ far z d a) × (hop y d a ≡ hop z d a) × ((k : ℕ) → trail k (hop y d) d a ≡ trail k (hop z d) d a) ×
    ((ws : List ℕ) → is_way y a ws ≡ is_way z a ws) × ((ws : List ℕ) → T (is_way z a ws) → cost_of y a ws ≡ cost_of z a ws)
