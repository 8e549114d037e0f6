-- The way to a box, and the roads on least ways, by what a journal says. Assumes nothing.
use Rattle.std.specs.Prelude.{ℕ, ◌+◌, Bool, true, false, cond, ◌&&◌, Some, None, Option, ◌==◌, nat_lt}
use Rattle.model.specs.Map.{Far, Never, At, Hop, Nowhere, To}
use Rattle.journal.specs.Replay.{Known}
use Rattle.journal.specs.State.{distance_to, map_of, next_to}
use Rattle.chart.specs.declared.way.Way.{Way}

-- a way by a next box, at a distance
abbrev pub way_by : Hop → Far → Option Way
way_by Nowhere f = None
way_by (To e) Never = None
way_by (To e) (At c) = Some (record { by = e; cost = c })

-- the least way to box d
abbrev pub way_to : ℕ → Known → Option Way
way_to d k = way_by (next_to d k) (distance_to d k)

-- a road that costs c leads from one distance on to another
abbrev pub leads_on : Far → ℕ → Far → Bool
leads_on Never c g = false
leads_on (At x) c Never = false
leads_on (At x) c (At y) = nat_lt 0 c && x + c == y

-- the road from a to e is on a least way from the journal's box: as far as a and the road on from there is as far as e
abbrev pub on_least_way : ℕ → ℕ → Known → Bool
on_least_way a e k = leads_on (distance_to a k) ((map_of k).cost a e) (distance_to e k)

-- the next box on the way to e over a: e itself from the journal's own box, else the next box towards a
abbrev pub next_over : ℕ → ℕ → Known → Hop
next_over a e k = cond (a == k.me) (To e) (next_to a k)

-- the same next box, or nowhere both
abbrev pub same_hop : Hop → Hop → Bool
same_hop Nowhere Nowhere = true
same_hop Nowhere (To e) = false
same_hop (To a) Nowhere = false
same_hop (To a) (To e) = a == e

-- the road from a to e is on a least way to e that begins with the next box towards e
abbrev pub on_taken_way : ℕ → ℕ → Known → Bool
on_taken_way a e k = on_least_way a e k && same_hop (next_to e k) (next_over a e k)
