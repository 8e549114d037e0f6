-- What a box gives out besides its lines goes over wires or to a house.
use Rattle.std.proofs.Common.{◌≡◌, ℕ, zero, suc, ◌+◌, ◌≤◌, Bool, true, false, cond, ltb, List, [], ◌∷◌, ◌++◌, length, Some, None, Ok, Option, Result, refl, ap, ◌∙◌, arith, length-append}
use Rattle.model.proofs.Tests.{of_cond}
use Rattle.model.specs.Box.{hop_in}
use Rattle.model.specs.Map.{Hop, Nowhere, To}
use Rattle.checksum.specs.Crc.{sum_bytes}
use Rattle.linkmodel.specs.Links.{Links, opens_to, road_cost, sends_hello, wires}
use Rattle.linkmodel.specs.Station.{Bundle, Item, Out, Sight, Station as Whole, hellos_on, lowest_wire, seens_for, seens_out, tells_on, tick_out, words_out, wire_to}
use Rattle.outbox.specs.Parcels.{parcel_bytes}
use Rattle.outbox.proofs.InPlace.{error_small}
use Rattle.packets.specs.Errors.{error_of}
use Rattle.packets.specs.declared.values.Trouble.{Trouble}
use Rattle.station.specs.Hearing.{answers_from}
use Rattle.station.specs.State.{wire_open}
use Rattle.node.specs.Passing.{by_next, framed, over_road, way_to}
use Rattle.node.specs.declared.refusals.Refusal.{Refusal}
use Rattle.truth.proofs.Booked.{Booked, OverWires, booked_wire}

lowest_low : (e : ℕ) (s : Links) (w k : ℕ) → w + k ≤ 8 → lowest_wire e s w k ≤ 8
unfolding lowest_wire
lowest_low e s w zero h = omega arith
lowest_low e s w (suc k) h = of_cond (λ (x : ℕ). x ≤ 8) (opens_to e (s.wire w)) w (lowest_wire e s (w + 1) k) (λ _. omega arith) (λ _. lowest_low e s (w + 1) k (omega arith))

pub wire_low : (e : ℕ) (s : Links) → wire_to e s ≤ 8
wire_low e s = lowest_low e s 0 8 (omega arith)

over_both : (a b : List Out) → OverWires a → OverWires b → OverWires (a ++ b)
unfolding OverWires
over_both [] b h k = k
over_both (o ∷ os) b h k = (h.0, over_both os b h.1 k)

over_none : OverWires []
unfolding OverWires
over_none = tt

over_one : (o : Out) → o.on ≤ 8 → OverWires (o ∷ [])
unfolding OverWires
over_one o h = (h, tt)

over_words : (e : ℕ) (xs : List Item) (s : Links) → OverWires (words_out e xs s)
over_words e [] s = over_none
over_words e (x ∷ xs) s = over_one _ (wire_low e s)

over_seens : (e : ℕ) (xs : List Sight) (s : Links) → OverWires (seens_out e xs s)
over_seens e [] s = over_none
over_seens e (x ∷ xs) s = over_one _ (wire_low e s)

over_hellos : (s : Links) (k : ℕ) → k ≤ 8 → OverWires (hellos_on s k)
unfolding hellos_on
over_hellos s zero h = over_none
over_hellos s (suc k) h =
    over_both (hellos_on s k) _ (over_hellos s k (omega arith)) (of_cond OverWires (sends_hello k s) _ [] (λ _. over_one _ (omega arith)) (λ _. over_none))

over_tells : (s : Whole) (k : ℕ) → OverWires (tells_on s k)
unfolding tells_on
over_tells s zero = over_none
over_tells s (suc k) = over_both (tells_on s k) _ (over_tells s k) (of_cond OverWires (ltb 0 (road_cost k s.links)) _ [] (λ _. over_words k _ s.links) (λ _. over_none))

pub over_tick : (s : Whole) → OverWires (tick_out s)
over_tick s = over_both (hellos_on s.links wires) _ (over_hellos s.links 8 (omega arith)) (of_cond OverWires _ (tells_on s s.links.n) [] (λ _. over_tells s s.links.n) (λ _. over_none))

pub over_answers : (from : Option ℕ) (p : Bundle) (s : Whole) → OverWires (answers_from from p s)
over_answers None p s = over_none
over_answers (Some e) p s = over_both (seens_out e (seens_for p.items s.box) s.links) _ (over_seens e _ s.links) (over_words e _ s.links)

-- the wire of a way
open_low : (o : Option ℕ) (b : Bool) (w v : ℕ) → cond b (Some v) None ≡ o → v ≤ 8 → over_road o ≡ Ok w → w ≤ 8
open_low o true w v e h k =
    let z : ◌≡◌ {A = Result ℕ Refusal} (Ok v) (Ok w) = ap over_road e ∙ k in
    let y : v ≡ w = cc in
    omega (arith, y)
open_low o false w v e h k =
    let z : ◌≡◌ {A = Result ℕ Refusal} (over_road None) (Ok w) = ap over_road e ∙ k in
    absurd cc

next_low : (h : Hop) (s : Whole) (w : ℕ) → by_next h s ≡ Ok w → w ≤ 8
next_low Nowhere s w k = absurd cc
next_low (To e) s w k = open_low (wire_open e s.links) (ltb 0 (road_cost e s.links)) w (wire_to e s.links) refl (wire_low e s.links) k

pub way_low : (d : ℕ) (s : Whole) (w : ℕ) → way_to d s ≡ Ok w → w ≤ 8
way_low d s w k = of_cond (λ (r : Result ℕ Refusal). r ≡ Ok w → w ≤ 8) (ltb d s.box.n) (by_next (hop_in d s.box) s) _ (λ _ z. next_low (hop_in d s.box) s w z) (λ _ z. absurd cc) k

-- the error for a packet is a parcel
pub booked_error : (me : ℕ) (t : Trouble) (p : List ℕ) → Booked (parcel_bytes 8 (error_of me t p)) []
booked_error me t p = booked_wire 8 (error_of me t p) (omega arith) (omega (arith, error_small me t p))

sum_long : (xs : List ℕ) → length (sum_bytes xs) ≡ 4
unfolding sum_bytes
sum_long xs = omega arith

pub booked_framed : (w me : ℕ) (t : Trouble) (p : List ℕ) → w ≤ 8 → Booked (parcel_bytes w (framed (error_of me t p))) []
booked_framed w me t p h =
    booked_wire w (framed (error_of me t p)) h
    (omega (arith, error_small me t p, sum_long (4 ∷ error_of me t p), length-append (4 ∷ error_of me t p) (sum_bytes (4 ∷ error_of me t p))))
