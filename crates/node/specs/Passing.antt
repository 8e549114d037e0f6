-- What a box does with a packet: where it goes, and what is given out for one that is refused. Assumes nothing.
use Rattle.std.specs.Prelude.{◌≡◌, ℕ, Bool, cond, List, [], ◌∷◌, ◌++◌, Some, None, Ok, Err, Option, Result, ◌==◌, nat_lt}
use Rattle.model.specs.Box.{hop_in}
use Rattle.model.specs.Map.{Hop, Nowhere, To}
use Rattle.linkmodel.specs.Station.{Station as Whole}
use Rattle.outbox.specs.Parcels.{parcel_bytes, sealed}
use Rattle.outbox.specs.declared.reading.Port.{Port}
use Rattle.outbox.specs.declared.reading.Port.TheVariants.{House, Wire}
use Rattle.packets.specs.Errands.{errand_of}
use Rattle.packets.specs.Errors.{error_of, is_error}
pub use Rattle.packets.specs.Packet.{packet_in}
use Rattle.packets.specs.Packet.{box_from, echoed, handed_on}
use Rattle.packets.specs.Quotas.{granted}
use Rattle.packets.specs.declared.error_quota.Quota.{Quota}
use Rattle.packets.specs.declared.values.Errand.{Errand}
use Rattle.packets.specs.declared.values.Errand.TheVariants.{Echo, HandOut, Onward}
use Rattle.packets.specs.declared.values.Refusal.{Refusal as PacketRefusal}
use Rattle.packets.specs.declared.values.Refusal.TheVariants.{Address, Expired, Malformed}
use Rattle.packets.specs.declared.values.Trouble.{Trouble}
use Rattle.packets.specs.declared.values.Trouble.TheVariants.{TimeExceeded}
use Rattle.station.specs.State.{wire_open}
use Rattle.node.specs.declared.refusals.Refusal.{Refusal}
use Rattle.node.specs.declared.refusals.Refusal.TheVariants.{Closed, NoWay, Unanswered}
use Rattle.node.specs.Book.{Refused}
use Rattle.node.specs.Giving.{note_of}
use Rattle.node.specs.Refusals.{number_of, trouble_for}

-- over the wire of an open road, or the road is closed
abbrev pub over_road : Option ℕ → Result ℕ Refusal
over_road None = Err Closed
over_road (Some w) = Ok w

abbrev pub by_next : Hop → Whole → Result ℕ Refusal
by_next Nowhere s = Err NoWay
by_next (To e) s = over_road (wire_open e s.links)

-- the way of a packet towards box d: the next box is by the ways worked out last, its road as it is held now
abbrev pub way_to : ℕ → Whole → Result ℕ Refusal
way_to d s = cond (nat_lt d s.box.n) (by_next (hop_in d s.box) s) (Err NoWay)

-- over a wire, or there is no way for an answer
abbrev pub over_way : Result ℕ Refusal → Result Port Refusal
over_way (Err r) = Err Unanswered
over_way (Ok w) = Ok (Wire w)

-- where an answer to a packet goes: to a house of this box, or towards the box that the packet came from
abbrev pub back_to : List ℕ → Whole → Result Port Refusal
back_to p s = cond (box_from p == s.links.me) (Ok House) (over_way (way_to (box_from p) s))

-- what is given out for a refused packet, and how many errors were made by then
pub record Answered : Type 0 where
  pub gives : List ℕ
  pub errors : Quota

-- what is given out, how many errors were made by then, what is left in the lent frame, and where that goes
pub record Passed : Type 0 where
  pub gives : List ℕ
  pub errors : Quota
  pub frame : List ℕ
  pub goes : Option Port

-- the frame of a packet
abbrev pub framed : List ℕ → List ℕ
framed p = sealed (4 ∷ p)

-- an error goes back to the sender's box with a line for the number, unless no way leads there
abbrev pub back_by : Result ℕ Refusal → ℕ → Trouble → Whole → List ℕ → List ℕ
back_by (Err r) k t s p = note_of s (Refused 10)
back_by (Ok w) k t s p = note_of s (Refused k) ++ parcel_bytes w (framed (error_of s.links.me t p))

abbrev pub error_gives : ℕ → Trouble → Whole → List ℕ → List ℕ
error_gives k t s p =
    cond (box_from p == s.links.me) (note_of s (Refused k) ++ parcel_bytes 8 (error_of s.links.me t p)) (back_by (way_to (box_from p) s) k t s p)

-- a packet p that is refused for 7, 8 or 9: none of an error, and at most ten in a second
abbrev pub by_grant : Quota × Bool → ℕ → Trouble → Whole → List ℕ → Answered
by_grant g k t s p = record { gives = cond g.1 (error_gives k t s p) (note_of s (Refused 10)); errors = g.0 }

abbrev pub troubled : ℕ → Trouble → Whole → Quota → List ℕ → Answered
troubled k t s q p = cond (is_error p) (record { gives = note_of s (Refused 10); errors = q }) (by_grant (granted q s.links.tick) k t s p)

-- the error of a packet as a parcel: framed over a wire, bare to a house
abbrev pub error_parcel : Port → List ℕ → List ℕ
error_parcel (Wire w) e = parcel_bytes w (framed e)
error_parcel _ e = parcel_bytes 8 e

-- a packet p that is refused for the number k, where its error goes to this port, or isn't made
abbrev pub answered_at : Result Port Refusal → ℕ → Trouble → Whole → Quota → List ℕ → Answered
answered_at (Err r) k t s q p = record { gives = note_of s (Refused (number_of r)); errors = q }
answered_at (Ok port) k t s q p = record { gives = note_of s (Refused k) ++ error_parcel port (error_of s.links.me t p); errors = q }

-- a packet p that is refused: a line, or an error where one is made for that
abbrev pub refused_with : Option Trouble → ℕ → Whole → Quota → List ℕ → Answered
refused_with None k s q p = record { gives = note_of s (Refused k); errors = q }
refused_with (Some t) k s q p = troubled k t s q p

abbrev pub refused_as : Refusal → Whole → Quota → List ℕ → Answered
refused_as r s q p = refused_with (trouble_for r) (number_of r) s q p

-- nothing but a line
abbrev pub refused_for : ℕ → Whole → Quota → List ℕ → Passed
refused_for k s q f = record { gives = note_of s (Refused k); errors = q; frame = f; goes = None }

-- a refused one, with its answer
abbrev pub trouble_of : Answered → List ℕ → Passed
trouble_of a f = record { gives = a.gives; errors = a.errors; frame = f; goes = None }

-- a frame goes out as it stands
abbrev pub sent_to : Port → List ℕ → Quota → Passed
sent_to port f q = record { gives = []; errors = q; frame = f; goes = Some port }

-- a packet for another box
abbrev pub onward_by : Result ℕ Refusal → Whole → Quota → List ℕ → Passed
onward_by (Err r) s q f = trouble_of (refused_as r s q (packet_in f)) f
onward_by (Ok w) s q f = sent_to (Wire w) (framed (handed_on (packet_in f))) q

-- an echo goes back; with no way it is dropped
abbrev pub echo_by : Result ℕ Refusal → Whole → Quota → List ℕ → Passed
echo_by (Err r) s q f = refused_for 10 s q f
echo_by (Ok w) s q f = sent_to (Wire w) (framed (echoed (packet_in f))) q

abbrev pub echo_back : Whole → Quota → List ℕ → Passed
echo_back s q f = cond (box_from (packet_in f) == s.links.me) (sent_to House (framed (echoed (packet_in f))) q) (echo_by (way_to (box_from (packet_in f)) s) s q f)

abbrev pub by_errand : Result Errand PacketRefusal → Whole → Quota → List ℕ → Passed
by_errand (Err Malformed) s q f = refused_for 5 s q f
by_errand (Err Address) s q f = refused_for 6 s q f
by_errand (Err Expired) s q f = trouble_of (troubled 7 TimeExceeded s q (packet_in f)) f
by_errand (Ok HandOut) s q f = sent_to House f q
by_errand (Ok Echo) s q f = echo_back s q f
by_errand (Ok (Onward d)) s q f = onward_by (way_to d s) s q f

-- what a box does with the packet in a frame
abbrev pub passed : Whole → Quota → List ℕ → Passed
passed s q f = by_errand (errand_of s.links.n s.links.me (packet_in f)) s q f

-- that so: the frame goes out to this port as it is left, however many errors were made; or it is refused, and stays
abbrev pub PassesTo : Result Port Refusal → Whole → List ℕ → List ℕ → Type 0
PassesTo (Ok port) s f left = (q : Quota) → passed s q f ≡ sent_to port left q
PassesTo (Err r) s f left = ((q : Quota) → passed s q f ≡ trouble_of (refused_as r s q (packet_in f)) f) × (left ≡ f)
