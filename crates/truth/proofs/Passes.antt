-- The journal after a packet of a house or of a wire.
use Rattle.std.proofs.Common.{◌≡◌, ℕ, ◌^◌, ◌<◌, eqb, List, [], ◌++◌, Some, None, Ok, Err, Option, Result, refl, arith}
use Rattle.model.proofs.Tests.{of_cond}
use Rattle.linkmodel.specs.Station.{Station as Whole}
use Rattle.outbox.specs.Parcels.{parcel_bytes}
use Rattle.packets.specs.Errands.{errand_of}
use Rattle.packets.specs.Errors.{error_of, is_error}
use Rattle.packets.specs.Packet.{box_from}
use Rattle.packets.specs.Quotas.{granted}
use Rattle.packets.specs.declared.error_quota.Quota.{Quota}
use Rattle.packets.specs.declared.values.Errand.{Errand}
use Rattle.packets.specs.declared.values.Errand.TheVariants.{Echo, HandOut, Onward}
use Rattle.packets.specs.declared.values.Refusal.{Refusal as PacketRefusal}
use Rattle.packets.specs.declared.values.Refusal.TheVariants.{Address, Expired, Malformed}
use Rattle.packets.specs.declared.values.Trouble.{Trouble}
use Rattle.packets.specs.declared.values.Trouble.TheVariants.{TimeExceeded}
use Rattle.node.specs.declared.refusals.Refusal.{Refusal}
use Rattle.node.specs.declared.refusals.Refusal.TheVariants.{Address as NAddress, Closed, CountSpent, Expired as NExpired, Form, Malformed as NMalformed, NoRoad, NoWay, OtherBox, Range, Unanswered}
use Rattle.node.specs.Book.{Refused}
use Rattle.node.specs.Giving.{note_of}
use Rattle.node.specs.Passing.{Answered, Passed, back_by, by_errand, by_grant, echo_by, error_gives, framed, onward_by, packet_in, passed, refused_with, troubled, way_to}
use Rattle.node.specs.Refusals.{number_of, trouble_for}
use Rattle.truth.specs.Truth.{Keeps}
use Rattle.truth.proofs.Booked.{booked_none}
use Rattle.truth.proofs.Lines.{just_refused, nothing_kept, refused_kept}
use Rattle.truth.proofs.Outs.{booked_error, booked_framed, way_low}

number_low : (r : Refusal) → number_of r < 2 ^ 8
number_low Form = omega arith
number_low Range = omega arith
number_low NoRoad = omega arith
number_low OtherBox = omega arith
number_low NMalformed = omega arith
number_low NAddress = omega arith
number_low NExpired = omega arith
number_low NoWay = omega arith
number_low Closed = omega arith
number_low Unanswered = omega arith
number_low CountSpent = omega arith

module _ (s : Whole) (low : s.links.tick < 2 ^ 32) where
  just : (k : ℕ) → k < 2 ^ 8 → Keeps s s (note_of s (Refused k))
  just k l = just_refused s k low l

  pub none_kept : Keeps s s []
  none_kept = nothing_kept s s [] (omega arith) low booked_none refl

  back_kept : (r : Result ℕ Refusal) (k d : ℕ) (t : Trouble) (p : List ℕ) → way_to d s ≡ r → k < 2 ^ 8 → Keeps s s (back_by r k t s p)
  back_kept (Err r) k d t p e l = just 10 (omega arith)
  back_kept (Ok w) k d t p e l = refused_kept s k (parcel_bytes w (framed (error_of s.links.me t p))) low l (booked_framed w s.links.me t p (way_low d s w e))

  error_kept : (k : ℕ) (t : Trouble) (p : List ℕ) → k < 2 ^ 8 → Keeps s s (error_gives k t s p)
  error_kept k t p l =
      of_cond (λ z. Keeps s s z) (eqb (box_from p) s.links.me) (note_of s (Refused k) ++ parcel_bytes 8 (error_of s.links.me t p)) (back_by (way_to (box_from p) s) k t s p)
      (λ _. refused_kept s k (parcel_bytes 8 (error_of s.links.me t p)) low l (booked_error s.links.me t p))
      (λ _. back_kept (way_to (box_from p) s) k (box_from p) t p refl l)

  trouble_kept : (k : ℕ) (t : Trouble) (q : Quota) (p : List ℕ) → k < 2 ^ 8 → Keeps s s (troubled k t s q p).gives
  trouble_kept k t q p l =
      of_cond (λ (x : Answered). Keeps s s x.gives) (is_error p) (record { gives = note_of s (Refused 10); errors = q }) (by_grant (granted q s.links.tick) k t s p)
      (λ _. just 10 (omega arith))
      (λ _. of_cond (λ z. Keeps s s z) (granted q s.links.tick).1 (error_gives k t s p) (note_of s (Refused 10)) (λ _. error_kept k t p l) (λ _. just 10 (omega arith)))

  refused_so : (o : Option Trouble) (k : ℕ) (q : Quota) (p : List ℕ) → k < 2 ^ 8 → Keeps s s (refused_with o k s q p).gives
  refused_so None k q p l = just k l
  refused_so (Some t) k q p l = trouble_kept k t q p l

  onward_kept : (r : Result ℕ Refusal) (q : Quota) (f : List ℕ) → Keeps s s (onward_by r s q f).gives
  onward_kept (Err r) q f = refused_so (trouble_for r) (number_of r) q (packet_in f) (number_low r)
  onward_kept (Ok w) q f = none_kept

  echo_kept : (r : Result ℕ Refusal) (q : Quota) (f : List ℕ) → Keeps s s (echo_by r s q f).gives
  echo_kept (Err r) q f = just 10 (omega arith)
  echo_kept (Ok w) q f = none_kept

  errand_kept : (x : Result Errand PacketRefusal) (q : Quota) (f : List ℕ) → Keeps s s (by_errand x s q f).gives
  errand_kept (Err Malformed) q f = just 5 (omega arith)
  errand_kept (Err Address) q f = just 6 (omega arith)
  errand_kept (Err Expired) q f = trouble_kept 7 TimeExceeded q (packet_in f) (omega arith)
  errand_kept (Ok HandOut) q f = none_kept
  errand_kept (Ok Echo) q f =
      of_cond (λ (x : Passed). Keeps s s x.gives) (eqb (box_from (packet_in f)) s.links.me) _ (echo_by (way_to (box_from (packet_in f)) s) s q f) (λ _. none_kept) (λ _. echo_kept (way_to (box_from (packet_in f)) s) q f)
  errand_kept (Ok (Onward d)) q f = onward_kept (way_to d s) q f

  pub passed_kept : (q : Quota) (f : List ℕ) → Keeps s s (passed s q f).gives
  passed_kept q f = errand_kept (errand_of s.links.n s.links.me (packet_in f)) q f
