-- A step of a packet: what a frame of a packet is read as, what a box sends on in a frame of its own, and when two trips are the same.
use Rattle.std.proofs.Common.{◌≡◌, ℕ, zero, suc, ◌+◌, ◌<◌, ◌≤◌, cond, eqb, List, ◌∷◌, Some, None, Ok, Err, Option, Result, refl, ap, ◌∙◌, arith}
use Rattle.model.proofs.Tests.{of_cond}
use Rattle.checksum.specs.Refused.{body_of}
use Rattle.frames.specs.Reading.{a_packet, frame_in}
use Rattle.linkmodel.specs.Station.{Station as Whole}
use Rattle.netmodel.specs.Net.{Plug}
use Rattle.node.specs.Passing.{Passed, by_errand, echo_by, framed, onward_by, packet_in, passed, sent_to, way_to}
use Rattle.node.specs.declared.refusals.Refusal.{Refusal}
use Rattle.outbox.specs.declared.reading.Port.{Port}
use Rattle.outbox.specs.declared.reading.Port.TheVariants.{House, Wire, Book}
use Rattle.packets.specs.Errands.{errand_of}
use Rattle.packets.specs.Packet.{box_from, echoed, handed_on}
use Rattle.packets.specs.declared.error_quota.Quota.{Quota}
use Rattle.packets.specs.declared.values.Errand.{Errand}
use Rattle.packets.specs.declared.values.Errand.TheVariants.{Echo, HandOut, Onward}
use Rattle.packets.specs.declared.values.Refusal.{Refusal as PacketRefusal}
use Rattle.packets.specs.declared.values.Refusal.TheVariants.{Address, Expired, Malformed}
use Rattle.netbytes.specs.Trips.{Field, LostAt, Trip, across, goes_on, trip}
use Rattle.netbytes.proofs.AsRead.{body_sealed}

-- the frame of a packet is read as the packet
pub framed_read : (n : ℕ) (p : List ℕ) → frame_in n (body_of (framed p)) ≡ Ok (a_packet p)
framed_read n p = ap (frame_in n) (body_sealed (4 ∷ p))

-- what a box sends out on a wire: a packet in a frame of its own, and no error was made
pub record InFrame (q : Quota) (p : Passed) : Type 0 where
  pub errors : p.errors ≡ q
  pub packet : List ℕ
  pub frame : p.frame ≡ framed packet

-- what goes nowhere goes over no wire
never : {A : Type 0} (p : Port) → ◌≡◌ {A = Option Port} None (Some p) → A
never p e = let z : ◌≡◌ {A = ℕ} 0 1 = cc in absurd (omega arith)

not_home : {A : Type 0} (w : ℕ) → ◌≡◌ {A = Option Port} (Some House) (Some (Wire w)) → A
not_home w e = let z : ◌≡◌ {A = ℕ} 0 1 = cc in absurd (omega arith)

echo_framed : (r : Result ℕ Refusal) (s : Whole) (q : Quota) (f : List ℕ) (w : ℕ) → (echo_by r s q f).goes ≡ Some (Wire w) → InFrame q (echo_by r s q f)
echo_framed (Err r) s q f w e = never (Wire w) e
echo_framed (Ok v) s q f w e = record { errors = refl; packet = echoed (packet_in f); frame = refl }

on_framed : (r : Result ℕ Refusal) (s : Whole) (q : Quota) (f : List ℕ) (w : ℕ) → (onward_by r s q f).goes ≡ Some (Wire w) → InFrame q (onward_by r s q f)
on_framed (Err r) s q f w e = never (Wire w) e
on_framed (Ok v) s q f w e = record { errors = refl; packet = handed_on (packet_in f); frame = refl }

errand_framed : (e : Result Errand PacketRefusal) (s : Whole) (q : Quota) (f : List ℕ) (w : ℕ) → (by_errand e s q f).goes ≡ Some (Wire w) → InFrame q (by_errand e s q f)
errand_framed (Err Malformed) s q f w e = never (Wire w) e
errand_framed (Err Address) s q f w e = never (Wire w) e
errand_framed (Err Expired) s q f w e = never (Wire w) e
errand_framed (Ok HandOut) s q f w e = not_home w e
errand_framed (Ok Echo) s q f w e =
    of_cond (λ (p : Passed). p.goes ≡ Some (Wire w) → InFrame q p) (eqb (box_from (packet_in f)) s.links.me) (sent_to House (framed (echoed (packet_in f))) q) (echo_by (way_to (box_from (packet_in f)) s) s q f) (λ _. not_home w) (λ _. echo_framed (way_to (box_from (packet_in f)) s) s q f w) e
errand_framed (Ok (Onward d)) s q f w e = on_framed (way_to d s) s q f w e

-- so it is with each packet that a box sends out on a wire
pub sends_framed : (s : Whole) (q : Quota) (f : List ℕ) (w : ℕ) → (passed s q f).goes ≡ Some (Wire w) → InFrame q (passed s q f)
sends_framed s q f w e = errand_framed (errand_of s.links.n s.links.me (packet_in f)) s q f w e

-- in fields of the same boxes, errors and wires a packet makes the same trip
pub trip_same : (x y : Field) (m u : ℕ) (f : List ℕ) (c k : ℕ) → ((a : ℕ) → x.at a ≡ y.at a) → ((a : ℕ) → x.errors a ≡ y.errors a) → ((a w : ℕ) → x.joined a w ≡ y.joined a w) → trip m x u f c k ≡ trip m y u f c k
trip_same x y m u f c k p q r =
    let same : x ≡ y = (λ i. record { at = λ a. p a i; errors = λ a. q a i; joined = λ a w. r a w i }) in
    ap (λ (z : Field). trip m z u f c k) same

-- fields that are the same for the boxes below n, from which every wire leads to one of them
pub record SameBelow (n : ℕ) (x y : Field) : Type 0 where
  pub at : (a : ℕ) → a < n → x.at a ≡ y.at a
  pub errors : (a : ℕ) → x.errors a ≡ y.errors a
  pub joined : (a w : ℕ) → x.joined a w ≡ y.joined a w
  pub inside : (a w : ℕ) (p : Plug) → y.joined a w ≡ Some p → p.at < n

module _ (n : ℕ) (x y : Field) (same : SameBelow n x y) where
  -- over a wire, to a box of which it is so
  over_same : (go to : ℕ → List ℕ → ℕ → ℕ → Trip) (u : ℕ) (f : List ℕ) (c k : ℕ) (o : Option Plug) → ((v : ℕ) (g : List ℕ) (d j : ℕ) → v < n → go v g d j ≡ to v g d j) → ((p : Plug) → o ≡ Some p → p.at < n) →
      across go x u f c k o ≡ across to y u f c k o
  over_same go to u f c k None h l = refl
  over_same go to u f c k (Some p) h l =
      ap (λ (s : Whole). cond (eqb (s.links.cost p.on) 0) (record { cost = c; steps = k; frame = f; ending = LostAt u }) (go p.at f c (suc k))) (same.at p.at (l p refl))
      ∙ ap (λ (t : Trip). cond (eqb ((y.at p.at).links.cost p.on) 0) (record { cost = c; steps = k; frame = f; ending = LostAt u }) t) (h p.at f c (suc k) (l p refl))

  on_same : (go to : ℕ → List ℕ → ℕ → ℕ → Trip) (u : ℕ) (f : List ℕ) (c k : ℕ) (o : Option Port) → u < n → ((v : ℕ) (g : List ℕ) (d j : ℕ) → v < n → go v g d j ≡ to v g d j) → goes_on go x u f c k o ≡ goes_on to y u f c k o
  on_same go to u f c k None l h = refl
  on_same go to u f c k (Some House) l h = refl
  on_same go to u f c k (Some Book) l h = refl
  on_same go to u f c k (Some (Wire w)) l h =
      ap (λ (s : Whole). across go x u f (c + s.links.cost w) k (x.joined u w)) (same.at u l)
      ∙ (ap (λ (o : Option Plug). across go x u f (c + (y.at u).links.cost w) k o) (same.joined u w)
      ∙ over_same go to u f (c + (y.at u).links.cost w) k (y.joined u w) h (same.inside u w))

  -- in them too a packet makes the same trip, from a box below n
  pub trip_alike : (m u : ℕ) (f : List ℕ) (c k : ℕ) → u < n → trip m x u f c k ≡ trip m y u f c k
  unfolding trip
  trip_alike zero u f c k l = refl
  trip_alike (suc m) u f c k l =
      let p : Passed = passed (x.at u) (x.errors u) f in
      let r : Passed = passed (y.at u) (y.errors u) f in
      let e : p ≡ r = (λ i. passed (same.at u l i) (same.errors u i) f) in
      on_same (λ v g d j. trip m x v g d j) (λ v g d j. trip m y v g d j) u p.frame c k p.goes l (λ v g d j b. trip_alike m v g d j b)
      ∙ ap (λ (z : Passed). goes_on (λ v g d j. trip m y v g d j) y u z.frame c k z.goes) e

-- a trip has no fewer steps than those before it
over_grows : (go : ℕ → List ℕ → ℕ → ℕ → Trip) (x : Field) (u : ℕ) (f : List ℕ) (c k : ℕ) (o : Option Plug) → ((v : ℕ) (g : List ℕ) (d j : ℕ) → j ≤ (go v g d j).steps) → k ≤ (across go x u f c k o).steps
over_grows go x u f c k None h = omega arith
over_grows go x u f c k (Some p) h =
    of_cond (λ (t : Trip). k ≤ t.steps) (eqb ((x.at p.at).links.cost p.on) 0) (record { cost = c; steps = k; frame = f; ending = LostAt u }) (go p.at f c (suc k)) (λ _. omega arith) (λ _. omega (arith, h p.at f c (suc k)))

on_grows : (go : ℕ → List ℕ → ℕ → ℕ → Trip) (x : Field) (u : ℕ) (f : List ℕ) (c k : ℕ) (o : Option Port) → ((v : ℕ) (g : List ℕ) (d j : ℕ) → j ≤ (go v g d j).steps) → k ≤ (goes_on go x u f c k o).steps
on_grows go x u f c k None h = omega arith
on_grows go x u f c k (Some House) h = omega arith
on_grows go x u f c k (Some Book) h = omega arith
on_grows go x u f c k (Some (Wire w)) h = over_grows go x u f (c + (x.at u).links.cost w) k (x.joined u w) h

pub steps_grow : (m : ℕ) (x : Field) (u : ℕ) (f : List ℕ) (c k : ℕ) → k ≤ (trip m x u f c k).steps
unfolding trip
steps_grow zero x u f c k = omega arith
steps_grow (suc m) x u f c k =
    let p : Passed = passed (x.at u) (x.errors u) f in
    on_grows (λ v g d j. trip m x v g d j) x u p.frame c k p.goes (λ v g d j. steps_grow m x v g d j)
