-- A packet goes from box to box in bytes just as the boxes hand it on in the model.
use Rattle.std.proofs.Common.{◌≡◌, ℕ, zero, suc, ◌+◌, ◌<◌, ◌≤◌, Bool, true, false, cond, eqb, List, Some, Ok, Option, Result, sym, refl, ap, ◌∙◌, subst, ap₂, arith, ltb-true, eqb-true, ne_eqb}
use borrow.Author.Tests.{eqb-false}
use Rattle.linkmodel.specs.Calls.{Joined}
use Rattle.linkmodel.specs.Links.{road_cost, who_on}
use Rattle.linkmodel.specs.Station.{Station as Whole, wire_to}
use Rattle.model.specs.Box.{Box, hop_in, is_open, map_in}
use Rattle.model.specs.Boxes.{follows, handed_on as hands_on}
use Rattle.model.specs.Forward.{End, Arrived, Refused as Stuck}
use Rattle.model.specs.Map.{Hop, Nowhere, To}
use Rattle.model.proofs.Closed.{hop_to}
use Rattle.netmodel.specs.Net.{Plug, Net}
use Rattle.node.specs.Passing.{Passed, framed, packet_in, passed, sent_to}
use Rattle.outbox.specs.declared.reading.Port.TheVariants.{Wire}
use Rattle.packets.specs.Errands.{errand_of}
use Rattle.packets.specs.Packet.{handed_on, ttl_of}
use Rattle.packets.specs.declared.error_quota.Quota.{Quota}
use Rattle.packets.specs.declared.values.Errand.{Errand}
use Rattle.packets.specs.declared.values.Refusal.{Refusal}
use Rattle.packets.specs.declared.values.Errand.TheVariants.{HandOut, Onward}
use Rattle.station.proofs.LowestWire.{open_wire, open_who}
use Rattle.netbytes.specs.Trips.{Carries, ComesOut, Trip, OutAt, LostAt, across, field, goes_on, trip}
use Rattle.netbytes.proofs.HandedOn.{Riding, riding_home, riding_next, riding_on}
use Rattle.netbytes.proofs.OneHop.{packet_framed, passed_home, passed_on, wire_cost}

-- a net of boxes in their places, in which every open wire leads to the box that was heard on it
pub record Ready (n : ℕ) (x : Net) : Type 0 where
  pub few : n ≤ 64
  pub count : (a : ℕ) → a < n → (x.at a).box.n ≡ n
  pub number : (a : ℕ) → a < n → (x.at a).box.me ≡ a
  pub joined : (a : ℕ) → a < n → Joined (x.at a)
  pub carries : Carries n x
  pub heard : (a w e : ℕ) (p : Plug) → x.joined a w ≡ Some p → who_on ((x.at a).links.wire w) ≡ Some e → e ≡ p.at

-- only what still has steps left arrives
arrived_left : (m : ℕ) (b : ℕ → Box) (d c u t : ℕ) → follows m b d c u ≡ Arrived t → 0 < m
unfolding follows
arrived_left zero b d c u t h = let z : ◌≡◌ {A = ℕ} 0 1 = cc in absurd (omega arith)
arrived_left (suc m) b d c u t h = omega arith

-- what arrives was handed on over a road that is open
hands_to : (go : ℕ → ℕ → End) (s : Box) (c u t : ℕ) (h : Hop) → hands_on go s c u h ≡ Arrived t → (v : ℕ) × (h ≡ To v) × (0 < s.cost v) × (go (c + s.cost v) v ≡ Arrived t)
hands_to go s c u t Nowhere e = let z : ◌≡◌ {A = ℕ} 0 1 = cc in absurd (omega arith)
hands_to go s c u t (To v) e = open' (is_open v s) refl e
  where
    open' : (b : Bool) → is_open v s ≡ b → cond b (go (c + s.cost v) v) (Stuck u) ≡ Arrived t → (w : ℕ) × (To v ≡ To w) × (0 < s.cost w) × (go (c + s.cost w) w ≡ Arrived t)
    open' true i e = (v, refl, ltb-true 0 (s.cost v) i, e)
    open' false i e = let z : ◌≡◌ {A = ℕ} 0 1 = cc in absurd (omega arith)

-- what a box does with a packet, by its own numbers
pub errand_at : (n : ℕ) (x : Net) → Ready n x → (u : ℕ) (f : List ℕ) (e : Result Errand Refusal) → u < n → errand_of n u (packet_in f) ≡ e → errand_of (x.at u).links.n (x.at u).links.me (packet_in f) ≡ e
errand_at n x r u f e l h = ap₂ (λ a b. errand_of a b (packet_in f)) ((r.joined u l).count ∙ r.count u l) ((r.joined u l).number ∙ r.number u l) ∙ h

module _ (n : ℕ) (x : Net) (q : ℕ → Quota) (r : Ready n x) (d : ℕ) (p : List ℕ) (ld : d < n) (lives : 64 ≤ ttl_of p) where
  -- it goes over the wire to the next box
  trip_on : (M k c u v : ℕ) (f : List ℕ) → u < n → Riding n d k p (packet_in f) → (u ≡ d → ⊥) → 2 ≤ ttl_of (packet_in f) → hop_in d (x.at u).box ≡ To v → 0 < (x.at u).box.cost v →
      trip (suc M) (field x q) u f c k ≡ trip M (field x q) v (framed (handed_on (packet_in f))) (c + (x.at u).box.cost v) (suc k)
  unfolding trip
  trip_on M k c u v f l a ne t h o =
      let s : Whole = x.at u in
      let j : Joined s = r.joined u l in
      let fr : List ℕ = framed (handed_on (packet_in f)) in
      let w : ℕ = wire_to v s.links in
      let open' : 0 < road_cost v s.links = subst (λ z. 0 < z) (j.roads v) o in
      let wire = open_wire v s.links open' in
      let cost : s.links.cost w ≡ s.box.cost v = wire_cost v s.links open' ∙ sym (j.roads v) in
      let is : passed s (q u) f ≡ sent_to (Wire w) fr (q u) = passed_on s (q u) f d v j (errand_at n x r u f (Ok (Onward d)) l (riding_on n d k u p (packet_in f) a ne t)) (omega (arith, r.count u l, ld)) h o in
      let y = r.carries u w v l wire.0 wire.1 in
      let there : v ≡ y.0.at = r.heard u w v y.0 y.1 (open_who v (s.links.wire w) wire.1) in
      let go : ℕ → List ℕ → ℕ → ℕ → Trip = λ v g d j. trip M (field x q) v g d j in
      let lost : Trip = record { cost = c + s.links.cost w; steps = k; frame = fr; ending = LostAt u } in
      ap (λ (z : Passed). goes_on go (field x q) u z.frame c k z.goes) is
      ∙ (ap (λ (z : Option Plug). across go (field x q) u fr (c + s.links.cost w) k z) y.1
      ∙ (ap (λ (b : Bool). cond b lost (go y.0.at fr (c + s.links.cost w) (suc k))) (ne_eqb ((x.at y.0.at).links.cost y.0.on) 0 (λ z. let l = y.2 in omega arith))
      ∙ ap₂ (λ (a b : ℕ). go a fr (c + b) (suc k)) (sym there) cost))

  -- where it goes it comes out
  trip_home : (M k c : ℕ) (f : List ℕ) → Riding n d k p (packet_in f) → trip (suc M) (field x q) d f c k ≡ record { cost = c; steps = k; frame = f; ending = OutAt d }
  unfolding trip
  trip_home M k c f a =
      ap (λ (z : Passed). goes_on (λ v g e j. trip M (field x q) v g e j) (field x q) d z.frame c k z.goes)
      (passed_home (x.at d) (q d) f (errand_at n x r d f (Ok HandOut) ld (riding_home n d k p (packet_in f) a)))

  -- so what arrives in the model comes out in bytes, at the same cost
  pub rides : (m M k c u total : ℕ) (f : List ℕ) → u < n → k + m ≤ n → m ≤ M → Riding n d k p (packet_in f) → follows m (λ a. (x.at a).box) d c u ≡ Arrived total →
      ComesOut n d total p (trip M (field x q) u f c k)
  unfolding follows
  rides zero M k c u total f l few h a e = let z = arrived_left zero (λ a. (x.at a).box) d c u total e in absurd (omega arith)
  rides (suc m) zero k c u total f l few h a e = absurd (omega arith)
  rides (suc m) (suc M) k c u total f l few h a e = go (eqb u d) refl e (λ k c v f. rides m M k c v total f)
    where
      go : (b : Bool) → eqb u d ≡ b → cond b (Arrived c) (hands_on (λ c v. follows m (λ a. (x.at a).box) d c v) (x.at u).box c u (hop_in d (x.at u).box)) ≡ Arrived total →
          ((k c v : ℕ) (f : List ℕ) → v < n → k + m ≤ n → m ≤ M → Riding n d k p (packet_in f) → follows m (λ a. (x.at a).box) d c v ≡ Arrived total → ComesOut n d total p (trip M (field x q) v f c k)) →
          ComesOut n d total p (trip (suc M) (field x q) u f c k)
      go true i e more =
          let same : c ≡ total = cc in
          subst (λ v. ComesOut n d total p (trip (suc M) (field x q) v f c k)) (sym (eqb-true u d i))
          (subst (λ t. ComesOut n d total p t) (sym (trip_home M k c f a)) (record { out = refl; cost = same; short = omega (arith, few); is = a.after }))
      go false i e more =
          let ne : u ≡ d → ⊥ = eqb-false u d i in
          let y = hands_to (λ c v. follows m (λ a. (x.at a).box) d c v) (x.at u).box c u total (hop_in d (x.at u).box) e in
          let v : ℕ = y.0 in
          let left : 0 < m = arrived_left m (λ a. (x.at a).box) d (c + (x.at u).box.cost v) v total y.3 in
          let small : v < n = omega (arith, (hop_to (map_in (x.at u).box) d (x.at u).box.me v y.1).0, r.count u l) in
          let t : 2 ≤ ttl_of (packet_in f) = omega (arith, a.after.lives, lives, r.few, few, left) in
          let next : Riding n d (suc k) p (packet_in (framed (handed_on (packet_in f)))) =
          subst (λ z. Riding n d (suc k) p z) (sym (packet_framed (handed_on (packet_in f)))) (riding_next n d k p (packet_in f) a (omega arith)) in
          subst (λ t. ComesOut n d total p t) (sym (trip_on M k c u v f l a ne t y.1 y.2))
          (more (suc k) (c + (x.at u).box.cost v) v (framed (handed_on (packet_in f))) small (omega (arith, few)) (omega (arith, h)) next y.3)
