-- What a box of a net does with a packet for a house of some box: it hands it out, sends it over the wire of the next box, or has no way for it.
use Rattle.std.proofs.Common.{◌≡◌, ℕ, zero, suc, ◌+◌, ◌-◌, ◌<◌, Bool, true, false, cond, ltb, List, [], ◌∷◌, length, drop, Some, None, Ok, Err, Result, sym, refl, ap, ◌∙◌, subst, arith, length-append, lt-ltb}
use Rattle.std.proofs.lemmas.List.{take_at, take-append-drop}
use Rattle.checksum.specs.Bytes.{Bytes}
use Rattle.checksum.specs.Crc.{sum_bytes}
use Rattle.checksum.proofs.Bytes.{bytes_left}
use Rattle.linkmodel.specs.Links.{Links, lowest_to, opens_to, road_cost}
use Rattle.linkmodel.specs.Station.{Station as Whole, lowest_wire, wire_to}
use Rattle.linkmodel.specs.Calls.{Joined}
use Rattle.model.specs.Box.{hop_in}
use Rattle.model.specs.Map.{Hop, Nowhere, To}
use Rattle.node.specs.Passing.{by_errand, by_next, framed, onward_by, over_road, packet_in, passed, refused_as, sent_to, trouble_of, way_to}
use Rattle.node.specs.declared.refusals.Refusal.{Refusal}
use Rattle.node.specs.declared.refusals.Refusal.TheVariants.{NoWay}
use Rattle.outbox.specs.declared.reading.Port.TheVariants.{House, Wire}
use Rattle.packets.specs.Errands.{errand_of}
use Rattle.packets.specs.Packet.{handed_on}
use Rattle.packets.specs.declared.error_quota.Quota.{Quota}
use Rattle.packets.specs.declared.values.Errand.{Errand}
use Rattle.packets.specs.declared.values.Errand.TheVariants.{HandOut, Onward}
use Rattle.packets.specs.declared.values.Refusal.{Refusal as PacketRefusal}

-- the packet in its frame
pub packet_framed : (q : List ℕ) → packet_in (framed q) ≡ q
unfolding sum_bytes
packet_framed q =
    let l : length q ≡ length (framed q) - 4 - 1 = omega (arith, length-append q (sum_bytes (4 ∷ q))) in
    take_at q (sum_bytes (4 ∷ q)) (length (framed q) - 4 - 1) l

-- the bytes of a frame's packet are bytes
pub packet_bytes : (f : List ℕ) → Bytes f → Bytes (packet_in f)
packet_bytes [] b = tt
packet_bytes (x ∷ xs) b = bytes_left (packet_in (x ∷ xs)) (drop (length (x ∷ xs) - 4 - 1) xs) (subst Bytes (sym (take-append-drop (length (x ∷ xs) - 4 - 1) xs)) b.1)

-- what the lowest of some wires costs over which the road to e is open
pub lowest_cost : (e : ℕ) (s : Links) (w k : ℕ) → 0 < lowest_to e s w k → s.cost (lowest_wire e s w k) ≡ lowest_to e s w k
unfolding lowest_to lowest_wire
lowest_cost e s w zero h = absurd (omega arith)
lowest_cost e s w (suc k) h = go (opens_to e (s.wire w)) h (lowest_cost e s (w + 1) k)
  where
    go : (b : Bool) → 0 < cond b (s.cost w) (lowest_to e s (w + 1) k) → (0 < lowest_to e s (w + 1) k → s.cost (lowest_wire e s (w + 1) k) ≡ lowest_to e s (w + 1) k) →
        s.cost (cond b w (lowest_wire e s (w + 1) k)) ≡ cond b (s.cost w) (lowest_to e s (w + 1) k)
    go true p r = refl
    go false p r = r p

-- so what the lowest open wire to a box costs is what the road costs
pub wire_cost : (e : ℕ) (s : Links) → 0 < road_cost e s → s.cost (wire_to e s) ≡ road_cost e s
wire_cost e s h = lowest_cost e s 0 8 h

-- a box hands out what is for its house
pub passed_home : (s : Whole) (q : Quota) (f : List ℕ) → errand_of s.links.n s.links.me (packet_in f) ≡ Ok HandOut → passed s q f ≡ sent_to House f q
passed_home s q f e = ap (λ (x : Result Errand PacketRefusal). by_errand x s q f) e

-- and sends on what is for another's, over the wire of the next box
pub passed_on : (s : Whole) (q : Quota) (f : List ℕ) (d v : ℕ) → Joined s → errand_of s.links.n s.links.me (packet_in f) ≡ Ok (Onward d) → d < s.box.n → hop_in d s.box ≡ To v → 0 < s.box.cost v →
    passed s q f ≡ sent_to (Wire (wire_to v s.links)) (framed (handed_on (packet_in f))) q
passed_on s q f d v j e l h c =
    let o : ltb 0 (road_cost v s.links) ≡ true = ap (λ x. ltb 0 x) (sym (j.roads v)) ∙ lt-ltb 0 (s.box.cost v) c in
    let way : way_to d s ≡ Ok (wire_to v s.links) =
    ap (λ (b : Bool). cond b (by_next (hop_in d s.box) s) (Err NoWay)) (lt-ltb d s.box.n l)
    ∙ (ap (λ (x : Hop). by_next x s) h ∙ ap (λ (b : Bool). over_road (cond b (Some (wire_to v s.links)) None)) o) in
    ap (λ (x : Result Errand PacketRefusal). by_errand x s q f) e ∙ ap (λ (x : Result ℕ Refusal). onward_by x s q f) way

-- where no box is next there is no way
pub passed_nowhere : (s : Whole) (q : Quota) (f : List ℕ) (d : ℕ) → errand_of s.links.n s.links.me (packet_in f) ≡ Ok (Onward d) → d < s.box.n → hop_in d s.box ≡ Nowhere →
    passed s q f ≡ trouble_of (refused_as NoWay s q (packet_in f)) f
passed_nowhere s q f d e l h =
    let way : way_to d s ≡ Err NoWay =
    ap (λ (b : Bool). cond b (by_next (hop_in d s.box) s) (Err NoWay)) (lt-ltb d s.box.n l) ∙ ap (λ (x : Hop). by_next x s) h in
    ap (λ (x : Result Errand PacketRefusal). by_errand x s q f) e ∙ ap (λ (x : Result ℕ Refusal). onward_by x s q f) way
