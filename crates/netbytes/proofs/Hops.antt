-- At any moment of rest a packet is handed out where it goes, or goes on over a wire to a box that is nearer by what the wire costs.
use Rattle.std.proofs.Common.{◌≡◌, ℕ, zero, suc, ◌+◌, ◌<◌, ◌≤◌, Bool, true, false, cond, eqb, List, Ok, sym, refl, ap, ◌∙◌, subst, arith, ltb-true, lt-ltb, ne_eqb, eqb-true}
use borrow.Author.Tests.{eqb-false}
use Rattle.std.proofs.lemmas.Bool.{cond-true, cond-false, le-ltb}
use Rattle.linkmodel.specs.Calls.{Joined}
use Rattle.linkmodel.specs.Links.{road_cost}
use Rattle.linkmodel.specs.Station.{Station as Whole, wire_to}
use Rattle.linkmodel.specs.Telling.{how_many}
use Rattle.model.specs.Box.{hop_in}
use Rattle.model.specs.Forward.{real_map}
use Rattle.model.specs.Map.{Map, Far, Never, At, far, To}
use Rattle.model.specs.Promise.{Rest}
use Rattle.model.specs.Words.{Ev, World, world}
use Rattle.model.proofs.AtRest.{hops_in, open_road, same_in}
use Rattle.model.proofs.BoxCode.{like_hands}
use Rattle.model.proofs.Fars.{plus_inv}
use Rattle.model.proofs.Hopping.{hop_pick}
use Rattle.model.proofs.OfWords.{same_words_lem}
use Rattle.model.proofs.Reach.{reach_self}
use Rattle.model.proofs.Sizes.{world_n}
use Rattle.netmodel.specs.Net.{Net, net}
use Rattle.netmodel.specs.Standing.{StandsFor, world_in}
use Rattle.netmodel.proofs.Simulated.{simulates, rest_is}
use Rattle.node.specs.Passing.{Passed, framed, packet_in, passed, sent_to}
use Rattle.outbox.specs.declared.reading.Port.TheVariants.{House, Wire}
use Rattle.packets.specs.Errands.{errand_of}
use Rattle.packets.specs.Packet.{handed_on, ttl_of}
use Rattle.packets.specs.declared.error_quota.Quota.{Quota}
use Rattle.packets.specs.declared.values.Errand.TheVariants.{HandOut, Onward}
use Rattle.station.proofs.LowestWire.{open_wire, open_who}
use Rattle.netbytes.specs.Trips.{GoesNearer, HopDelivers, IsFor, is_less, is_nearer}
use Rattle.netbytes.proofs.Delivered.{far_alike, like_at, ready}
use Rattle.netbytes.proofs.HandedOn.{Riding, riding_from, riding_home, riding_next, riding_on}
use Rattle.netbytes.proofs.OneHop.{packet_framed, passed_home, passed_on, wire_cost}
use Rattle.netbytes.proofs.OnTheWay.{Ready, errand_at}

-- how many pass is no more where each that passes passes another test
many_most : (f g : ℕ → Bool) → ((j : ℕ) → g j ≡ true → f j ≡ true) → (k : ℕ) → how_many g k ≤ how_many f k
unfolding how_many
many_most f g h zero = omega arith
many_most f g h (suc k) = go (g k) refl (many_most f g h k)
  where
    go : (b : Bool) → g k ≡ b → how_many g k ≤ how_many f k → cond (g k) (suc (how_many g k)) (how_many g k) ≤ cond (f k) (suc (how_many f k)) (how_many f k)
    go true e l = omega (arith, l, cond-true (g k) (suc (how_many g k)) (how_many g k) e, cond-true (f k) (suc (how_many f k)) (how_many f k) (h k e))
    go false e l = rest (f k) refl
      where
        rest : (b : Bool) → f k ≡ b → cond (g k) (suc (how_many g k)) (how_many g k) ≤ cond (f k) (suc (how_many f k)) (how_many f k)
        rest true i = omega (arith, l, cond-false (g k) (suc (how_many g k)) (how_many g k) e, cond-true (f k) (suc (how_many f k)) (how_many f k) i)
        rest false i = omega (arith, l, cond-false (g k) (suc (how_many g k)) (how_many g k) e, cond-false (f k) (suc (how_many f k)) (how_many f k) i)

-- and less where one passes the other alone
many_fewer : (f g : ℕ → Bool) → ((j : ℕ) → g j ≡ true → f j ≡ true) → (v : ℕ) → f v ≡ true → g v ≡ false → (k : ℕ) → v < k → how_many g k < how_many f k
unfolding how_many
many_fewer f g h v y x zero l = absurd (omega arith)
many_fewer f g h v y x (suc k) l = go (eqb v k) refl (many_fewer f g h v y x k)
  where
    go : (b : Bool) → eqb v k ≡ b → (v < k → how_many g k < how_many f k) → cond (g k) (suc (how_many g k)) (how_many g k) < cond (f k) (suc (how_many f k)) (how_many f k)
    go true e r =
        let at : v ≡ k = eqb-true v k e in
        omega (arith, many_most f g h k, cond-false (g k) (suc (how_many g k)) (how_many g k) (subst (λ z. g z ≡ false) at x), cond-true (f k) (suc (how_many f k)) (how_many f k) (subst (λ z. f z ≡ true) at y))
    go false e r =
        let ne : v ≡ k → ⊥ = eqb-false v k e in
        let m : how_many g k < how_many f k = r (omega (arith, ne)) in
        rest (g k) refl (f k) refl m
      where
        rest : (b : Bool) → g k ≡ b → (c : Bool) → f k ≡ c → how_many g k < how_many f k → cond (g k) (suc (how_many g k)) (how_many g k) < cond (f k) (suc (how_many f k)) (how_many f k)
        rest true e c i m = omega (arith, m, cond-true (g k) (suc (how_many g k)) (how_many g k) e, cond-true (f k) (suc (how_many f k)) (how_many f k) (h k e))
        rest false e true i m = omega (arith, m, cond-false (g k) (suc (how_many g k)) (how_many g k) e, cond-true (f k) (suc (how_many f k)) (how_many f k) i)
        rest false e false i m = omega (arith, m, cond-false (g k) (suc (how_many g k)) (how_many g k) e, cond-false (f k) (suc (how_many f k)) (how_many f k) i)

-- what is less than some is less than more
less_on : (x : Far) (a b : ℕ) → a ≤ b → is_less x a ≡ true → is_less x b ≡ true
less_on Never a b l h = h
less_on (At k) a b l h = lt-ltb k b (omega (arith, ltb-true k a h))

-- a box is nearer than what is farther than it, and not than itself
fewer_near : (z : Map) (d v n left c : ℕ) → v < n → left < c → far z d v ≡ At left → how_many (is_nearer z d left) n < how_many (is_nearer z d c) n
fewer_near z d v n left c l m e =
    many_fewer (is_nearer z d c) (is_nearer z d left) (λ j h. less_on (far z d j) left c (omega arith) h) v
    (ap (λ x. is_less x c) e ∙ lt-ltb left c m) (ap (λ x. is_less x left) e ∙ le-ltb left left (omega arith)) n l

module _ (n : ℕ) (x : Net) (es : List Ev) (s : StandsFor n x es) (r : Ready n x) (rest : Rest (world n es)) (q : Quota) (u d : ℕ) (f : List ℕ) (lu : u < n) (ld : d < n) (h : IsFor n d f) where
  sets_out : Riding n d 0 (packet_in f) (packet_in f)
  sets_out = riding_from n d (packet_in f) h.1 h.0

  -- the box that it is for hands it out
  comes_home : u ≡ d → passed (x.at u) q f ≡ sent_to House f q
  comes_home e = passed_home (x.at u) q f (errand_at n x r u f (Ok HandOut) lu (subst (λ z. errand_of n z (packet_in f) ≡ Ok HandOut) (sym e) h.1))

  -- to the next box on a least way there is a wire
  goes_over : (c v left : ℕ) → (u ≡ d → ⊥) → 2 ≤ ttl_of (packet_in f) → v < n → hop_in d (x.at u).box ≡ To v → 0 < (x.at u).box.cost v → far (real_map (world_in n x)) d v ≡ At left → left + (x.at u).box.cost v ≡ c →
      GoesNearer n d c x u f (passed (x.at u) q f)
  goes_over c v left ne t lv hv o e sum =
      let b : Whole = x.at u in
      let j : Joined b = r.joined u lu in
      let fr : List ℕ = framed (handed_on (packet_in f)) in
      let w : ℕ = wire_to v b.links in
      let open' : 0 < road_cost v b.links = subst (λ z. 0 < z) (j.roads v) o in
      let wire = open_wire v b.links open' in
      let cost : b.links.cost w ≡ b.box.cost v = wire_cost v b.links open' ∙ sym (j.roads v) in
      let is : passed b q f ≡ sent_to (Wire w) fr q = passed_on b q f d v j (errand_at n x r u f (Ok (Onward d)) lu (riding_on n d 0 u (packet_in f) (packet_in f) sets_out ne t)) (omega (arith, r.count u lu, ld)) hv o in
      let y = r.carries u w v lu wire.0 wire.1 in
      let there : v ≡ y.0.at = r.heard u w v y.0 y.1 (open_who v (b.links.wire w) wire.1) in
      let next : Riding n d 1 (packet_in f) (packet_in fr) =
      subst (λ z. Riding n d 1 (packet_in f) z) (sym (packet_framed (handed_on (packet_in f)))) (riding_next n d 0 (packet_in f) (packet_in f) sets_out (omega arith)) in
      subst (λ (z : Passed). GoesNearer n d c x u f z) (sym is) (record {
        wire = w;
        plug = y.0;
        left = left;
        goes = refl;
        joined = y.1;
        inside = subst (λ z. z < n) there lv;
        carries = y.2;
        far_left = subst (λ z. far (real_map (world_in n x)) d z ≡ At left) there e;
        cost = ap (λ z. left + z) cost ∙ sum;
        paid = omega (arith, cost, o);
        fewer = fewer_near (real_map (world_in n x)) d v n left c lv (omega (arith, sum, o)) e;
        still = (next.bytes, riding_home n d 1 (packet_in f) (packet_in fr) next);
        is = next.after;
      })

  -- and that is where it goes
  goes_nearer : (c : ℕ) → far (real_map (world n es)) d u ≡ At c → (u ≡ d → ⊥) → 2 ≤ ttl_of (packet_in f) → GoesNearer n d c x u f (passed (x.at u) q f)
  goes_nearer c e ne t =
      let w : World = world n es in
      let i : u < w.n = omega (arith, lu, world_n n es) in
      let k = hop_pick (real_map w) d u c i (ne_eqb u d ne) e in
      let v : ℕ = k.0 in
      let p = plus_inv ((real_map w).cost u v) (far (real_map w) d v) c (sym k.4 ∙ e) in
      let o = open_road (w.real v u) (w.real u v) k.3 in
      let same : w.real u v ≡ (x.at u).box.cost v = (like_at n x es s u lu).real v in
      let lv : v < n = omega (arith, k.2, world_n n es) in
      let own : hop_in d (x.at u).box ≡ To v =
      like_hands n u w (x.at u).box d (world_n n es) (like_at n x es s u lu) ∙ ((hops_in w (same_in same_words_lem n es) rest u d u i i (reach_self (real_map w) u)).0 ∙ k.1) in
      goes_over c v p.0 ne t lv own (omega (arith, same, o.1)) (far_alike n x es s d v lv ∙ p.1) (omega (arith, p.3, o.2, same))

-- At rest each box hands out what is for its houses, and sends what is for another's to a box that is nearer to it.
pub hop_delivers : HopDelivers
hop_delivers n first ms s counted rest carries q u d c f lu ld h e =
    let x : Net = net n first ms in
    let k = simulates n first ms s counted in
    let es : List Ev = k.0 in
    let still : Rest (world n es) = (rest_is n x es k.1).0.0 rest in
    let r : Ready n x = ready n first ms s carries in (
      λ z. comes_home n x es k.1 r still q u d f lu ld h z,
      λ ne t. goes_nearer n x es k.1 r still q u d f lu ld h c (sym (far_alike n x es k.1 d u lu) ∙ e) ne t,
    )
