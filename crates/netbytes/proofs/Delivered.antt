-- Where a packet goes in a net of boxes on wires: at rest it comes out where it goes, over a way than which none is cheaper, or is refused for want of a way.
use Rattle.std.proofs.Common.{◌≡◌, ℕ, ◌<◌, ◌≤◌, true, cond, ltb, List, Ok, sym, ap, ◌∙◌, ap₂, arith, leb-true}
use Rattle.model.specs.Box.{hop_in}
use Rattle.model.specs.Forward.{real_map}
use Rattle.model.specs.Map.{Never, At, far, Nowhere}
use Rattle.model.specs.Promise.{Rest}
use Rattle.model.specs.Words.{Ev, world}
use Rattle.model.proofs.AtRest.{hops_in, same_in}
use Rattle.model.proofs.BoxCode.{like_hands}
use Rattle.model.proofs.Closed.{far_same}
use Rattle.model.proofs.Deliver.{boxes_deliver_lem}
use Rattle.model.proofs.Fars.{never_at}
use Rattle.model.proofs.Hopping.{hop_never}
use Rattle.model.proofs.OfWords.{same_words_lem}
use Rattle.model.proofs.Reach.{reach_self}
use Rattle.model.proofs.Rows.{Like, like_of}
use Rattle.model.proofs.Settled.{far_self}
use Rattle.model.proofs.Sizes.{world_n}
use Rattle.netmodel.specs.Net.{Net, Move, net, Start}
use Rattle.netmodel.specs.Standing.{StandsFor, world_in}
use Rattle.netmodel.proofs.Simulated.{simulates, rest_is}
use Rattle.netmodel.proofs.Laws.{placed, wires_join}
use Rattle.node.specs.Passing.{packet_in, passed, refused_as, trouble_of}
use Rattle.node.specs.declared.refusals.Refusal.TheVariants.{NoWay}
use Rattle.packets.specs.declared.error_quota.Quota.{Quota}
use Rattle.packets.specs.declared.values.Errand.TheVariants.{Onward}
use Rattle.netbytes.specs.Trips.{BytesDeliver, Carries, ComesOut, ForHouse, field, trip}
use Rattle.netbytes.proofs.HandedOn.{Riding, riding_on, riding_out}
use Rattle.netbytes.proofs.OneHop.{packet_bytes, passed_nowhere}
use Rattle.netbytes.proofs.OnTheWay.{Ready, errand_at, rides}

-- the boxes of a net that stands after some events are those of the world after them
pub like_at : (n : ℕ) (x : Net) (es : List Ev) → StandsFor n x es → (a : ℕ) → a < n → Like n a (world n es) (x.at a).box
like_at n x es s a l = like_of n a (x.at a).box es (s.boxes a l)

-- so its real roads have the distances that they have there
pub far_alike : (n : ℕ) (x : Net) (es : List Ev) → StandsFor n x es → (d u : ℕ) → u < n → far (real_map (world_in n x)) d u ≡ far (real_map (world n es)) d u
far_alike n x es s d u l =
    far_same (real_map (world_in n x)) (real_map (world n es)) (λ a. true) (record {
      size = sym (world_n n es);
      same = λ a e _ la le. ap₂ (λ c b. cond (ltb 0 c) b 0) (sym ((like_at n x es s e (omega (arith, le, world_n n es))).real a)) (sym ((like_at n x es s a (omega (arith, la, world_n n es))).real e));
      closed = λ a e _ la le o. tt;
    }) d u tt (omega (arith, world_n n es))

-- every run is ready for packets
pub ready : (n : ℕ) (first : ℕ → ℕ) (ms : List Move) → Start n first → Carries n (net n first ms) → Ready n (net n first ms)
ready n first ms s c = record {
  few = leb-true n 64 s.few;
  count = λ a l. (placed n first ms a s).count;
  number = λ a l. (placed n first ms a s).number;
  joined = λ a l. (placed n first ms a s).joined;
  carries = c;
  heard = λ a w e p j h. (wires_join n first ms s a w p j).1 e h;
}

module _ (n : ℕ) (x : Net) (es : List Ev) (s : StandsFor n x es) (r : Ready n x) (rest : Rest (world n es)) (q : ℕ → Quota) (u d : ℕ) (f : List ℕ) (lu : u < n) (ld : d < n) (h : ForHouse n d f) where
  -- where no way leads, no box is next
  nowhere : far (real_map (world n es)) d u ≡ Never → hop_in d (x.at u).box ≡ Nowhere
  nowhere e =
      let i : u < (world n es).n = omega (arith, lu, world_n n es) in
      like_hands n u (world n es) (x.at u).box d (world_n n es) (like_at n x es s u lu)
      ∙ ((hops_in (world n es) (same_in same_words_lem n es) rest u d u i i (reach_self (real_map (world n es)) u)).0 ∙ hop_never (real_map (world n es)) d u e)

  -- the packet as it is handed in
  sets_out : Riding n d 0 (packet_in f) (packet_in f)
  sets_out = riding_out n d (packet_in f) h.goes (packet_bytes f h.bytes)

  -- and the box refuses the packet for that
  no_way : far (real_map (world n es)) d u ≡ Never → passed (x.at u) (q u) f ≡ trouble_of (refused_as NoWay (x.at u) (q u) (packet_in f)) f
  no_way e =
      let ne : u ≡ d → ⊥ = λ z. never_at 0 (sym e ∙ (ap (λ y. far (real_map (world n es)) d y) z ∙ far_self (real_map (world n es)) d)) in
      passed_nowhere (x.at u) (q u) f d (errand_at n x r u f (Ok (Onward d)) lu (riding_on n d 0 u (packet_in f) (packet_in f) sets_out ne (omega (arith, h.lives)))) (omega (arith, r.count u lu, ld)) (nowhere e)

  -- where one does, the packet comes out at the least cost
  comes_out : (m c : ℕ) → n ≤ m → far (real_map (world n es)) d u ≡ At c → ComesOut n d c (packet_in f) (trip m (field x q) u f 0 0)
  comes_out m c l e =
      rides n x q r d (packet_in f) ld h.lives n m 0 0 u c f lu (omega arith) l sets_out
      ((boxes_deliver_lem n es (λ a. (x.at a).box) s.boxes rest u d lu ld).0 c e)

-- At rest every packet comes out in bytes just where it goes, at the least cost, and where no way leads it is refused.
pub bytes_deliver : BytesDeliver
bytes_deliver n first ms s counted rest carries q m u d f lm lu ld h =
    let x : Net = net n first ms in
    let k = simulates n first ms s counted in
    let es : List Ev = k.0 in
    let still : Rest (world n es) = (rest_is n x es k.1).0.0 rest in
    let r : Ready n x = ready n first ms s carries in (
      λ c e. comes_out n x es k.1 r still q u d f lu ld h m c lm (sym (far_alike n x es k.1 d u lu) ∙ e),
      λ e. no_way n x es k.1 r still q u d f lu ld h (sym (far_alike n x es k.1 d u lu) ∙ e),
    )
