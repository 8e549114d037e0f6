-- Where a packet goes in a net of boxes on wires, in bytes. Proofs of BytesDeliver and HopDelivers are the theorems. Assumes nothing.
use Rattle.std.specs.Prelude.{◌≡◌, ℕ, zero, suc, ◌+◌, ◌<◌, ◌≤◌, true, cond, T, List, [], length, take, Some, None, Ok, Option, Bool, false, nat_lt, ◌==◌, ◌≢◌, slice_index}
use Rattle.checksum.specs.Bytes.{Bytes}
use Rattle.checksum.specs.Internet.{header_fits}
use Rattle.linkmodel.specs.Links.{wires, opens_to}
use Rattle.linkmodel.specs.Station.{Station as Whole}
use Rattle.model.specs.Forward.{real_map}
use Rattle.linkmodel.specs.Telling.{how_many}
use Rattle.model.specs.Map.{Map, Far, Never, At, far}
use Rattle.model.specs.Promise.{Rest}
use Rattle.netmodel.specs.Net.{Plug, Net, Move, net, Start, all_counted}
use Rattle.netmodel.specs.Standing.{world_in}
use Rattle.node.specs.Passing.{Passed, packet_in, passed, refused_as, sent_to, trouble_of}
use Rattle.node.specs.declared.refusals.Refusal.TheVariants.{NoWay}
use Rattle.outbox.specs.declared.reading.Port.{Port}
use Rattle.outbox.specs.declared.reading.Port.TheVariants.{House, Wire, Book}
use Rattle.packets.specs.Errands.{errand_of}
use Rattle.packets.specs.Packet.{ttl_of}
use Rattle.packets.specs.Travels.{GoesTo}
use Rattle.packets.specs.declared.error_quota.Quota.{Quota}
use Rattle.packets.specs.declared.values.Errand.TheVariants.{HandOut}

-- how a packet ended: it came out to a house of this box; this box refused it; this box put it on a wire that isn't joined, or that has no cost at its other end; or it went on for too long
pub data Ending : Type 0 where
  OutAt : (box : ℕ) → Ending
  RefusedAt : (box : ℕ) → Ending
  LostAt : (box : ℕ) → Ending
  TooLong : Ending

-- what the wires cost that it went over, how many they were, its frame at the end, and how it ended
pub record Trip : Type 0 where
  pub cost : ℕ
  pub steps : ℕ
  pub frame : List ℕ
  pub ending : Ending

-- boxes by their numbers, the errors that each made in this second, and what each wire of each is joined to
pub record Field : Type 0 where
  pub at : ℕ → Whole
  pub errors : ℕ → Quota
  pub joined : ℕ → ℕ → Option Plug

-- it goes on from the other end of a wire
abbrev pub across : (ℕ → List ℕ → ℕ → ℕ → Trip) → Field → ℕ → List ℕ → ℕ → ℕ → Option Plug → Trip
across go x u f c k None = record { cost = c; steps = k; frame = f; ending = LostAt u }
across go x u f c k (Some p) = cond ((x.at p.at).links.cost p.on == 0) (record { cost = c; steps = k; frame = f; ending = LostAt u }) (go p.at f c (suc k))

-- what box u does with it: where it goes, and its frame then
abbrev pub goes_on : (ℕ → List ℕ → ℕ → ℕ → Trip) → Field → ℕ → List ℕ → ℕ → ℕ → Option Port → Trip
goes_on go x u f c k None = record { cost = c; steps = k; frame = f; ending = RefusedAt u }
goes_on go x u f c k (Some House) = record { cost = c; steps = k; frame = f; ending = OutAt u }
goes_on go x u f c k (Some Book) = record { cost = c; steps = k; frame = f; ending = LostAt u }
goes_on go x u f c k (Some (Wire w)) = across go x u f (c + (x.at u).links.cost w) k (x.joined u w)

-- the packet in a frame at box u, handed on at most so often, after so many steps at this cost
unfoldable pub trip : ℕ → Field → ℕ → List ℕ → ℕ → ℕ → Trip
trip zero x u f c k = record { cost = c; steps = k; frame = f; ending = TooLong }
trip (suc m) x u f c k = goes_on (λ v g d j. trip m x v g d j) x u (passed (x.at u) (x.errors u) f).frame c k (passed (x.at u) (x.errors u) f).goes

abbrev pub field : Net → (ℕ → Quota) → Field
field x q = record { at = x.at; errors = q; joined = x.joined }

-- a packet for a house of box d, with a time to live of 64 or more, in a frame: a byte before it and four behind it
pub record ForHouse (n d : ℕ) (f : List ℕ) : Type 0 where
  pub bytes : Bytes f
  pub goes : GoesTo n d (packet_in f)
  pub lives : 64 ≤ ttl_of (packet_in f)

-- a packet after k steps: the time to live is less by k, the header's sum is right, and all else is as it was
pub record After (k : ℕ) (p q : List ℕ) : Type 0 where
  pub long : length q ≡ length p
  pub lives : ttl_of q + k ≡ ttl_of p
  pub right : header_fits (take 20 q)
  pub same : (i : ℕ) → (i ≢ 8) → (i ≢ 10) → (i ≢ 11) → slice_index q i ≡ slice_index p i

-- every wire that a box holds open is there, and has a cost at its other end
abbrev pub Carries : ℕ → Net → Type 0
Carries n x = (a w e : ℕ) → a < n → w < wires → opens_to e ((x.at a).links.wire w) ≡ true → (p : Plug) × (x.joined a w ≡ Some p) × (0 < (x.at p.at).links.cost p.on)

-- it came out at box d, at this cost, in fewer steps than there are boxes
pub record ComesOut (n d c : ℕ) (p : List ℕ) (t : Trip) : Type 0 where
  pub out : t.ending ≡ OutAt d
  pub cost : t.cost ≡ c
  pub short : t.steps < n
  pub is : After t.steps p (packet_in t.frame)

-- At rest a packet comes out where it goes, over a way than which none is cheaper, in fewer steps than there are boxes; if no way leads there, the box that it was handed in at refuses it for that.
abbrev pub BytesDeliver : Type 0
BytesDeliver =
    (n : ℕ) (first : ℕ → ℕ) (ms : List Move) → Start n first → T (all_counted n first ms []) → Rest (world_in n (net n first ms)) → Carries n (net n first ms) →
    (q : ℕ → Quota) (m u d : ℕ) (f : List ℕ) → n ≤ m → u < n → d < n → ForHouse n d f →
    ((c : ℕ) → far (real_map (world_in n (net n first ms))) d u ≡ At c → ComesOut n d c (packet_in f) (trip m (field (net n first ms) q) u f 0 0))
    × (far (real_map (world_in n (net n first ms))) d u ≡ Never → passed ((net n first ms).at u) (q u) f ≡ trouble_of (refused_as NoWay ((net n first ms).at u) (q u) (packet_in f)) f)

-- the packet in a frame is one that box d hands out to a house
abbrev pub IsFor : ℕ → ℕ → List ℕ → Type 0
IsFor n d f = Bytes (packet_in f) × (errand_of n d (packet_in f) ≡ Ok HandOut)

-- a distance is less than c
abbrev pub is_less : Far → ℕ → Bool
is_less Never c = false
is_less (At k) c = nat_lt k c

-- a box is nearer to d than c
abbrev pub is_nearer : Map → ℕ → ℕ → ℕ → Bool
is_nearer z d c a = is_less (far z d a) c

-- the packet goes on over a wire that is there, to a box that is nearer by just what the wire costs, so that fewer are nearer still; one less to live, and else as it was
pub record GoesNearer (n d c : ℕ) (x : Net) (u : ℕ) (f : List ℕ) (p : Passed) : Type 0 where
  pub wire : ℕ
  pub plug : Plug
  pub left : ℕ
  pub goes : p.goes ≡ Some (Wire wire)
  pub joined : x.joined u wire ≡ Some plug
  pub inside : plug.at < n
  pub carries : 0 < (x.at plug.at).links.cost plug.on
  pub far_left : far (real_map (world_in n x)) d plug.at ≡ At left
  pub cost : left + (x.at u).links.cost wire ≡ c
  pub paid : 0 < (x.at u).links.cost wire
  pub fewer : how_many (is_nearer (real_map (world_in n x)) d left) n < how_many (is_nearer (real_map (world_in n x)) d c) n
  pub still : IsFor n d p.frame
  pub is : After 1 (packet_in f) (packet_in p.frame)

-- At any moment of rest a packet to whose box a way leads is handed out there, and from any other box it goes on nearer to it, as long as it lives.
abbrev pub HopDelivers : Type 0
HopDelivers =
    (n : ℕ) (first : ℕ → ℕ) (ms : List Move) → Start n first → T (all_counted n first ms []) → Rest (world_in n (net n first ms)) → Carries n (net n first ms) →
    (q : Quota) (u d c : ℕ) (f : List ℕ) → u < n → d < n → IsFor n d f → far (real_map (world_in n (net n first ms))) d u ≡ At c →
    (u ≡ d → passed ((net n first ms).at u) q f ≡ sent_to House f q)
    × ((u ≢ d) → 2 ≤ ttl_of (packet_in f) → GoesNearer n d c (net n first ms) u f (passed ((net n first ms).at u) q f))
