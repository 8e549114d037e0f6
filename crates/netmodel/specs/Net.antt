-- A net of whole boxes on wires that are laid and taken away, and that lose, repeat, delay and reorder what is sent on them, frames of earlier lives too. Assumes nothing.
use Rattle.std.specs.Prelude.{ℕ, zero, suc, ◌^◌, ◌<◌, ◌≡◌, Bool, true, false, cond, not, ◌&&◌, ◌||◌, List, [], ◌∷◌, ◌++◌, length, Some, None, Option, ◌==◌, nat_lt, nat_le}
use Rattle.model.specs.Flood.{row}
use Rattle.model.specs.Words.{is_in, at2}
use Rattle.model.specs.Box.{must_say}
use Rattle.linkmodel.specs.Links.{Wire, Silent, Heard, Open, wires}
use Rattle.linkmodel.specs.Hellos.{first_drawn, Drawn}
use Rattle.linkmodel.specs.Station.{Station, Bundle, Seens, Frame, Greets, Tells, Shows, Out, station, teller, can_say, heard_words, answers, heard_seens, heard_hello, has_costs, falls, ticks, tick_out}
use Rattle.linkmodel.specs.Calls.{expired, none_stuck, all_fresh}

-- the other end of a wire: whose it is, which of its wires, and how many wires had been laid before this one
pub record Plug : Type 0 where
  pub at : ℕ
  pub on : ℕ
  pub laid : ℕ

-- a frame that was sent: by whom, on which of its wires, what was at the other end then, and the frame
pub record Sent : Type 0 where
  pub by : ℕ
  pub on : ℕ
  pub over : Plug
  pub frame : Frame

-- boxes, by their numbers; what each wire of each is joined to; every frame ever sent, the latest first, of which any may come, again and again, or never; all tags and all numbers ever drawn; how many wires were laid
pub record Net : Type 0 where
  pub at : ℕ → Station
  pub joined : ℕ → ℕ → Option Plug
  pub sent : List Sent
  pub tags : List ℕ
  pub drawn : List ℕ
  pub laid : ℕ

-- box a ticks, with a tag for the word that it may say; the so-manieth frame of all comes to the other end of its wire, with tags for the words that may be said; a box's wires change their costs; a box falls and draws a number;
-- a wire is laid from wire w of a to wire v of e; the wire at w of a is taken away
pub data Move : Type 0 where
  Ticks : (a tag : ℕ) → Move
  Arrives : (which : ℕ) (tags : List ℕ) → Move
  Rewires : (a : ℕ) (costs : ℕ → ℕ) → Move
  Falls : (a drawn : ℕ) → Move
  Lays : (a w e v : ℕ) → Move
  Takes : (a w : ℕ) → Move

-- a frame goes out on a wire: on one that is joined to nothing it is lost
abbrev pub sent_over : ℕ → ℕ → Frame → Option Plug → List Sent
sent_over a w f None = []
sent_over a w f (Some p) = record { by = a; on = w; over = p; frame = f } ∷ []

-- frames that box a sends, the latest first
unfoldable pub sent_by : ℕ → (ℕ → Option Plug) → List Out → List Sent
sent_by a j [] = []
sent_by a j (x ∷ xs) = sent_by a j xs ++ sent_over a x.on x.frame (j x.on)

-- box a becomes s and sends these, for which these tags were drawn
abbrev pub becomes : ℕ → Station → List Out → List ℕ → Net → Net
becomes a s out ts x = record { at = row a s x.at; joined = x.joined; sent = sent_by a (x.joined a) out ++ x.sent; tags = ts ++ x.tags; drawn = x.drawn; laid = x.laid }

-- what box a does at a packet of words of e, with a tag for each, if there is such a neighbour on that wire
abbrev pub meets_words : ℕ → Option ℕ → Bundle → List ℕ → Net → Net
meets_words a None p ts x = x
meets_words a (Some e) p ts x = cond (nat_le (length p.items) (length ts)) (becomes a (heard_words e p ts (x.at a)) (answers e p (heard_words e p ts (x.at a))) ts x) x

abbrev pub meets_seens : ℕ → Option ℕ → Seens → Net → Net
meets_seens a None p x = x
meets_seens a (Some e) p x = becomes a (heard_seens e p (x.at a)) [] [] x

-- a frame comes to box a on wire w
abbrev pub meets : ℕ → ℕ → Frame → List ℕ → Net → Net
meets a w (Greets h) ts x = becomes a (heard_hello w h (x.at a)) [] [] x
meets a w (Tells p) ts x = meets_words a (teller w (x.at a).links) p ts x
meets a w (Shows p) ts x = meets_seens a (teller w (x.at a).links) p x

-- the frame at this place
unfoldable pub sent_nth : ℕ → List Sent → Option Sent
sent_nth k [] = None
sent_nth zero (f ∷ fs) = Some f
sent_nth (suc k) (f ∷ fs) = sent_nth k fs

-- the wire over which it was sent is still there
abbrev pub is_there : Option Plug → Plug → Bool
is_there None p = false
is_there (Some q) p = q.laid == p.laid

-- a frame comes, unless its wire was taken away: what is on a wire then is lost
abbrev pub comes : Option Sent → List ℕ → Net → Net
comes None ts x = x
comes (Some f) ts x = cond (is_there (x.joined f.by f.on) f.over) (meets f.over.at f.over.on f.frame ts x) x

-- numbers of 64 bits
unfoldable pub all_small : List ℕ → Bool
all_small [] = true
all_small (t ∷ ts) = nat_lt t (2 ^ 64) && all_small ts

-- a number that may be drawn now
abbrev pub is_fresh : ℕ → List ℕ → Bool
is_fresh t old = nat_lt t (2 ^ 64) && not (is_in t old)

-- costs of two bytes
unfoldable pub small_costs : (ℕ → ℕ) → ℕ → Bool
small_costs c zero = true
small_costs c (suc k) = small_costs c k && nat_lt (c k) (2 ^ 16)

-- a wire is joined to nothing, and the box knows of nobody on it: it heard nobody there for more than 40 ticks, has no cost for it, or fell since
abbrev pub is_free : Option Plug → Wire → Bool
is_free None Silent = true
is_free None (Heard f d t) = false
is_free None (Open f d t) = false
is_free (Some p) x = false

abbrev pub can_lay : ℕ → ℕ → ℕ → ℕ → ℕ → Net → Bool
can_lay n a w e v x =
    nat_lt a n && (nat_lt e n && (not (a == e) && (nat_lt w wires && (nat_lt v wires &&
    (is_free (x.joined a w) ((x.at a).links.wire w) && is_free (x.joined e v) ((x.at e).links.wire v))))))

-- a wire between two ends
abbrev pub plugged : ℕ → ℕ → ℕ → ℕ → Net → Net
plugged a w e v x = record {
  at = x.at;
  joined = at2 a w (Some (record { at = e; on = v; laid = x.laid })) (at2 e v (Some (record { at = a; on = w; laid = x.laid })) x.joined);
  sent = x.sent;
  tags = x.tags;
  drawn = x.drawn;
  laid = suc x.laid;
}

-- and none any more
abbrev pub unplugged : ℕ → ℕ → Option Plug → Net → Net
unplugged a w None x = x
unplugged a w (Some p) x = record { at = x.at; joined = at2 a w None (at2 p.at p.on None x.joined); sent = x.sent; tags = x.tags; drawn = x.drawn; laid = x.laid }

abbrev pub move : ℕ → Move → Net → Net
move n (Ticks a t) x = cond (nat_lt a n && is_fresh t x.tags) (becomes a (ticks t (x.at a)) (tick_out (ticks t (x.at a))) (t ∷ []) x) x
move n (Arrives k ts) x = cond (all_small ts && all_fresh ts x.tags) (comes (sent_nth k x.sent) ts x) x
move n (Rewires a c) x = cond (nat_lt a n && small_costs c wires) (becomes a (has_costs c (x.at a)) [] [] x) x
move n (Falls a d) x =
    cond (nat_lt a n && (nat_lt 0 d && is_fresh d x.drawn)) (record { at = row a (falls d (x.at a)) x.at; joined = x.joined; sent = x.sent; tags = x.tags; drawn = d ∷ x.drawn; laid = x.laid }) x
move n (Lays a w e v) x = cond (can_lay n a w e v x) (plugged a w e v x) x
move n (Takes a w) x = unplugged a w (x.joined a w) x

-- switched on, with these numbers drawn: no wires yet
abbrev pub begun : ℕ → (ℕ → ℕ) → Net
begun n first = record { at = λ a. station n a (first a); joined = λ a w. None; sent = []; tags = []; drawn = first_drawn first n; laid = 0 }

-- by moves, the latest first
unfoldable pub net : ℕ → (ℕ → ℕ) → List Move → Net
net n first [] = begun n first
net n first (m ∷ ms) = move n m (net n first ms)

-- at most 64 boxes, and the first numbers: none is 0, none is drawn twice, and each has 64 bits
pub record Start (n : ℕ) (first : ℕ → ℕ) : Type 0 where
  pub few : nat_le n 64 ≡ true
  pub drawn : Drawn n first
  pub small : (a : ℕ) → a < n → first a < 2 ^ 64

-- a box that gets this frame wouldn't have to say a count of 2^63 or more
abbrev pub counts_words : Option ℕ → Bundle → List ℕ → Station → Bool
counts_words None p ts s = true
counts_words (Some e) p ts s = none_stuck (p.drawn == s.links.last e) e p.items ts s.box

abbrev pub counts_frame : ℕ → Frame → List ℕ → Station → Bool
counts_frame w (Greets h) ts s = true
counts_frame w (Tells p) ts s = counts_words (teller w s.links) p ts s
counts_frame w (Shows p) ts s = true

abbrev pub counts_sent : Option Sent → List ℕ → Net → Bool
counts_sent None ts x = true
counts_sent (Some f) ts x = counts_frame f.over.on f.frame ts (x.at f.over.at)

-- nor at this move
abbrev pub counts_at : Move → Net → Bool
counts_at (Ticks a t) x = not (must_say (expired (x.at a))) || can_say ((expired (x.at a)).word a).number
counts_at (Arrives k ts) x = counts_sent (sent_nth k x.sent) ts x
counts_at (Rewires a c) x = true
counts_at (Falls a d) x = true
counts_at (Lays a w e v) x = true
counts_at (Takes a w) x = true

-- nor in the whole run of rs after ms
unfoldable pub all_counted : ℕ → (ℕ → ℕ) → List Move → List Move → Bool
all_counted n first [] ms = true
all_counted n first (m ∷ rs) ms = counts_at m (net n first (rs ++ ms)) && all_counted n first rs ms
