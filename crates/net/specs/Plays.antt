-- What the calls of a net do to its boxes, wires and numbers, and which run of the model's net they play. Assumes nothing.
use Rattle.std.specs.Prelude.{◌≡◌, ℕ, ◌^◌, ◌<◌, ◌≤◌, List, [], ◌∷◌, length, Bool, true, false, Some, None, Ok, Err, Option, Result, cond, ◌&&◌, nat_lt, nat_le, ◌==◌, ◌≢◌, ◌⊎◌, slice_get, slice_set}
use Rattle.model.specs.Flood.{row}
use Rattle.linkmodel.specs.Hellos.{Drawn}
use Rattle.linkmodel.specs.Station.{Station as Whole, has_costs, station}
use Rattle.linkmodel.specs.Links.{wires}
unfoldable pub use Rattle.netbytes.specs.Places.{whole_at}
use Rattle.netmodel.specs.Net.{Move, Plug, Sent}
use Rattle.checksum.specs.Crc.{SumFits}
use Rattle.checksum.specs.Refused.{body_of}
use Rattle.frames.specs.Reading.{Told, a_hello, a_packet, frame_in, some_seen, some_words}
use Rattle.octets.specs.declared.Fault.{Fault}
use Rattle.netbytes.specs.Arriving.{wire_bytes}
use Rattle.netbytes.specs.Playing.{PlaysAt, Posts}
use Rattle.node.specs.Handled.{HandledBy, TurnedBy}
use Rattle.node.specs.Hearing.{by_frame, refused_by, untouched}
use Rattle.node.specs.State.{whole_of}
use Rattle.node.specs.declared.state.Node.{Node}
use Rattle.outbox.specs.declared.reading.Port.{Port}
use Rattle.ground.specs.Wires.{Laid, SameWires, drawn_of, laid_of, next_number, plug_at, plug_of}
use Rattle.ground.specs.declared.ends.End.{End}
use Rattle.ground.specs.declared.ends.Plug.{Plug as Across}
use Rattle.ground.specs.declared.state.Ground.{Ground}

-- the run ms, begun with these first numbers, leads just to these boxes on these wires
abbrev pub Plays : (ℕ → ℕ) → List Move → List Node → Ground → Type 0
Plays first ms boxes g = PlaysAt (length boxes) first ms (whole_at boxes) (plug_at g) (laid_of g) (drawn_of g)

-- and with this move it leads on; what box a gave out is what was then sent
abbrev pub GoesOn : (ℕ → ℕ) → Move → List Move → ℕ → List Node → Ground → List ℕ → Type 0
GoesOn first m ms a boxes g given = Plays first (m ∷ ms) boxes g × Posts (length boxes) first m ms a given

-- box a became another, and all others stay
pub record Becomes (a : ℕ) (old new : List Node) (before after : Node) : Type 0 where
  pub was : slice_get old a ≡ Some before
  pub is : new ≡ slice_set old a after

-- box a turned into what is defined of it, and gave out what is
pub record Turned (leaves : Whole → Whole) (gives : Whole → List ℕ) (a : ℕ) (old new : List Node) (given : List ℕ) : Type 0 where
  pub before : Node
  pub after : Node
  pub becomes : Becomes a old new before after
  pub turned : TurnedBy (leaves (whole_of before)) (gives (whole_of before)) before after given

-- one wire of a box costs otherwise
abbrev pub costing : ℕ → ℕ → Whole → Whole
costing w c s = has_costs (row w c s.links.cost) s

-- a frame came to box a on wire w, with these tags: dropped, refused for its sum, or handled as what it is read as
pub record Heard (a w : ℕ) (tags : List ℕ) (old new : List Node) (given was left : List ℕ) (goes : Option Port) : Type 0 where
  pub before : Node
  pub after : Node
  pub becomes : Becomes a old new before after
  pub dropped : (whole_of before).links.cost w ≡ 0 → HandledBy (untouched [] (whole_of before) before.quota was) after given left goes
  pub unfit : 0 < (whole_of before).links.cost w → (SumFits was → ⊥) → HandledBy (refused_by 1 (whole_of before) before.quota was) after given left goes
  pub read : 0 < (whole_of before).links.cost w → SumFits was → HandledBy (by_frame w (frame_in (whole_of before).links.n (body_of was)) tags (whole_of before) before.quota was) after given left goes

-- whether these bytes are a frame of words
abbrev pub is_words : List ℕ → Bool
is_words [] = false
is_words (b ∷ bs) = b == 2

-- the next four numbers
abbrev pub next_four : ℕ → List ℕ
next_four d = next_number d ∷ next_number (next_number d) ∷ next_number (next_number (next_number d)) ∷ next_number (next_number (next_number (next_number d))) ∷ []

-- the tags with which bytes come to a box: the next four for a frame of words, zeros for another
abbrev pub tags_of : List ℕ → ℕ → List ℕ
tags_of f d = cond (is_words f) (next_four d) (0 ∷ 0 ∷ 0 ∷ 0 ∷ [])

-- those of them that are drawn
abbrev pub tags_drawn : List ℕ → ℕ → List ℕ
tags_drawn f d = cond (is_words f) (next_four d) []

-- and the last number drawn then
abbrev pub drawn_after : List ℕ → ℕ → ℕ
drawn_after f d = cond (is_words f) (next_number (next_number (next_number (next_number d)))) d

-- the tags of a frame were drawn
pub record DrewFor (f : List ℕ) (old new : Ground) : Type 0 where
  pub drawn : drawn_of new ≡ drawn_after f (drawn_of old)
  pub rises : drawn_of old ≤ drawn_of new
  pub stays : SameWires old new

-- these bytes are those of a frame that was sent at this end of a wire
pub record IsSent (f : Sent) (from : End) (over : Across) (bytes : List ℕ) : Type 0 where
  pub by : f.by ≡ from.at
  pub on : f.on ≡ from.wire
  pub across : f.over ≡ plug_of over
  pub is : bytes ≡ wire_bytes f.frame

-- what is read is a fault or a packet, and no frame that boxes send of themselves
abbrev pub IsNoNews : Result Told Fault → Type 0
IsNoNews (Err e) = Unit {0}
IsNoNews (Ok (a_packet p)) = Unit {0}
IsNoNews (Ok (a_hello h)) = ⊥
IsNoNews (Ok (some_words p)) = ⊥
IsNoNews (Ok (some_seen p)) = ⊥

-- so are bytes whose sum isn't right
abbrev pub NoNews : ℕ → List ℕ → Type 0
NoNews n f = (SumFits f → ⊥) ⊎ (SumFits f × IsNoNews (frame_in n (body_of f)))

-- no box changes, and nothing is given out
pub record Same (old new : List Node) (given : List ℕ) : Type 0 where
  pub boxes : new ≡ old
  pub nothing : given ≡ []

-- nothing is done, and nothing is given out
pub record Untouched (old new : List Node) (land earth : Ground) (given : List ℕ) : Type 0 where
  pub boxes : new ≡ old
  pub stands : earth ≡ land
  pub nothing : given ≡ []

-- a wire that is joined to nothing and has no cost
abbrev pub is_idle : Option Plug → ℕ → Bool
is_idle None c = c == 0
is_idle (Some p) c = false

abbrev pub idle_at : List Node → Ground → ℕ → ℕ → Bool
idle_at boxes g a w = is_idle (plug_at g a w) ((whole_at boxes a).links.cost w)

-- the lowest such wire of box a, or it has none
abbrev pub LowestIdle : ℕ → List Node → Ground → Option End → Type 0
LowestIdle a boxes g None = (v : ℕ) → v < wires → idle_at boxes g a v ≡ false
LowestIdle a boxes g (Some end) = (end.at ≡ a) × (end.wire < wires) × (idle_at boxes g a end.wire ≡ true) × ((v : ℕ) → v < end.wire → idle_at boxes g a v ≡ false)

-- a wire was laid between the lowest idle wires of two boxes
pub record LaysBetween (a e : ℕ) (boxes : List Node) (old new : Ground) (ends : End × End) : Type 0 where
  pub apart : a ≢ e
  pub one : LowestIdle a boxes old (Some ends.0)
  pub other : LowestIdle e boxes old (Some ends.1)
  pub laid : Laid ends.0.at ends.0.wire ends.1.at ends.1.wire old new

-- switched on as box me of n, with no wires; or there is no such box, or there are too many
abbrev pub begun_as : ℕ → ℕ → ℕ → Result Whole ℕ
begun_as n me d = cond (nat_lt me n && nat_le n 64) (Ok (station n me d)) (Err 2)

-- no wire is laid
pub record Empty (g : Ground) : Type 0 where
  pub bare : (a w : ℕ) → plug_at g a w ≡ None
  pub laid : laid_of g ≡ 0

-- the first so many of n boxes are switched on, each under a number of its own, and no wire is laid
pub record Switched (n : ℕ) (first : ℕ → ℕ) (ss : List Node) (g : Ground) : Type 0 where
  pub few : n ≤ 64
  pub boxes : (a : ℕ) → a < length ss → whole_at ss a ≡ station n a (first a)
  pub drawn : Drawn (length ss) first
  pub small : (a : ℕ) → a < length ss → first a < 2 ^ 64
  pub up_to : (a : ℕ) → a < length ss → first a ≤ drawn_of g
  pub empty : Empty g
