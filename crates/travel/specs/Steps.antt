-- What a step of a packet does to its box, to the wires and to the packet. Assumes nothing.
use Rattle.std.specs.Prelude.{◌≡◌, ℕ, ◌+◌, ◌-◌, ◌^◌, ◌<◌, cond, ◌&&◌, List, [], ◌∷◌, Some, None, Option, ◌==◌, nat_lt, min, slice_get, slice_set}
use Rattle.checksum.specs.Crc.{SumFits}
use Rattle.checksum.specs.Refused.{body_of}
use Rattle.frames.specs.Reading.{frame_in}
use Rattle.ground.specs.Wires.{WentOut, lost_at, plug_at}
use Rattle.ground.specs.declared.ends.End.{End}
use Rattle.ground.specs.declared.state.Ground.{Ground}
use Rattle.linkmodel.specs.Station.{Station as Whole}
use Rattle.netbytes.specs.Places.{whole_at}
use Rattle.netmodel.specs.Net.{Plug}
use Rattle.node.specs.Handled.{HandledBy, PassedBy}
use Rattle.node.specs.Hearing.{by_frame, refused_by, untouched}
use Rattle.node.specs.Passing.{passed}
use Rattle.node.specs.State.{whole_of}
use Rattle.node.specs.declared.state.Node.{Node}
use Rattle.outbox.specs.declared.reading.Port.{Port}
use Rattle.outbox.specs.declared.reading.Port.TheVariants.{House, Wire, Book}
use Rattle.travel.specs.declared.values.Step.{Step}
use Rattle.travel.specs.declared.values.Step.TheVariants.{Onward, Out, Refused, Lost}
use Rattle.travel.specs.declared.values.Traveller.{Traveller}

-- a box got a frame over wire w, with no tags: what it is then, what it gave out, what is left of the frame and where that goes
pub record GotOver (w : ℕ) (f : List ℕ) (before after : Node) (given left : List ℕ) (goes : Option Port) : Type 0 where
  pub dropped : (whole_of before).links.cost w ≡ 0 → HandledBy (untouched [] (whole_of before) before.quota f) after given left goes
  pub unfit : 0 < (whole_of before).links.cost w → (SumFits f → ⊥) → HandledBy (refused_by 1 (whole_of before) before.quota f) after given left goes
  pub read : 0 < (whole_of before).links.cost w → SumFits f → HandledBy (by_frame w (frame_in (whole_of before).links.n (body_of f)) (0 ∷ 0 ∷ 0 ∷ 0 ∷ []) (whole_of before) before.quota f) after given left goes

-- or from a house
abbrev pub Got : Option ℕ → List ℕ → Node → Node → List ℕ → List ℕ → Option Port → Type 0
Got None f before after given left goes = PassedBy (passed (whole_of before) before.quota f) before after [] given left goes
Got (Some w) f before after given left goes = GotOver w f before after given left goes

-- the box at this place got it, and no other box has changed
pub record GotAt (a : ℕ) (came : Option ℕ) (f : List ℕ) (bs cs : List Node) (given left : List ℕ) (goes : Option Port) : Type 0 where
  pub before : Node
  pub after : Node
  pub was : slice_get bs a ≡ Some before
  pub now : cs ≡ slice_set bs a after
  pub got : Got came f before after given left goes

-- the packet paid for a wire that costs this
abbrev pub paid : ℕ → Traveller → Traveller
paid c t = record { at = t.at; came = t.came; cost = min (t.cost + c) (2 ^ 32 - 1); steps = t.steps }

-- and is at this end of it
abbrev pub come_to : Plug → Traveller → Traveller
come_to p t = record { at = p.at; came = Some p.on; cost = t.cost; steps = min (t.steps + 1) (2 ^ 8 - 1) }

abbrev pub end_of : Plug → End
end_of p = record { at = p.at; wire = p.on }

-- it went out on wire w, to this across, where so many things are to be lost: it gets there if none is, and if the wire has a cost there
abbrev pub crossed : ℕ → (ℕ → Whole) → Option Plug → ℕ → Traveller → Traveller × Step
crossed w at None k t = (t, Lost w t.at)
crossed w at (Some p) k t = cond (k == 0 && nat_lt 0 ((at p.at).links.cost p.on)) (come_to p t, Onward w (end_of p)) (t, Lost w p.at)

-- where it is, and what became of it, once its box sent it to this port
abbrev pub gone : Option Port → (ℕ → Whole) → Ground → Traveller → Traveller × Step
gone None at g t = (t, Refused)
gone (Some House) at g t = (t, Out)
gone (Some Book) at g t = (t, Lost 0 t.at)
gone (Some (Wire w)) at g t = crossed w at (plug_at g t.at w) (lost_at g t.at w) (paid ((at t.at).links.cost w) t)

-- what that leaves of the wires
abbrev pub Used : Option Port → ℕ → Ground → Ground → Type 0
Used None a g h = h ≡ g
Used (Some House) a g h = h ≡ g
Used (Some Book) a g h = h ≡ g
Used (Some (Wire w)) a g h = WentOut a w g h

-- what a wire costs that it goes out on has two bytes
abbrev pub CostFits : Option Port → Whole → Type 0
CostFits None s = Unit {0}
CostFits (Some House) s = Unit {0}
CostFits (Some Book) s = Unit {0}
CostFits (Some (Wire w)) s = s.links.cost w < 2 ^ 16

-- its box got it, and it went where that sent it
pub record Did (t : Traveller) (f : List ℕ) (bs : List Node) (g : Ground) (r : Traveller) (left : List ℕ) (cs : List Node) (h : Ground) (given : List ℕ) (s : Step) : Type 0 where
  pub port : Option Port
  pub got : GotAt t.at t.came f bs cs given left port
  pub gone : (r, s) ≡ gone port (whole_at cs) g t
  pub used : Used port t.at g h

-- there is no such box: nothing has changed
pub record NoBox (t : Traveller) (f : List ℕ) (bs : List Node) (g : Ground) (r : Traveller) (left : List ℕ) (cs : List Node) (h : Ground) (given : List ℕ) (s : Step) : Type 0 where
  pub is : s ≡ Refused
  pub gives : given ≡ []
  pub stays : r ≡ t
  pub frame : left ≡ f
  pub boxes : cs ≡ bs
  pub wires : h ≡ g
