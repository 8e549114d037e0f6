-- A step of a packet, as one of its trip in the model: what stays, and where it goes on. Assumes nothing.
use Rattle.std.specs.Prelude.{◌≡◌, ℕ, suc, ◌+◌, ◌<◌, ◌≤◌, List, Some, None, Option, length}
use Rattle.ground.specs.Wires.{Counts, drawn_of, laid_of, lost_at, plug_at}
use Rattle.ground.specs.declared.state.Ground.{Ground}
use Rattle.linkmodel.specs.Station.{Station as Whole}
use Rattle.model.specs.Flood.{row}
use Rattle.netbytes.specs.Places.{errors_at, whole_at}
use Rattle.netbytes.specs.Trips.{Ending, Field, LostAt, OutAt, RefusedAt, trip}
use Rattle.node.specs.Passing.{Passed, framed, passed}
use Rattle.node.specs.declared.state.Node.{Node}
use Rattle.travel.specs.Steps.{gone}
use Rattle.travel.specs.declared.values.Step.{Step}
use Rattle.travel.specs.declared.values.Step.TheVariants.{Onward, Out, Refused, Lost}
use Rattle.travel.specs.declared.values.Traveller.{Traveller}

-- a packet came so: from a house, in any frame; or in a frame of its own, over a wire that has a cost
abbrev pub Came : Option ℕ → Whole → List ℕ → Type 0
Came None s f = Unit {0}
Came (Some w) s f = (0 < s.links.cost w) × ((p : List ℕ) × (f ≡ framed p))

-- it came so to a box that is there
pub record Travelling (bs : List Node) (t : Traveller) (f : List ℕ) : Type 0 where
  pub there : t.at < length bs
  pub came : Came t.came (whole_at bs t.at) f

-- what its box does with it
abbrev pub passed_at : List Node → ℕ → List ℕ → Passed
passed_at bs a f = passed (whole_at bs a) (errors_at bs a) f

-- this, if the packet went on
abbrev pub IfOnward : Step → Type 0 → Type 0
IfOnward (Onward w e) P = P
IfOnward Out P = Unit {0}
IfOnward Refused P = Unit {0}
IfOnward (Lost w e) P = Unit {0}

-- a packet's step: boxes and wires are as they were, but for the errors that its box made and what a wire was to lose; its box did what it does, and the packet is one again
pub record Passes (t : Traveller) (f : List ℕ) (bs : List Node) (g : Ground) (r : Traveller) (left : List ℕ) (cs : List Node) (h : Ground) (given : List ℕ) (s : Step) : Type 0 where
  pub long : length cs ≡ length bs
  pub boxes : (a : ℕ) → whole_at cs a ≡ whole_at bs a
  pub errors : (a : ℕ) → errors_at cs a ≡ row t.at (passed_at bs t.at f).errors (errors_at bs) a
  pub joined : (a w : ℕ) → plug_at h a w ≡ plug_at g a w
  pub counts : Counts (laid_of g) (drawn_of g) h
  pub gives : given ≡ (passed_at bs t.at f).gives
  pub frame : left ≡ (passed_at bs t.at f).frame
  pub gone : (r, s) ≡ gone (passed_at bs t.at f).goes (whole_at bs) g t
  pub again : IfOnward s (Travelling cs r left)

-- boxes and wires as a field of the model
abbrev pub field_of : List Node → Ground → Field
field_of bs g = record { at = whole_at bs; errors = errors_at bs; joined = plug_at g }

-- no wire is to lose anything
abbrev pub LosesNothing : Ground → Type 0
LosesNothing g = (a w : ℕ) → lost_at g a w ≡ 0

-- the packet's trip from here ends at once, so, and it is where it was
pub record Ends (e : Ending) (x : Field) (t : Traveller) (f : List ℕ) (r : Traveller) (left : List ℕ) : Type 0 where
  pub trip : (m : ℕ) → trip (suc m) x t.at f t.cost t.steps ≡ record { cost = r.cost; steps = t.steps; frame = left; ending = e }
  pub at : r.at ≡ t.at
  pub steps : r.steps ≡ t.steps

-- or goes on from where it is then, by one step, on the same field
pub record GoesOn (t : Traveller) (f : List ℕ) (bs : List Node) (g : Ground) (r : Traveller) (left : List ℕ) (cs : List Node) (h : Ground) : Type 0 where
  pub trip : (m : ℕ) → trip (suc m) (field_of bs g) t.at f t.cost t.steps ≡ trip m (field_of bs g) r.at left r.cost r.steps
  pub steps : r.steps ≡ suc t.steps
  pub cost : r.cost ≤ t.cost + 65535
  pub errors : (a : ℕ) → errors_at cs a ≡ errors_at bs a
  pub losing : LosesNothing h

-- just as the step says
abbrev pub Goes : Traveller → List ℕ → List Node → Ground → Traveller → List ℕ → List Node → Ground → Step → Type 0
Goes t f bs g r left cs h (Onward w e) = GoesOn t f bs g r left cs h
Goes t f bs g r left cs h Out = Ends (OutAt t.at) (field_of bs g) t f r left
Goes t f bs g r left cs h Refused = Ends (RefusedAt t.at) (field_of bs g) t f r left
Goes t f bs g r left cs h (Lost w e) = Ends (LostAt t.at) (field_of bs g) t f r left
