-- At rest a packet comes out where it goes, one step after the other. Assumes nothing.
use Rattle.std.specs.Prelude.{◌≡◌, ℕ, suc, ◌+◌, ◌*◌, ◌<◌, ◌≤◌, T, List, [], length}
use Rattle.ground.specs.Wires.{drawn_of, laid_of, plug_at}
use Rattle.ground.specs.declared.state.Ground.{Ground}
use Rattle.model.specs.Forward.{real_map}
use Rattle.model.specs.Map.{Never, At, far}
use Rattle.model.specs.Promise.{Rest}
use Rattle.netbytes.specs.Places.{errors_at, whole_at}
use Rattle.netbytes.specs.Playing.{PlaysAt}
use Rattle.netbytes.specs.Trips.{After, Carries, ForHouse, trip}
use Rattle.netmodel.specs.Net.{Move, all_counted, net}
use Rattle.netmodel.specs.Standing.{world_in}
use Rattle.node.specs.Passing.{packet_in, refused_as}
use Rattle.node.specs.declared.refusals.Refusal.TheVariants.{NoWay}
use Rattle.node.specs.declared.state.Node.{Node}
use Rattle.travel.specs.Passes.{LosesNothing, Travelling, field_of}
use Rattle.travel.specs.declared.values.Step.{Step}
use Rattle.travel.specs.declared.values.Step.TheVariants.{Onward, Out, Refused, Lost}
use Rattle.travel.specs.declared.values.Traveller.{Traveller}

-- the run ms of n boxes leads to these boxes and wires, it is at rest, and every wire carries
pub record Still (n : ℕ) (first : ℕ → ℕ) (ms : List Move) (bs : List Node) (g : Ground) : Type 0 where
  pub long : n ≡ length bs
  pub plays : PlaysAt n first ms (whole_at bs) (plug_at g) (laid_of g) (drawn_of g)
  pub counted : T (all_counted n first ms [])
  pub rest : Rest (world_in n (net n first ms))
  pub carries : Carries n (net n first ms)
  pub losing : LosesNothing g

-- a packet that a house of box u sent in frame f is here on its way, in this frame: the whole trip is what is left of it from here
pub record OnTheWay (bs : List Node) (g : Ground) (u : ℕ) (f : List ℕ) (t : Traveller) (left : List ℕ) : Type 0 where
  pub comes : Travelling bs t left
  pub trip : (m : ℕ) → trip (t.steps + m) (field_of bs g) u f 0 0 ≡ trip m (field_of bs g) t.at left t.cost t.steps
  pub cost : t.cost ≤ t.steps * 65535
  pub short : t.steps < length bs

-- it came out at box d, at this cost, in fewer steps than there are boxes, and all that changed on the way is the time to live and the sum
pub record CameOut (n d c : ℕ) (f : List ℕ) (r : Traveller) (left : List ℕ) : Type 0 where
  pub at : r.at ≡ d
  pub cost : r.cost ≡ c
  pub short : r.steps < n
  pub is : After r.steps (packet_in f) (packet_in left)

-- it is on its way one step further, and all else is still as it was
pub record Further (n : ℕ) (first : ℕ → ℕ) (ms : List Move) (u : ℕ) (f : List ℕ) (t r : Traveller) (left : List ℕ) (cs : List Node) (h : Ground) : Type 0 where
  pub still : Still n first ms cs h
  pub way : OnTheWay cs h u f r left
  pub steps : r.steps ≡ suc t.steps

-- where a way leads to its box it came out there, or is further
abbrev pub Nears : ℕ → (ℕ → ℕ) → List Move → (u d c : ℕ) → List ℕ → (t r : Traveller) → List ℕ → List Node → Ground → Step → Type 0
Nears n first ms u d c f t r left cs h (Onward w e) = Further n first ms u f t r left cs h
Nears n first ms u d c f t r left cs h Out = CameOut n d c f r left
Nears n first ms u d c f t r left cs h Refused = ⊥
Nears n first ms u d c f t r left cs h (Lost w e) = ⊥

-- where none does it was refused at the box that sent it, in the frame that it was sent in, and for that
pub record NoWayFrom (u : ℕ) (f : List ℕ) (bs : List Node) (r : Traveller) (left given : List ℕ) (s : Step) : Type 0 where
  pub is : s ≡ Refused
  pub at : r.at ≡ u
  pub frame : left ≡ f
  pub gives : given ≡ (refused_as NoWay (whole_at bs u) (errors_at bs u) (packet_in f)).gives

-- At rest each step brings a packet nearer to where it goes: begun at a box it comes out in fewer steps than there are boxes, over a way than which none is cheaper; or it is refused at once, if no way leads there.
abbrev pub Delivers : Traveller → List ℕ → List Node → Ground → Traveller → List ℕ → List Node → Ground → List ℕ → Step → Type 0
Delivers t now bs g r left cs h given s =
    (n : ℕ) (first : ℕ → ℕ) (ms : List Move) → Still n first ms bs g → (u d : ℕ) (f : List ℕ) → u < n → d < n → ForHouse n d f → OnTheWay bs g u f t now →
    ((c : ℕ) → far (real_map (world_in n (net n first ms))) d u ≡ At c → Nears n first ms u d c f t r left cs h s)
    × (far (real_map (world_in n (net n first ms))) d u ≡ Never → NoWayFrom u f bs r left given s)
