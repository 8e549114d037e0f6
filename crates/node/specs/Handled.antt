-- That the running box did what is defined for it. Assumes nothing.
use Rattle.std.specs.Prelude.{◌≡◌, ℕ, List, ◌++◌, Some, None, Ok, Err, Option, Result}
use Rattle.linkmodel.specs.Station.{Station as Whole}
use Rattle.outbox.specs.Parcels.{contents}
use Rattle.outbox.specs.declared.reading.Port.{Port}
use Rattle.outbox.specs.declared.state.Outbox.{Outbox}
use Rattle.station.specs.State.{refusal_number}
use Rattle.station.specs.declared.answers.Refusal.{Refusal as Reason}
use Rattle.node.specs.declared.refusals.Refusal.{Refusal}
use Rattle.node.specs.declared.state.Node.{Node}
use Rattle.node.specs.Hearing.{Handled, refused_by}
use Rattle.node.specs.Passing.{Passed}
use Rattle.node.specs.Refusals.{number_of}
use Rattle.node.specs.State.{whole_of}

-- a packet passed so: what was given out besides, the errors made, the frame left and where it goes; all else of the box stays
pub record PassedBy (p : Passed) (before after : Node) (old new frame : List ℕ) (goes : Option Port) : Type 0 where
  pub gives : new ≡ old ++ p.gives
  pub errors : after.quota ≡ p.errors
  pub stays : after.station ≡ before.station
  pub left : frame ≡ p.frame
  pub port : goes ≡ p.goes

-- a frame was handled so
pub record HandledBy (h : Handled) (after : Node) (new frame : List ℕ) (goes : Option Port) : Type 0 where
  pub whole : whole_of after ≡ h.whole
  pub gives : new ≡ h.gives
  pub errors : after.quota ≡ h.errors
  pub left : frame ≡ h.frame
  pub port : goes ≡ h.goes

-- a box turned so: what is left of it and what was given out; the errors made stay
pub record TurnedBy (leaves : Whole) (given : List ℕ) (before after : Node) (new : List ℕ) : Type 0 where
  pub is : whole_of after ≡ leaves
  pub gives : new ≡ given
  pub errors : after.quota ≡ before.quota

-- a frame is refused, for this number: nothing has changed
pub record HeardNot (h : Handled) (r : Refusal) (before after : Node) (old new : Outbox) (was left : List ℕ) : Type 0 where
  pub refused : h ≡ refused_by (number_of r) (whole_of before) before.quota was
  pub node : after ≡ before
  pub out : new ≡ old
  pub frame : left ≡ was

-- there is a reason, and it goes by this number
abbrev pub RefusedAs : Option Reason → Refusal → Type 0
RefusedAs None r = ⊥
RefusedAs (Some e) r = number_of r ≡ refusal_number e

-- there was no reason to refuse, and this is left of the box by these events; or it is refused for the reason, and stays
abbrev pub HeardSo : Option Reason → Whole → (Whole → Type 0) → Result (Unit {0}) Refusal → Node → Node → Type 0
HeardSo o leaves did (Ok x) before after = (o ≡ None) × (whole_of after ≡ leaves) × (after.quota ≡ before.quota) × did (whole_of after)
HeardSo o leaves did (Err r) before after = RefusedAs o r × (after ≡ before)

-- this was given out; or it is refused, and nothing was
abbrev pub GivesSo : List ℕ → Result (Unit {0}) Refusal → Outbox → Outbox → Type 0
GivesSo given (Ok x) old new = contents new ≡ contents old ++ given
GivesSo given (Err r) old new = new ≡ old

-- a frame was heard so: handled, or refused
abbrev pub HeardBy : Handled → Result (Option Port) Refusal → Node → Node → Outbox → Outbox → List ℕ → List ℕ → Type 0
HeardBy h (Ok goes) before after old new was left = HandledBy h after (contents new) left goes
HeardBy h (Err r) before after old new was left = HeardNot h r before after old new was left
