-- What the state and the answers of a whole box stand for in the model. Assumes nothing.
use Rattle.std.specs.Prelude.{ℕ, cond, Some, None, Option, nat_lt}
use Rattle.hello.specs.State.{fall_refusal, hears_refusal, new_refusal, settings_refusal}
use Rattle.hello.specs.declared.answers.Refusal.{Refusal as WireRefusal}
use Rattle.hello.specs.declared.answers.Refusal.TheVariants.{OutOfRange as NoSuch, OtherBox as Another, Spent}
use Rattle.linkmodel.specs.Links.{Hello, Links, road_cost}
use Rattle.linkmodel.specs.Station.{Station as Whole, wire_to}
pub use Rattle.messages.specs.Refusals.{RefusedBy}
use Rattle.messages.specs.declared.values.Settings.{Settings}
use Rattle.router.specs.declared.answers.Refusal.{Refusal as WordRefusal}
use Rattle.router.specs.declared.answers.Refusal.TheVariants.{OutOfRange as OutOf, NoRoad as Closed, CountSpent as SpentCount}
use Rattle.station.specs.Parts.{parts_of}
use Rattle.station.specs.declared.answers.Refusal.{Refusal}
use Rattle.station.specs.declared.answers.Refusal.TheVariants.{OutOfRange, NoRoad, OtherBox, CountSpent}
use Rattle.station.specs.declared.state.Station.{Station}

-- the whole box of the model that a state stands for
abbrev pub station_of : Station → Whole
station_of s = parts_of s.links s.router

-- the number of each refusal
abbrev pub refusal_number : Refusal → ℕ
refusal_number OutOfRange = 2
refusal_number NoRoad = 3
refusal_number OtherBox = 4
refusal_number CountSpent = 11

-- a refusal of the wires; that no tick is left goes by what is out of range
abbrev pub of_wires : WireRefusal → Refusal
of_wires NoSuch = OutOfRange
of_wires Another = OtherBox
of_wires Spent = OutOfRange

-- and one of the words
abbrev pub of_words : WordRefusal → Refusal
of_words OutOf = OutOfRange
of_words Closed = NoRoad
of_words SpentCount = CountSpent

abbrev pub by_wires : Option WireRefusal → Option Refusal
by_wires None = None
by_wires (Some e) = Some (of_wires e)

-- why n boxes, of which this is number me, or a drawn number are refused
abbrev pub begin_refusal : ℕ → ℕ → ℕ → Option Refusal
begin_refusal n me d = by_wires (new_refusal n me d)

abbrev pub hello_refusal : ℕ → Hello → Whole → Option Refusal
hello_refusal w h s = by_wires (hears_refusal w h s.links)

abbrev pub rewire_refusal : Settings → Whole → Option Refusal
rewire_refusal x s = by_wires (settings_refusal x s.links)

abbrev pub falls_refusal : ℕ → Option Refusal
falls_refusal d = by_wires (fall_refusal d)

-- the lowest wire over which the road to e is open, if one is
abbrev pub wire_open : ℕ → Links → Option ℕ
wire_open e s = cond (nat_lt 0 (road_cost e s)) (Some (wire_to e s)) None
