-- Why the running box refuses what came: the number of each reason, and what the error for it says. Assumes nothing.
use Rattle.std.specs.Prelude.{ℕ, Some, None, Option}
use Rattle.packets.specs.declared.values.Trouble.{Trouble}
use Rattle.packets.specs.declared.values.Trouble.TheVariants.{TimeExceeded, Unreachable}
use Rattle.node.specs.declared.refusals.Refusal.{Refusal}
use Rattle.node.specs.declared.refusals.Refusal.TheVariants.{Address, Closed, CountSpent, Expired, Form, Malformed, NoRoad, NoWay, OtherBox, Range, Unanswered}

-- the number that each goes by in the journal
abbrev pub number_of : Refusal → ℕ
number_of Form = 1
number_of Range = 2
number_of NoRoad = 3
number_of OtherBox = 4
number_of Malformed = 5
number_of Address = 6
number_of Expired = 7
number_of NoWay = 8
number_of Closed = 9
number_of Unanswered = 10
number_of CountSpent = 11

-- what the error for a packet says, where one is made
abbrev pub trouble_for : Refusal → Option Trouble
trouble_for Expired = Some TimeExceeded
trouble_for NoWay = Some Unreachable
trouble_for Closed = Some Unreachable
trouble_for Form = None
trouble_for Range = None
trouble_for NoRoad = None
trouble_for OtherBox = None
trouble_for Malformed = None
trouble_for Address = None
trouble_for Unanswered = None
trouble_for CountSpent = None
