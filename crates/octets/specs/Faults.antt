-- The number that each fault goes by. Assumes nothing.
use Rattle.std.specs.Prelude.{ℕ}
use Rattle.octets.specs.declared.Fault.{Fault}
use Rattle.octets.specs.declared.Fault.TheVariants.{Form, Range, Count}

abbrev pub fault_number : Fault → ℕ
fault_number Form = 1
fault_number Range = 2
fault_number Count = 11
