-- What is read of a line that was written. Assumes nothing.
use Rattle.std.specs.Prelude.{◌≡◌, ◌<◌, length, Ok, Err, Result}
use Rattle.octets.specs.Writes.{Bytes}
use Rattle.console.specs.declared.input.Input.{Input}
use Rattle.console.specs.declared.input.Fault.{Fault}
use Rattle.console.specs.declared.input.Fault.TheVariants.{Form}
use Rattle.console.specs.declared.output.Output.{Output}
use Rattle.console.specs.declared.output.Output.TheVariants.{Wire, House, Book, Draw, Refused}

-- one byte or more for a wire that there is, or for the house, is read as the same bytes; lines of the other kinds are refused
abbrev pub ReadAs : Output → Result Input Fault → Type 0
ReadAs (Wire w bytes) r = w < 8 → 0 < length bytes.now → Bytes bytes.now → r ≡ Ok (Input.Wire w bytes.now)
ReadAs (House bytes) r = 0 < length bytes.now → Bytes bytes.now → r ≡ Ok (Input.House bytes.now)
ReadAs (Book bytes) r = r ≡ Err Form
ReadAs (Draw count) r = count < 256 → r ≡ Err Form
ReadAs (Refused fault) r = r ≡ Err Form
