-- How an output is written as a line. Assumes nothing.
use Rattle.std.specs.Prelude.{ℕ, ◌+◌, ◌/◌, ◌%◌, cond, List, [], ◌∷◌, ◌++◌, codes, decimal, flat_map, nat_lt}
use Rattle.console.specs.declared.output.Output.{Output}
use Rattle.console.specs.declared.output.Output.TheVariants.{Wire, House, Book, Draw, Refused}
use Rattle.console.specs.Inputs.{number_of_fault}

-- the digit of a number below 16, a small letter from 10 on
abbrev pub digit_of : ℕ → ℕ
digit_of n = cond (nat_lt n 10) (48 + n) (87 + n)

-- the two digits of a byte, high digit first
abbrev pub pair_of : ℕ → List ℕ
pair_of b = digit_of (b / 16) ∷ (digit_of (b % 16) ∷ [])

-- the digits of bytes
abbrev pub hex_text : List ℕ → List ℕ
hex_text bytes = flat_map pair_of bytes

-- the line that says an output
abbrev pub text_of : Output → List ℕ
text_of (Wire w bytes) = codes "wire " ++ (decimal w ++ (32 ∷ hex_text bytes.now))
text_of (House bytes) = codes "house " ++ hex_text bytes.now
text_of (Book bytes) = codes "book " ++ hex_text bytes.now
text_of (Draw count) = codes "draw " ++ decimal count
text_of (Refused fault) = codes "refused " ++ decimal (number_of_fault fault)
