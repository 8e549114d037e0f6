-- Pairs of hexadecimal digits, and the bytes that they stand for. Assumes nothing.
use Rattle.std.specs.Prelude.{ℕ, ◌+◌, ◌-◌, ◌*◌, ◌%◌, Bool, cond, not, ◌&&◌, ◌||◌, List, [], ◌∷◌, length, slice_index, Ok, Err, Result, ◌==◌, nat_le}
use Rattle.std.specs.List.{list_all}
use Rattle.console.specs.declared.input.Fault.{Fault}
use Rattle.console.specs.declared.input.Fault.TheVariants.{Form}

-- from one byte to another
abbrev pub within : ℕ → ℕ → ℕ → Bool
within low high b = nat_le low b && nat_le b high

-- 0 to 9, a to f, A to F
abbrev pub is_digit : ℕ → Bool
is_digit b = within 48 57 b || within 97 102 b || within 65 70 b

-- what a digit stands for
abbrev pub value_of : ℕ → ℕ
value_of b = cond (within 48 57 b) (b - 48) (cond (within 97 102 b) (b - 87) (cond (within 65 70 b) (b - 55) 0))

-- the byte of a high and a low digit
abbrev pub byte_of : ℕ → ℕ → ℕ
byte_of high low = value_of high * 16 + value_of low

-- the byte of a pair
abbrev pub pair_byte : List ℕ → ℕ
pair_byte pair = byte_of (slice_index pair 0) (slice_index pair 1)

-- the bytes of pairs of digits
unfoldable pub bytes_of : List ℕ → List ℕ
bytes_of [] = []
bytes_of (d ∷ []) = []
bytes_of (high ∷ (low ∷ rest)) = byte_of high low ∷ bytes_of rest

-- one or more pairs of digits, and nothing else
abbrev pub is_hex : List ℕ → Bool
is_hex digits = not (length digits == 0) && length digits % 2 == 0 && list_all is_digit digits

-- the bytes of them, or the refusal of what is none
abbrev pub hex_in : List ℕ → Result (List ℕ) Fault
hex_in digits = cond (is_hex digits) (Ok (bytes_of digits)) (Err Form)

-- the number that digits write behind another
unfoldable pub number_on : ℕ → List ℕ → ℕ
number_on n [] = n
number_on n (d ∷ ds) = number_on (n * 16 + value_of d) ds

-- the number that digits write, high digit first
abbrev pub number_of : List ℕ → ℕ
number_of digits = number_on 0 digits
