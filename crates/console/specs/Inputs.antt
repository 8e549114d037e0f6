-- What a line asks for, byte by byte. Assumes nothing.
use Rattle.std.specs.Prelude.{ℕ, ◌-◌, ◌<◌, Bool, cond, not, ◌&&◌, List, [], ◌∷◌, length, take, drop, Ok, Err, codes, Result, ⊤, ◌==◌}
use Rattle.std.specs.List.{list_all}
use Rattle.std.specs.Str.{bytes_eq}
use Rattle.console.specs.declared.input.Input.{Input}
use Rattle.console.specs.declared.input.Input.TheVariants.{Settings, Draw, Wire, House, Tick, Fall}
use Rattle.console.specs.declared.input.Fault.{Fault}
use Rattle.console.specs.declared.input.Fault.TheVariants.{Form}
use Rattle.console.specs.Hex.{within, is_digit, hex_in, number_of}

-- a line of another form is fault 1
abbrev pub number_of_fault : Fault → ℕ
number_of_fault Form = 1

-- go on with the bytes, or refuse
abbrev pub with_bytes : (List ℕ → Input) → Result (List ℕ) Fault → Result Input Fault
with_bytes f (Ok bytes) = Ok (f bytes)
with_bytes f (Err e) = Err e

-- sixteen digits of a number other than 0
abbrev pub is_drawn : List ℕ → Bool
is_drawn digits = length digits == 16 && list_all is_digit digits && not (number_of digits == 0)

-- the number of them
abbrev pub draw_in : List ℕ → Result Input Fault
draw_in digits = cond (is_drawn digits) (Ok (Draw (number_of digits))) (Err Form)

-- a digit 0 to 7, a blank, and pairs of digits
abbrev pub wire_in : List ℕ → Result Input Fault
wire_in [] = Err Form
wire_in (w ∷ []) = Err Form
wire_in (w ∷ (b ∷ digits)) = cond (within 48 55 w && b == 32) (with_bytes (Wire (w - 48)) (hex_in digits)) (Err Form)

-- the line begins with these bytes
abbrev pub begins : List ℕ → List ℕ → Bool
begins word line = bytes_eq (take (length word) line) word

-- what a line asks for
abbrev pub input_in : List ℕ → Result Input Fault
input_in line =
    cond (begins (codes "settings ") line) (with_bytes Settings (hex_in (drop 9 line)))
    (cond (begins (codes "draw ") line) (draw_in (drop 5 line))
    (cond (begins (codes "wire ") line) (wire_in (drop 5 line))
    (cond (begins (codes "house ") line) (with_bytes House (hex_in (drop 6 line)))
    (cond (bytes_eq line (codes "tick")) (Ok Tick)
    (cond (bytes_eq line (codes "fall")) (Ok Fall) (Err Form))))))

-- what an input can be: a number that was drawn is not 0, and the wires are 0 to 7
abbrev pub CanBe : Input → Type 0
CanBe (Settings bytes) = ⊤
CanBe (Draw n) = 0 < n
CanBe (Wire w bytes) = w < 8
CanBe (House bytes) = ⊤
CanBe Tick = ⊤
CanBe Fall = ⊤
