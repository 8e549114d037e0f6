-- What was written is read as the same bytes.
use Rattle.std.proofs.Common.{◌≡◌, ℕ, ◌+◌, ◌-◌, ◌*◌, ◌/◌, ◌%◌, ◌<◌, ◌≤◌, true, false, eqb, leb, List, [], ◌∷◌, length, Ok, Err, Result, decimal, refl, ap₂, arith, lit<}
use Rattle.std.specs.List.{list_all}
use Rattle.std.proofs.lemmas.Bool.{and_from, le-leb, ne_eqb}
use Rattle.std.proofs.lemmas.Fmt.{decimal_digit, length-decimal-le}
use Rattle.octets.specs.Writes.{Bytes}
use Rattle.console.specs.declared.input.Input.{Input}
use Rattle.console.specs.declared.input.Fault.{Fault}
use Rattle.console.specs.declared.input.Fault.TheVariants.{Form}
use Rattle.console.specs.declared.output.Output.{Output}
use Rattle.console.specs.declared.output.Output.TheVariants.{Wire, House, Book, Draw, Refused}
use Rattle.console.specs.Hex.{is_digit, value_of, byte_of, bytes_of, is_hex, hex_in}
use Rattle.console.specs.Inputs.{input_in, draw_in, wire_in}
use Rattle.console.specs.Outputs.{digit_of, hex_text, text_of}
use Rattle.console.specs.Back.{ReadAs}

-- a digit that was written is one
digit_is : (n : ℕ) → n < 16 → is_digit (digit_of n) ≡ true
digit_is n h = grind arith

-- and stands for what it was written for
digit_back : (n : ℕ) → n < 16 → value_of (digit_of n) ≡ n
digit_back n h = grind arith

byte_back : (b : ℕ) → b < 256 → byte_of (digit_of (b / 16)) (digit_of (b % 16)) ≡ b
byte_back b h =
    let high : value_of (digit_of (b / 16)) ≡ b / 16 = digit_back (b / 16) (omega arith) in
    let low : value_of (digit_of (b % 16)) ≡ b % 16 = digit_back (b % 16) (omega arith) in
    rw (high, low) (omega arith)

-- the bytes of their digits
bytes_back : (bs : List ℕ) → Bytes bs → bytes_of (hex_text bs) ≡ bs
unfolding bytes_of
bytes_back [] h = refl
bytes_back (b ∷ bs) h = ap₂ (λ x xs. x ∷ xs) (byte_back b h.0) (bytes_back bs h.1)

text_digits : (bs : List ℕ) → Bytes bs → list_all is_digit (hex_text bs) ≡ true
text_digits [] h = refl
text_digits (b ∷ bs) h =
    and_from (is_digit (digit_of (b / 16))) _ (digit_is (b / 16) (omega arith))
    (and_from (is_digit (digit_of (b % 16))) _ (digit_is (b % 16) (omega arith)) (text_digits bs h.1))

text_long : (bs : List ℕ) → length (hex_text bs) ≡ length bs * 2
text_long [] = refl
text_long (b ∷ bs) = omega (arith, text_long bs)

hex_back : (bs : List ℕ) → 0 < length bs → Bytes bs → hex_in (hex_text bs) ≡ Ok bs
hex_back bs h k =
    let long : length (hex_text bs) ≡ length bs * 2 = text_long bs in
    let all : list_all is_digit (hex_text bs) ≡ true = text_digits bs k in
    let hex : is_hex (hex_text bs) ≡ true = rw (long, all) (grind arith) in
    rw (hex, bytes_back bs k) refl

-- a wire's digit, and bytes behind it
wire_back : (w : ℕ) (bs : List ℕ) → w < 8 → 0 < length bs → Bytes bs → wire_in ((48 + w) ∷ (32 ∷ hex_text bs)) ≡ Ok (Input.Wire w bs)
wire_back w bs l h k =
    let low : leb 48 (48 + w) ≡ true = le-leb 48 (48 + w) (omega arith) in
    let high : leb (48 + w) 55 ≡ true = le-leb (48 + w) 55 (omega arith) in
    let back : 48 + w - 48 ≡ w = omega arith in
    rw (low, high, hex_back bs h k, back) refl

-- so few numbers have too few digits for a number that was drawn
draw_back : (count : ℕ) → count < 256 → draw_in (decimal count) ≡ Err Form
draw_back count h =
    let short : length (decimal count) ≤ 3 = length-decimal-le 3 count (lit< tt) (omega arith) (omega arith) in
    let other : eqb (length (decimal count)) 16 ≡ false = ne_eqb (length (decimal count)) 16 (λ e. omega arith) in
    rw other refl

pub reads_back : (o : Output) → ReadAs o (input_in (text_of o))
reads_back (Wire w bytes) = λ l h k.
    let one : decimal w ≡ (48 + w) ∷ [] = decimal_digit w (omega arith) in
    rw one (wire_back w bytes.now l h k)
reads_back (House bytes) = λ h k. rw (hex_back bytes.now h k) refl
reads_back (Book bytes) = refl
reads_back (Draw count) = λ h. draw_back count h
reads_back (Refused Form) = refl

-- so it is of whatever line holds the same text
pub read_back : (line : List ℕ) (r : Result Input Fault) → r ≡ input_in line → (o : Output) → line ≡ text_of o → ReadAs o r
read_back line r e o t = rw (e, t) (reads_back o)
