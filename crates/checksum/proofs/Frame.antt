-- A frame as one number: the register after it is the bit steps of that number, so that what differs from a frame that fits in a run of 32 bits does not fit.
-- Assumes nothing.
use Rattle.std.proofs.Common.{◌≡◌, ℕ, zero, suc, ◌+◌, ◌-◌, ◌*◌, ◌/◌, ◌%◌, ◌^◌, ◌<◌, ◌≤◌, List, [], ◌∷◌, ◌++◌, length, get_or, set, sym, refl, ap, ◌∙◌, subst, ap₂, inl, inr, add-zero, mod-eq_of_lt, mul_assoc, mul_comm, mul-le-mul_left, div-add-mod', arith, lit<, length-append, length-set, pow_pos, pow-add, shr-shr}
use lib.Bits.{bit_xor, bit_and, and_mask, xor_mod, xor_comm, xor_assoc, xor_self, xor_zero_r, xor_lt, xor_shifted, xor_shr, xor_block}
use lib.Pow.{split as shr_split}
use Rattle.std.proofs.lemmas.Bool.{cases_lt}
use Rattle.checksum.proofs.Bytes.{bytes_left, bytes_set, bytes_at}
use Rattle.checksum.proofs.Bit.{xor_zero, xor_swap, bits_xor, bits_shifted, bits_add, bits_lt, bits_zero}
use Rattle.checksum.specs.Bytes.{Bytes}
use Rattle.checksum.specs.Crc.{crc_bits, crc_byte, crc_from, crc_of, sum_bytes, low_first, as_number, RunCaught, OneByteChanged}

-- ---- bytes as a number

-- one byte more is eight bits more
bits_more : (n : ℕ) → 2 ^ (suc n * 8) ≡ 2 ^ (n * 8) * 256
bits_more n = let e : suc n * 8 ≡ n * 8 + 8 = omega arith in ap (λ (k : ℕ). 2 ^ k) e ∙ pow-add 2 (n * 8) 8

number_lt : (xs : List ℕ) → Bytes xs → as_number xs < 2 ^ (length xs * 8)
number_lt [] h = lit< tt
number_lt (x ∷ xs) h = omega (arith, number_lt xs h.1, bits_more (length xs), h.0)

number_append : (xs ys : List ℕ) → as_number (xs ++ ys) ≡ as_number ys * 2 ^ (length xs * 8) + as_number xs
number_append [] ys = omega arith
number_append (x ∷ xs) ys =
    let n = number_append xs ys in
    let e : as_number ys * 2 ^ (suc (length xs) * 8) ≡ as_number ys * 2 ^ (length xs * 8) * 256
    = ap (λ (k : ℕ). as_number ys * k) (bits_more (length xs)) ∙ sym (mul_assoc (as_number ys) (2 ^ (length xs * 8)) 256) in
    omega arith

low_number : (n : ℕ) → n < 2 ^ 32 → as_number (low_first n) ≡ n
low_number n h =
    let a : n / 256 / 256 ≡ n / 65536 = shr-shr n 8 8 in
    let b : n / 65536 / 256 ≡ n / 16777216 = shr-shr n 16 8 in
    let s : n / 16777216 < 256 = omega arith in
    let z : n / 16777216 % 256 ≡ n / 16777216 = mod-eq_of_lt s in
    omega (arith, div-add-mod' n 256, div-add-mod' (n / 256) 256, div-add-mod' (n / 65536) 256)

-- ---- the register

-- A byte by the table's entry: eight bits of the low byte, and the rest moved down.
pub byte_table : (c b : ℕ) → b < 256 → crc_byte c b ≡ bit_xor (crc_bits 8 (bit_xor c b % 256)) (c / 256)
unfolding crc_byte
byte_table c b h =
    ap (crc_bits 8) (sym (shr_split (bit_xor c b) 8) ∙ sym (xor_shifted (bit_xor c b / 256) 8 (bit_xor c b % 256) (omega arith)) ∙ xor_comm (bit_xor c b / 256 * 256) (bit_xor c b % 256))
    ∙ bits_xor 8 (bit_xor c b % 256) (bit_xor c b / 256 * 256)
    ∙ ap (bit_xor (crc_bits 8 (bit_xor c b % 256))) (bits_shifted 8 (bit_xor c b / 256) ∙ high)
  where
    high : bit_xor c b / 256 ≡ c / 256
    high = let e : b / 256 ≡ 0 = omega arith in xor_shr c b 8 ∙ ap (bit_xor (c / 256)) e ∙ xor_zero_r (c / 256)

-- as the code has it: the low byte of the register against the byte
pub byte_by_table : (c b t : ℕ) → b < 256 → t ≡ crc_bits 8 (bit_xor (bit_and c 255) b) → crc_byte c b ≡ bit_xor t (c / 256)
byte_by_table c b t h e =
    byte_table c b h
    ∙ ap (λ (k : ℕ). bit_xor k (c / 256))
    (ap (crc_bits 8) (xor_mod c b 8 ∙ ap₂ bit_xor (sym (and_mask c 8)) (mod-eq_of_lt h)) ∙ sym e)

from_number : (c : ℕ) (xs : List ℕ) → Bytes xs → crc_from c xs ≡ crc_bits (length xs * 8) (bit_xor c (as_number xs))
unfolding crc_bits crc_byte
from_number c [] h = sym (xor_zero_r c)
from_number c (x ∷ xs) h =
    from_number (crc_byte c x) xs h.1
    ∙ ap (crc_bits (length xs * 8)) (sym step)
    ∙ sym (bits_add 8 (length xs * 8) (bit_xor c (as_number xs * 256 + x)))
    ∙ (let e : 8 + length xs * 8 ≡ suc (length xs) * 8 = omega arith in ap (λ (k : ℕ). crc_bits k (bit_xor c (as_number xs * 256 + x))) e)
  where
    step : crc_bits 8 (bit_xor c (as_number xs * 256 + x)) ≡ bit_xor (crc_byte c x) (as_number xs)
    step =
        ap (λ (k : ℕ). crc_bits 8 (bit_xor c k)) (sym (xor_shifted (as_number xs) 8 x h.0) ∙ xor_comm (as_number xs * 256) x)
        ∙ ap (crc_bits 8) (sym (xor_assoc c x (as_number xs * 256)))
        ∙ bits_xor 8 (bit_xor c x) (as_number xs * 256)
        ∙ ap (bit_xor (crc_bits 8 (bit_xor c x))) (bits_shifted 8 (as_number xs))

from_lt : (c : ℕ) (xs : List ℕ) → c < 2 ^ 32 → Bytes xs → crc_from c xs < 2 ^ 32
unfolding crc_byte
from_lt c [] l h = l
from_lt c (x ∷ xs) l h =
    from_lt (crc_byte c x) xs (bits_lt 8 (bit_xor c x) (xor_lt 32 c x l (omega (arith, h.0)))) h.1

pub crc_lt : (xs : List ℕ) → Bytes xs → crc_of xs < 2 ^ 32
unfolding crc_of
crc_lt xs h = xor_lt 32 (crc_from 0xFFFF_FFFF xs) 0xFFFF_FFFF (from_lt 0xFFFF_FFFF xs (lit< tt) h) (lit< tt)

-- A frame that fits leaves the register with 32 ones, whatever it holds.
residue : (xs : List ℕ) → Bytes xs → crc_bits (length xs * 8) (bit_xor 0xFFFF_FFFF (as_number (xs ++ sum_bytes xs))) ≡ 0xFFFF_FFFF
unfolding crc_of sum_bytes
residue xs h =
    ap (λ (k : ℕ). crc_bits n (bit_xor 0xFFFF_FFFF k)) whole
    ∙ ap (crc_bits n) (sym (xor_assoc 0xFFFF_FFFF (as_number xs) (crc_of xs * 2 ^ n)))
    ∙ bits_xor n (bit_xor 0xFFFF_FFFF (as_number xs)) (crc_of xs * 2 ^ n)
    ∙ ap₂ bit_xor (sym (from_number 0xFFFF_FFFF xs h)) (bits_shifted n (crc_of xs))
    ∙ sym (xor_assoc (crc_from 0xFFFF_FFFF xs) (crc_from 0xFFFF_FFFF xs) 0xFFFF_FFFF)
    ∙ ap (λ (k : ℕ). bit_xor k 0xFFFF_FFFF) (xor_self (crc_from 0xFFFF_FFFF xs))
  where
    n : ℕ
    n = length xs * 8

    whole : as_number (xs ++ sum_bytes xs) ≡ bit_xor (as_number xs) (crc_of xs * 2 ^ n)
    whole =
        number_append xs (sum_bytes xs)
        ∙ ap (λ (k : ℕ). k * 2 ^ n + as_number xs) (low_number (crc_of xs) (crc_lt xs h))
        ∙ sym (xor_shifted (crc_of xs) n (as_number xs) (number_lt xs h))
        ∙ xor_comm (crc_of xs * 2 ^ n) (as_number xs)

-- ---- what differs in a run of bits

run_shows : (n e k : ℕ) → 0 < e → e < 2 ^ 32 → crc_bits n (e * 2 ^ k) ≡ 0 → ⊥
run_shows n e k p l z =
    elim (cases_lt n k) [ inl below ↦ above below | inr at ↦ within at ]
  where
    within : k ≤ n → ⊥
    within h =
        let s : k + (n - k) ≡ n = omega arith in
        let b : crc_bits (n - k) e ≡ 0
        = ap (crc_bits (n - k)) (sym (bits_shifted k e)) ∙ sym (bits_add k (n - k) (e * 2 ^ k)) ∙ ap (λ (m : ℕ). crc_bits m (e * 2 ^ k)) s ∙ z in
        omega (arith, bits_zero (n - k) e l b)

    above : n < k → ⊥
    above h =
        let s : k ≡ (k - n) + n = omega arith in
        let b : e * 2 ^ (k - n) ≡ 0
        = sym (bits_shifted n (e * 2 ^ (k - n)))
        ∙ ap (crc_bits n) (mul_assoc e (2 ^ (k - n)) (2 ^ n) ∙ ap (λ (m : ℕ). e * m) (sym (pow-add 2 (k - n) n)) ∙ ap (λ (m : ℕ). e * 2 ^ m) (sym s))
        ∙ z in
        omega (arith, mul-le-mul_left (2 ^ (k - n)) p, pow_pos (k - n), mul_comm e (2 ^ (k - n)), b)

pub run_caught_lem : RunCaught
unfolding sum_bytes
run_caught_lem f g hf hg same (b, p) e k pos lt d (b', q) = run_shows n e k pos lt (sym (ap (crc_bits n) d) ∙ none)
  where
    n : ℕ
    n = length b * 8

    len : length b ≡ length b'
    len =
        let l : length f ≡ length b + 4 = ap length p ∙ length-append b (sum_bytes b) in
        let l' : length g ≡ length b' + 4 = ap length q ∙ length-append b' (sum_bytes b') in
        omega arith

    one : crc_bits n (bit_xor 0xFFFF_FFFF (as_number f)) ≡ 0xFFFF_FFFF
    one =
        ap (λ (xs : List ℕ). crc_bits n (bit_xor 0xFFFF_FFFF (as_number xs))) p
        ∙ residue b (bytes_left b (sum_bytes b) (subst Bytes p hf))

    two : crc_bits n (bit_xor 0xFFFF_FFFF (as_number g)) ≡ 0xFFFF_FFFF
    two =
        ap₂ (λ (m : ℕ) (xs : List ℕ). crc_bits (m * 8) (bit_xor 0xFFFF_FFFF (as_number xs))) len q
        ∙ residue b' (bytes_left b' (sum_bytes b') (subst Bytes q hg))

    none : crc_bits n (bit_xor (as_number f) (as_number g)) ≡ 0
    none =
        ap (crc_bits n) (sym (xor_swap 0xFFFF_FFFF (as_number f) 0xFFFF_FFFF (as_number g)))
        ∙ bits_xor n (bit_xor 0xFFFF_FFFF (as_number f)) (bit_xor 0xFFFF_FFFF (as_number g))
        ∙ ap₂ bit_xor one two

-- ---- one byte

number_set : (xs : List ℕ) (i v : ℕ) → Bytes xs → v < 256 → i < length xs
    → bit_xor (as_number xs) (as_number (set xs i v)) ≡ bit_xor (get_or xs i 0) v * 2 ^ (i * 8)
number_set [] i v h l m = absurd (omega arith)
number_set (x ∷ xs) zero v h l m =
    xor_block 8 (as_number xs) (as_number xs) x v h.0 l
    ∙ ap (λ (k : ℕ). k * 256 + bit_xor x v) (xor_self (as_number xs))
    ∙ (let e : 0 * 256 + bit_xor x v ≡ bit_xor x v * 1 = omega arith in e)
number_set (x ∷ xs) (suc i) v h l m =
    xor_block 8 (as_number xs) (as_number (set xs i v)) x x h.0 h.0
    ∙ ap₂ (λ (k j : ℕ). k * 256 + j) (number_set xs i v h.1 l (omega arith)) (xor_self x)
    ∙ add-zero (bit_xor (get_or xs i 0) v * 2 ^ (i * 8) * 256)
    ∙ mul_assoc (bit_xor (get_or xs i 0) v) (2 ^ (i * 8)) 256
    ∙ ap (λ (k : ℕ). bit_xor (get_or xs i 0) v * k) (sym (bits_more i))

pub one_byte_changed_lem : OneByteChanged
one_byte_changed_lem f i v h m l ne fits =
    run_caught_lem f (set f i v) h (bytes_set f i v l h) (sym (length-set f i v)) fits
    (bit_xor (get_or f i 0) v) (i * 8) (pos (bit_xor (get_or f i 0) v) refl) (omega (arith, xor_lt 8 (get_or f i 0) v (bytes_at f i h) l))
    (number_set f i v h l m)
  where
    pos : (d : ℕ) → bit_xor (get_or f i 0) v ≡ d → 0 < d
    pos zero e = absurd (ne (sym (xor_zero (get_or f i 0) v e)))
    pos (suc d) e = omega arith
