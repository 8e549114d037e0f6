-- The bits of what the operations on numbers give, and those at 0 and past it.
use Rattle.std.proofs.Common.{◌≡◌, ℕ, zero, suc, ◌-◌, ◌/◌, ◌%◌, ◌^◌, ◌<◌, ◌≤◌, false, not, ◌&&◌, ◌||◌, eqb, ltb, sym, refl, ap, ◌∙◌, ap₂, zero-lt-suc, pow-suc, one-add, arith, pow_mono, shr-shr, lt-ltb}
use native.Mathlib.Nat.{div-eq_of_lt}
use lib.Bits.{bit_and, bit_or, and_shr, and_mod, or_shr, or_mod}
use lib.Dec.{eqb-zero-suc, eqb-suc-zero, eqb-suc-suc, leb-suc-zero, leb-suc-suc}
use Rattle.std.proofs.lemmas.Bool.Decides.{nat_tests}
use Rattle.bits.specs.Bits.{bit}

-- the lowest bit
pub bit_lowest : (x : ℕ) → bit x 0 ≡ eqb (x % 2) 1
unfolding bit
bit_lowest x = ap (λ (y : ℕ). eqb (y % 2) 1) (omega arith)

-- the others are those of the half
pub bit_next : (x j : ℕ) → bit x (suc j) ≡ bit (x / 2) j
unfolding bit
bit_next x j = ap (λ (y : ℕ). eqb (y % 2) 1) (sym (shr-shr x 1 j ∙ ap (λ (n : ℕ). x / 2 ^ n) (one-add j)))

-- 0 has none
pub bit_none : (j : ℕ) → bit 0 j ≡ false
bit_none zero = bit_lowest 0
bit_none (suc j) = bit_next 0 j ∙ bit_none j

-- none past the width
pub bit_past : (w x j : ℕ) → x < 2 ^ w → w ≤ j → bit x j ≡ false
unfolding bit
bit_past w x j h l = ap (λ (y : ℕ). eqb (y % 2) 1) (div-eq_of_lt (omega (arith, pow_mono l)))

-- two digits at once
digit_and : (p q : ℕ) → p < 2 → q < 2 → eqb (bit_and p q) 1 ≡ (eqb p 1 && eqb q 1)
digit_and zero q h k = refl
digit_and (suc zero) zero h k = refl
digit_and (suc zero) (suc zero) h k = refl
digit_and (suc zero) (suc (suc q)) h k = absurd (omega arith)
digit_and (suc (suc p)) q h k = absurd (omega arith)

digit_or : (p q : ℕ) → p < 2 → q < 2 → eqb (bit_or p q) 1 ≡ (eqb p 1 || eqb q 1)
digit_or zero q h k = refl
digit_or (suc zero) zero h k = refl
digit_or (suc zero) (suc zero) h k = refl
digit_or (suc zero) (suc (suc q)) h k = absurd (omega arith)
digit_or (suc (suc p)) q h k = absurd (omega arith)

digit_not : (p : ℕ) → p < 2 → eqb (1 - p) 1 ≡ not (eqb p 1)
digit_not zero h = refl
digit_not (suc zero) h = refl
digit_not (suc (suc p)) h = absurd (omega arith)

pub bit_and_lem : (x y j : ℕ) → bit (bit_and x y) j ≡ (bit x j && bit y j)
unfolding bit
bit_and_lem x y j =
    ap (λ (z : ℕ). eqb (z % 2) 1) (and_shr x y j) ∙ ap (λ (z : ℕ). eqb z 1) (and_mod (x / 2 ^ j) (y / 2 ^ j) 1)
    ∙ digit_and (x / 2 ^ j % 2) (y / 2 ^ j % 2) (omega arith) (omega arith)

pub bit_or_lem : (x y j : ℕ) → bit (bit_or x y) j ≡ (bit x j || bit y j)
unfolding bit
bit_or_lem x y j =
    ap (λ (z : ℕ). eqb (z % 2) 1) (or_shr x y j) ∙ ap (λ (z : ℕ). eqb z 1) (or_mod (x / 2 ^ j) (y / 2 ^ j) 1)
    ∙ digit_or (x / 2 ^ j % 2) (y / 2 ^ j % 2) (omega arith) (omega arith)

-- a power of two has one
pub bit_power : (i j : ℕ) → bit (2 ^ i) j ≡ eqb j i
bit_power zero zero = bit_lowest 1
bit_power zero (suc j) = bit_next 1 j ∙ bit_none j ∙ sym (eqb-suc-zero j)
bit_power (suc i) zero =
    let even : 2 ^ suc i % 2 ≡ 0 = omega (arith, pow-suc 2 i) in bit_lowest (2 ^ suc i) ∙ ap (λ (y : ℕ). eqb y 1) even ∙ sym (eqb-zero-suc i)
bit_power (suc i) (suc j) =
    let half : 2 ^ suc i / 2 ≡ 2 ^ i = omega (arith, pow-suc 2 i) in
    bit_next (2 ^ suc i) j ∙ ap (λ (y : ℕ). bit y j) half ∙ bit_power i j ∙ sym (eqb-suc-suc j i)

-- the complement of w bits has the others
pub bit_other : (w y j : ℕ) → y < 2 ^ w → bit (2 ^ w - 1 - y) j ≡ (ltb j w && not (bit y j))
bit_other zero y j h =
    let none : 1 - 1 - y ≡ 0 = omega arith in
    ap (λ (z : ℕ). bit z j) none ∙ bit_none j ∙ sym (ap (λ b. b && not (bit y j)) (leb-suc-zero j))
bit_other (suc w) y zero h =
    let digit : (2 ^ suc w - 1 - y) % 2 ≡ 1 - y % 2 = omega (arith, pow-suc 2 w) in
    bit_lowest (2 ^ suc w - 1 - y) ∙ ap (λ (z : ℕ). eqb z 1) digit ∙ digit_not (y % 2) (omega arith)
    ∙ sym (ap₂ (λ b c. b && not c) (lt-ltb 0 (suc w) (zero-lt-suc w)) (bit_lowest y))
bit_other (suc w) y (suc j) h =
    let half : (2 ^ suc w - 1 - y) / 2 ≡ 2 ^ w - 1 - y / 2 = omega (arith, pow-suc 2 w) in
    bit_next (2 ^ suc w - 1 - y) j ∙ ap (λ (z : ℕ). bit z j) half ∙ bit_other w (y / 2) j (omega (arith, pow-suc 2 w))
    ∙ sym (ap₂ (λ b c. b && not c) (leb-suc-suc (suc j) w) (bit_next y j))

same_digit : (p q : ℕ) → p < 2 → q < 2 → eqb p 1 ≡ eqb q 1 → p ≡ q
same_digit p q h k e = grind (arith, nat_tests)

-- numbers of the same bits are the same
pub bits_same : (w x y : ℕ) → x < 2 ^ w → y < 2 ^ w → ((j : ℕ) → bit x j ≡ bit y j) → x ≡ y
bits_same zero x y h k same = omega arith
bits_same (suc w) x y h k same =
    let halves = bits_same w (x / 2) (y / 2) (omega (arith, pow-suc 2 w)) (omega (arith, pow-suc 2 w)) (λ j. sym (bit_next x j) ∙ same (suc j) ∙ bit_next y j) in
    let digits = same_digit (x % 2) (y % 2) (omega arith) (omega arith) (sym (bit_lowest x) ∙ same 0 ∙ bit_lowest y) in
    omega arith
