-- The bit step of the CRC is linear over exclusive or, halves what is even, and loses nothing of 32 bits.
-- Assumes nothing.
use Rattle.std.proofs.Common.{◌≡◌, ℕ, zero, suc, ◌+◌, ◌*◌, ◌/◌, ◌%◌, ◌^◌, ◌<◌, cond, eqb, ◌⊎◌, sym, refl, ap, ◌∙◌, ap₂, inl, inr, mul_assoc, pow-suc, arith, lit<}
use lib.Bits.{bit_xor, xor_shr, xor_mod, xor_comm, xor_assoc, xor_self, xor_zero_r, xor_lt}
use Rattle.std.proofs.lemmas.Bool.{cond_both}
use Rattle.checksum.specs.Crc.{crc_bit, crc_bits}

-- ---- exclusive or

pub xor_cancel : (a b : ℕ) → bit_xor (bit_xor a b) b ≡ a
xor_cancel a b = xor_assoc a b b ∙ ap (bit_xor a) (xor_self b) ∙ xor_zero_r a

pub xor_zero : (a b : ℕ) → bit_xor a b ≡ 0 → a ≡ b
xor_zero a b e = sym (xor_cancel a b) ∙ ap (λ (x : ℕ). bit_xor x b) e

-- four in pairs
pub xor_swap : (a b c d : ℕ) → bit_xor (bit_xor a b) (bit_xor c d) ≡ bit_xor (bit_xor a c) (bit_xor b d)
xor_swap a b c d =
    xor_assoc a b (bit_xor c d)
    ∙ ap (bit_xor a) (sym (xor_assoc b c d) ∙ ap (λ (x : ℕ). bit_xor x d) (xor_comm b c) ∙ xor_assoc c b d)
    ∙ sym (xor_assoc a c (bit_xor b d))

-- ---- one bit

-- what is put in after the bit m fell out
abbrev put : ℕ → ℕ → ℕ
put m x = cond (eqb m 1) (bit_xor x 0x82F63B78) x

digit : (m : ℕ) → m < 2 → (m ≡ 0) ⊎ (m ≡ 1)
digit zero h = inl refl
digit (suc zero) h = inr refl
digit (suc (suc m)) h = absurd (omega arith)

put_xor : (m n x y : ℕ) → (m ≡ 0) ⊎ (m ≡ 1) → (n ≡ 0) ⊎ (n ≡ 1) → put (bit_xor m n) (bit_xor x y) ≡ bit_xor (put m x) (put n y)
put_xor m n x y (inl p) (inl q) = rw (p, q)
put_xor m n x y (inl p) (inr q) = rw (p, q) (xor_assoc x y 0x82F63B78)
put_xor m n x y (inr p) (inl q) =
    rw (p, q) (xor_assoc x y 0x82F63B78 ∙ ap (bit_xor x) (xor_comm y 0x82F63B78) ∙ sym (xor_assoc x 0x82F63B78 y))
put_xor m n x y (inr p) (inr q) =
    rw (p, q) (sym (xor_zero_r (bit_xor x y)) ∙ xor_swap x y 0x82F63B78 0x82F63B78)

pub bit_xor_lem : (a b : ℕ) → crc_bit (bit_xor a b) ≡ bit_xor (crc_bit a) (crc_bit b)
unfolding crc_bit
bit_xor_lem a b =
    ap₂ put (xor_mod a b 1) (xor_shr a b 1)
    ∙ put_xor (a % 2) (b % 2) (a / 2) (b / 2) (digit (a % 2) (omega arith)) (digit (b % 2) (omega arith))

pub bits_xor : (n a b : ℕ) → crc_bits n (bit_xor a b) ≡ bit_xor (crc_bits n a) (crc_bits n b)
unfolding crc_bits
bits_xor zero a b = refl
bits_xor (suc n) a b = ap (crc_bits n) (bit_xor_lem a b) ∙ bits_xor n (crc_bit a) (crc_bit b)

-- ---- zeros at the low end

pub bit_even : (a : ℕ) → crc_bit (a * 2) ≡ a
unfolding crc_bit
bit_even a =
    let m : a * 2 % 2 ≡ 0 = omega arith in
    let d : a * 2 / 2 ≡ a = omega arith in
    ap₂ put m d

pub bits_shifted : (n a : ℕ) → crc_bits n (a * 2 ^ n) ≡ a
unfolding crc_bits
bits_shifted zero a = omega arith
bits_shifted (suc n) a =
    ap (crc_bits n) (ap crc_bit (ap (λ (x : ℕ). a * x) (pow-suc 2 n) ∙ sym (mul_assoc a (2 ^ n) 2)) ∙ bit_even (a * 2 ^ n))
    ∙ bits_shifted n a

pub bits_add : (m n a : ℕ) → crc_bits (m + n) a ≡ crc_bits n (crc_bits m a)
unfolding crc_bits
bits_add zero n a = let e : 0 + n ≡ n = omega arith in ap (λ (k : ℕ). crc_bits k a) e
bits_add (suc m) n a =
    (let e : suc m + n ≡ suc (m + n) = omega arith in ap (λ (k : ℕ). crc_bits k a) e) ∙ bits_add m n (crc_bit a)

-- ---- nothing is lost

put_lt : (m x : ℕ) → x < 2 ^ 31 → put m x < 2 ^ 32
put_lt m x h =
    cond_both (eqb m 1) (bit_xor x 0x82F63B78) x (λ y. y < 2 ^ 32)
    (λ _. xor_lt 32 x 0x82F63B78 (omega arith) (lit< tt)) (λ _. omega arith)

pub bit_lt : (a : ℕ) → a < 2 ^ 32 → crc_bit a < 2 ^ 32
unfolding crc_bit
bit_lt a h = put_lt (a % 2) (a / 2) (omega arith)

pub bits_lt : (n a : ℕ) → a < 2 ^ 32 → crc_bits n a < 2 ^ 32
unfolding crc_bits
bits_lt zero a h = h
bits_lt (suc n) a h = bits_lt n (crc_bit a) (bit_lt a h)

put_zero : (m x : ℕ) → (m ≡ 0) ⊎ (m ≡ 1) → x < 2 ^ 31 → put m x ≡ 0 → (m ≡ 0) × (x ≡ 0)
put_zero m x (inl p) h e = (p, rw p at e)
put_zero m x (inr p) h e =
    let z : bit_xor x 0x82F63B78 ≡ 0 = rw p at e in
    absurd (omega (arith, xor_zero x 0x82F63B78 z))

pub bit_zero : (a : ℕ) → a < 2 ^ 32 → crc_bit a ≡ 0 → a ≡ 0
unfolding crc_bit
bit_zero a h e =
    let z : (a % 2 ≡ 0) × (a / 2 ≡ 0) = put_zero (a % 2) (a / 2) (digit (a % 2) (omega arith)) (omega arith) e in
    omega arith

pub bits_zero : (n a : ℕ) → a < 2 ^ 32 → crc_bits n a ≡ 0 → a ≡ 0
unfolding crc_bits
bits_zero zero a h e = e
bits_zero (suc n) a h e = bit_zero a h (bits_zero n (crc_bit a) (bit_lt a h) e)
