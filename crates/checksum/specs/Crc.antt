-- CRC-32C (Castagnoli) as its definition has it, bit by bit, and when the sum at the end of a frame fits.
-- Assumes nothing.
use Rattle.std.specs.Prelude.{◌≡◌, ℕ, zero, suc, ◌+◌, ◌*◌, ◌/◌, ◌%◌, ◌^◌, ◌<◌, cond, List, [], ◌∷◌, ◌++◌, length, ◌==◌, ◌≢◌, bit_xor, slice_index, slice_set}
use Rattle.checksum.specs.Bytes.{Bytes}

-- One bit: the register moves down by one, and where a 1 fell out the polynomial, its lowest power on top, is put in.
unfoldable pub crc_bit : ℕ → ℕ
crc_bit c = cond (c % 2 == 1) (bit_xor (c / 2) 0x82F63B78) (c / 2)

-- n bits
unfoldable pub crc_bits : ℕ → ℕ → ℕ
crc_bits zero c = c
crc_bits (suc n) c = crc_bits n (crc_bit c)

-- a byte goes into the low end of the register, and then come its eight bits
unfoldable pub crc_byte : ℕ → ℕ → ℕ
crc_byte c b = crc_bits 8 (bit_xor c b)

-- the register after a list of bytes
abbrev pub crc_from : ℕ → List ℕ → ℕ
crc_from c [] = c
crc_from c (b ∷ bs) = crc_from (crc_byte c b) bs

-- The sum: the register begins with 32 ones, and is turned over at the end.
unfoldable pub crc_of : List ℕ → ℕ
crc_of bs = bit_xor (crc_from 0xFFFF_FFFF bs) 0xFFFF_FFFF

-- a number of 32 bits as four bytes, the low byte first
abbrev pub low_first : ℕ → List ℕ
low_first n = (n % 256) ∷ (n / 256 % 256) ∷ (n / 65536 % 256) ∷ (n / 16777216 % 256) ∷ []

-- the sum as it stands on the wire
unfoldable pub sum_bytes : List ℕ → List ℕ
sum_bytes bs = low_first (crc_of bs)

-- A frame's sum fits: the frame is some bytes, and behind them their sum.
abbrev pub SumFits : List ℕ → Type 0
SumFits frame = (body : List ℕ) × (frame ≡ body ++ sum_bytes body)

-- The bytes as one number, in the order in which the bits go through the register: the first byte lowest, and in each byte the low bit first.
abbrev pub as_number : List ℕ → ℕ
as_number [] = 0
as_number (b ∷ bs) = as_number bs * 256 + b

-- A run of up to 32 bits: two frames of one length whose sums both fit never differ in a run of up to 32 bits (from bit k up, by e) alone.
abbrev pub RunCaught : Type 0
RunCaught =
    (f g : List ℕ) → Bytes f → Bytes g → length f ≡ length g → SumFits f
    → (e k : ℕ) → 0 < e → e < 2 ^ 32 → bit_xor (as_number f) (as_number g) ≡ e * 2 ^ k
    → SumFits g → ⊥

-- One byte: a frame whose sum fits, with one byte, of the data or of the sum, changed to another, has a sum that does not fit.
abbrev pub OneByteChanged : Type 0
OneByteChanged =
    (frame : List ℕ) (i v : ℕ) → Bytes frame → i < length frame → v < 256 → (v ≢ slice_index frame i) → SumFits frame
    → SumFits (slice_set frame i v) → ⊥
