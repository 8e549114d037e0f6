-- The Internet checksum (RFC 1071), and its mending when one word changes (RFC 1624).
-- Assumes nothing.
use Rattle.std.specs.Prelude.{◌≡◌, ℕ, suc, ◌+◌, ◌-◌, ◌*◌, ◌/◌, ◌%◌, ◌<◌, ◌≤◌, ◌⊎◌, List, [], ◌∷◌, length, ◌≢◌, slice_index, slice_set}
use Rattle.checksum.specs.Bytes.{Bytes}

-- the words of 16 bits, the high byte first; an odd last byte stands before a 0
abbrev pub words_of : List ℕ → List ℕ
words_of [] = []
words_of (a ∷ []) = (a * 256) ∷ []
words_of (a ∷ b ∷ bs) = (a * 256 + b) ∷ words_of bs

-- The sum of two words in one's complement: what is carried out of 16 bits is put in at the low end.
unfoldable pub ones_add : ℕ → ℕ → ℕ
ones_add a b = (a + b) % 65536 + (a + b) / 65536

-- words added to a word, one after the other
abbrev pub added_to : ℕ → List ℕ → ℕ
added_to s [] = s
added_to s (w ∷ ws) = added_to (ones_add s w) ws

-- the sum of the words, and the checksum, which is its complement
abbrev pub ones_sum : List ℕ → ℕ
ones_sum bytes = added_to 0 (words_of bytes)

abbrev pub internet_sum : List ℕ → ℕ
internet_sum bytes = 0xffff - ones_sum bytes

-- the plain sum of the words
abbrev pub total_of : List ℕ → ℕ
total_of [] = 0
total_of (w ∷ ws) = w + total_of ws

abbrev pub total : List ℕ → ℕ
total bytes = total_of (words_of bytes)

-- What a plain sum n may be brought down to before its last fold: less by a multiple of 65535, and 0 only where n is.
pub record Leaves (n s : ℕ) : Type 0 where
  pub times : ℕ
  pub is : n ≡ s + times * 65535
  pub none : (n ≡ 0) ⊎ (0 < s)

-- A header whose checksum field is right: with the field, the sum is all ones.
abbrev pub header_fits : List ℕ → Type 0
header_fits header = ones_sum header ≡ 0xffff

-- the word at a place, and the list with another word there
abbrev pub word_at : List ℕ → ℕ → ℕ
word_at bytes i = slice_index bytes i * 256 + slice_index bytes (suc i)

abbrev pub put_word : List ℕ → ℕ → ℕ → List ℕ
put_word bytes i w = slice_set (slice_set bytes i (w / 256)) (suc i) (w % 256)

-- the mended checksum, where a word `old` became `new`: the complement of (~sum + ~old + new)
abbrev pub mended_sum : ℕ → ℕ → ℕ → ℕ
mended_sum sum old new = 0xffff - ones_add (ones_add (0xffff - sum) (0xffff - old)) new

-- A header whose checksum, `sum` in the field at `k`, is right, with the word `old` at another place `i`.
pub record Right (header : List ℕ) (i k sum old : ℕ) : Type 0 where
  pub bytes : Bytes header
  pub whole_i : i % 2 ≡ 0
  pub whole_k : k % 2 ≡ 0
  pub apart : i ≡ k → ⊥
  pub inside_i : suc i < length header
  pub inside_k : suc k < length header
  pub word : word_at header i ≡ old
  pub field : word_at header k ≡ sum
  pub fits : header_fits header

-- The header with the new word, and `sum` in its field.
abbrev pub changed : List ℕ → ℕ → ℕ → ℕ → ℕ → List ℕ
changed header i k new sum = put_word (put_word header i new) k sum

-- With r in its field the changed header is right again, if any of its bytes but the field's is other than 0.
abbrev pub MendFits : ℕ → ℕ → ℕ → ℕ → Type 0
MendFits sum old new r =
    (header : List ℕ) (i k j : ℕ) → Right header i k sum old → 0 < slice_index (changed header i k new 0) j
    → header_fits (changed header i k new r)

-- And r is the checksum computed anew, but where a sum of 0xffff goes with an old word of 0xffff and a new one of 0.
abbrev pub MendAnew : ℕ → ℕ → ℕ → ℕ → Type 0
MendAnew sum old new r =
    (header : List ℕ) (i k j : ℕ) → Right header i k sum old → 0 < slice_index (changed header i k new 0) j
    → (sum ≡ 0xffff → old ≡ 0xffff → new ≢ 0)
    → r ≡ internet_sum (changed header i k new 0)

-- There r is 0xffff, and the checksum computed anew is 0, which means the same in one's complement. Nowhere else is r 0xffff.
abbrev pub MendOnes : ℕ → ℕ → ℕ → ℕ → Type 0
MendOnes sum old new r =
    (r ≡ 0xffff → (sum ≡ 0xffff) × (old ≡ 0xffff) × (new ≡ 0))
    × (sum ≡ 0xffff → old ≡ 0xffff → new ≡ 0
    → (r ≡ 0xffff)
    × ((header : List ℕ) (i k j : ℕ) → Right header i k sum old → 0 < slice_index (changed header i k new 0) j
    → internet_sum (changed header i k new 0) ≡ 0))

-- The time to live, byte 8 of an IPv4 header, falls by one: r is the checksum computed anew, and with it in bytes 10 and 11 the header is right again.
-- The first byte, which holds the version, is other than 0.
abbrev pub TtlFalls : ℕ → ℕ → ℕ → ℕ → Type 0
TtlFalls sum old new r =
    (header : List ℕ) → Bytes header → 20 ≤ length header → 0 < slice_index header 0 → 0 < slice_index header 8 → header_fits header
    → word_at header 10 ≡ sum → word_at header 8 ≡ old → new ≡ old - 256
    → (r ≡ internet_sum (put_word (slice_set header 8 (slice_index header 8 - 1)) 10 0))
    × header_fits (put_word (slice_set header 8 (slice_index header 8 - 1)) 10 r)
