-- An IPv4 packet without options: what its bytes say, and what becomes of them on the way.
-- Assumes nothing.
use Rattle.std.specs.Prelude.{◌≡◌, ℕ, ◌+◌, ◌-◌, ◌%◌, ◌<◌, ◌≤◌, Bool, cond, ◌&&◌, List, [], ◌∷◌, length, take, drop, ◌==◌, nat_le, nat_lt, slice_index, slice_set}
use Rattle.checksum.specs.Internet.{internet_sum, header_fits, mended_sum, put_word, word_at}
use Rattle.octets.specs.Writes.{put}
use Rattle.packets.specs.Sums.{both_summed, sum_fits}

-- the packet in a frame: without the kind before it and the sum behind it
abbrev pub packet_in : List ℕ → List ℕ
packet_in f = take (length f - 4 - 1) (drop 1 f)

-- the four bytes of an address, from this place on
abbrev pub address_at : ℕ → List ℕ → List ℕ
address_at i p = slice_index p i ∷ slice_index p (i + 1) ∷ slice_index p (i + 2) ∷ slice_index p (i + 3) ∷ []

-- the box of the house that sent it, and of the house that it is for
abbrev pub box_from : List ℕ → ℕ
box_from p = slice_index p 13

abbrev pub box_to : List ℕ → ℕ
box_to p = slice_index p 17

abbrev pub ttl_of : List ℕ → ℕ
ttl_of p = slice_index p 8

-- a header without options, as long as it says, with a right sum
abbrev pub is_whole : List ℕ → Bool
is_whole p = nat_le 20 (length p) && (slice_index p 0 == 0x45 && (word_at p 2 == length p && sum_fits (take 20 p)))

-- 10 and a box below n
abbrev pub is_address : ℕ → ℕ → ℕ → Bool
is_address n first second = first == 10 && nat_lt second n

abbrev pub has_addresses : ℕ → List ℕ → Bool
has_addresses n p = is_address n (slice_index p 12) (box_from p) && is_address n (slice_index p 16) (box_to p)

-- for 10.me.0.1, the box itself
abbrev pub is_for_box : ℕ → List ℕ → Bool
is_for_box me p = slice_index p 16 == 10 && (box_to p == me && (slice_index p 18 == 0 && slice_index p 19 == 1))

-- neither a fragment nor the first of several
abbrev pub is_unbroken : List ℕ → Bool
is_unbroken p = slice_index p 6 % 64 == 0 && slice_index p 7 == 0

-- an ICMP echo request, type 8 and code 0, with a right sum
abbrev pub asks_echo : List ℕ → Bool
asks_echo p = slice_index p 9 == 1 && (slice_index p 20 == 8 && (slice_index p 21 == 0 && sum_fits (drop 20 p)))

-- an echo request for the box itself, in one piece
abbrev pub is_echo : ℕ → List ℕ → Bool
is_echo me p = nat_le 28 (length p) && (is_for_box me p && (is_unbroken p && asks_echo p))

-- the time to live one less, and the sum mended
abbrev pub fallen : List ℕ → List ℕ
fallen p = put_word (slice_set p 8 (ttl_of p - 1)) 10 (mended_sum (word_at p 10) (word_at p 8) (word_at p 8 - 256))

-- a packet handed on: nothing else changes, and nothing at all where there is no header or no time to live
abbrev pub handed_on : List ℕ → List ℕ
handed_on p = cond (nat_le 20 (length p) && nat_lt 0 (ttl_of p)) (fallen p) p

-- a header that was right is right after: the sum in it is the one computed anew
abbrev pub StaysRight : List ℕ → List ℕ → Type 0
StaysRight before after =
    20 ≤ length before → 0 < slice_index before 0 → 0 < ttl_of before → header_fits (take 20 before)
    → (word_at after 10 ≡ internet_sum (put_word (take 20 after) 10 0)) × header_fits (take 20 after)

-- an echo's answer but for its sums: source and destination change places, the time to live begins anew, and the type is 0
abbrev pub answered : List ℕ → List ℕ
answered p = slice_set (put 16 (address_at 12 p) (put 12 (address_at 16 p) (slice_set p 8 64))) 20 0

-- the echo's answer; what is too short to be an echo stays
abbrev pub echoed : List ℕ → List ℕ
echoed p = cond (nat_le 28 (length p)) (both_summed (answered p)) p
