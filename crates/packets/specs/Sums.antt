-- The two sums of a packet: that of its header, and that of the ICMP message after it. Assumes nothing.
use Rattle.std.specs.Prelude.{ℕ, Bool, List, ◌++◌, take, drop, ◌==◌}
use Rattle.checksum.specs.Internet.{ones_sum, internet_sum, put_word}

-- the sum that stands in these bytes is right
unfoldable pub sum_fits : List ℕ → Bool
sum_fits bytes = ones_sum bytes == 0xffff

-- the bytes with the sum at this place computed anew
unfoldable pub summed : ℕ → List ℕ → List ℕ
summed at bytes = put_word bytes at (internet_sum (put_word bytes at 0))

-- a packet with both sums computed anew: bytes 10 and 11 of the header, and bytes 2 and 3 of what follows it
abbrev pub both_summed : List ℕ → List ℕ
both_summed packet = summed 10 (take 20 packet) ++ summed 2 (drop 20 packet)
