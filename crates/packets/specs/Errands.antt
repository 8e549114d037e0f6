-- What is to be done with a packet at a box, or why it is refused.
-- Assumes nothing.
use Rattle.std.specs.Prelude.{ℕ, cond, List, Ok, Err, Result, ◌==◌, nat_lt}
use Rattle.packets.specs.declared.values.Errand.{Errand}
use Rattle.packets.specs.declared.values.Errand.TheVariants.{HandOut, Echo, Onward}
use Rattle.packets.specs.declared.values.Refusal.{Refusal}
use Rattle.packets.specs.declared.values.Refusal.TheVariants.{Malformed, Address, Expired}
use Rattle.packets.specs.Packet.{box_to, has_addresses, is_echo, is_whole, ttl_of}

-- the number that each refusal goes by
abbrev pub refusal_number : Refusal → ℕ
refusal_number Malformed = 5
refusal_number Address = 6
refusal_number Expired = 7

-- a packet for this box
abbrev pub at_home : ℕ → List ℕ → Errand
at_home me p = cond (is_echo me p) Echo HandOut

-- a packet for another box
abbrev pub in_transit : List ℕ → Result Errand Refusal
in_transit p = cond (nat_lt (ttl_of p) 2) (Err Expired) (Ok (Onward (box_to p)))

-- what box `me` of `n` does with a packet
abbrev pub errand_of : ℕ → ℕ → List ℕ → Result Errand Refusal
errand_of n me p =
    cond (is_whole p) (cond (has_addresses n p) (cond (box_to p == me) (Ok (at_home me p)) (in_transit p)) (Err Address)) (Err Malformed)
