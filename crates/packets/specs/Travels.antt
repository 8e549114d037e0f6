-- What a box lets go is a right packet to the boxes after it.
-- Assumes nothing.
use Rattle.std.specs.Prelude.{◌≡◌, ℕ, ◌-◌, ◌<◌, true, cond, List, drop, Ok, ◌==◌, slice_index}
use Rattle.packets.specs.declared.values.Errand.TheVariants.{HandOut, Echo, Onward}
use Rattle.packets.specs.Errands.{at_home, errand_of, in_transit}
use Rattle.packets.specs.Errors.{is_error}
use Rattle.packets.specs.Packet.{box_from, is_address, is_whole, ttl_of}
use Rattle.packets.specs.Sums.{sum_fits}

-- it comes to a house of box b: that box hands it out, and every other sends it on
abbrev pub GoesTo : ℕ → ℕ → List ℕ → Type 0
GoesTo n b p = (k : ℕ) → errand_of n k p ≡ Ok (cond (b == k) HandOut (Onward b))

-- an error of box `me` for a packet: right in both sums, known as an error, and on its way to whoever sent the packet
pub record ErrorGood (me : ℕ) (p e : List ℕ) : Type 0 where
  pub whole : is_whole e ≡ true
  pub message : sum_fits (drop 20 e) ≡ true
  pub known : is_error e ≡ true
  pub goes : (n : ℕ) → me < n → is_address n (slice_index p 12) (box_from p) ≡ true → GoesTo n (box_from p) e

-- the answer to an echo: right in both sums, and on its way to whoever asked
abbrev pub EchoGood : List ℕ → List ℕ → Type 0
EchoGood p e = (n me : ℕ) → errand_of n me p ≡ Ok Echo → (sum_fits (drop 20 e) ≡ true) × GoesTo n (box_from p) e

-- a packet that was whole is whole after
abbrev pub StaysWhole : List ℕ → List ℕ → Type 0
StaysWhole before after = is_whole before ≡ true → 0 < ttl_of before → is_whole after ≡ true

-- a packet handed on to box b: one less to live, and no later box refuses it but for that
abbrev pub HopGood : List ℕ → List ℕ → Type 0
HopGood p q =
    (n me b : ℕ) → errand_of n me p ≡ Ok (Onward b)
    → (ttl_of q ≡ ttl_of p - 1) × ((k : ℕ) → errand_of n k q ≡ cond (b == k) (Ok (at_home k q)) (in_transit q))
