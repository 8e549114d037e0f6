-- ICMP errors: which packets are such, and the one that a refused packet is answered with.
-- Assumes nothing.
use Rattle.std.specs.Prelude.{ℕ, ◌+◌, Bool, cond, ◌&&◌, ◌||◌, List, [], ◌∷◌, ◌++◌, length, take, Some, None, Option, ◌==◌, nat_lt, slice_index}
use Rattle.packets.specs.declared.values.Trouble.{Trouble}
use Rattle.packets.specs.declared.values.Trouble.TheVariants.{TimeExceeded, Unreachable}
use Rattle.packets.specs.Packet.{address_at}
use Rattle.packets.specs.Sums.{both_summed}

-- unreachable, source quench, redirect, time exceeded and parameter problem
abbrev pub is_error_type : ℕ → Bool
is_error_type t = t == 3 || (t == 4 || (t == 5 || (t == 11 || t == 12)))

-- an ICMP error, of which no error is sent
abbrev pub is_error : List ℕ → Bool
is_error p = nat_lt 20 (length p) && (slice_index p 9 == 1 && is_error_type (slice_index p 20))

-- the ICMP type of each
abbrev pub trouble_type : Trouble → ℕ
trouble_type TimeExceeded = 11
trouble_type Unreachable = 3

-- which error an ICMP type stands for
abbrev pub trouble_of : ℕ → Option Trouble
trouble_of kind = cond (kind == 11) (Some TimeExceeded) (cond (kind == 3) (Some Unreachable) None)

-- the packet's header as it came, and up to 8 bytes after it
abbrev pub quoted : List ℕ → List ℕ
quoted p = take 28 p

-- from 10.me.0.1 to whoever sent the packet, with no sum yet; the whole error has at most 56 bytes
abbrev pub error_header : ℕ → List ℕ → List ℕ
error_header me q = 0x45 ∷ 0 ∷ 0 ∷ (28 + length q) ∷ 0 ∷ 0 ∷ 0 ∷ 0 ∷ 64 ∷ 1 ∷ 0 ∷ 0 ∷ 10 ∷ me ∷ 0 ∷ 1 ∷ address_at 12 q

-- type, code 0, no sum yet, and four bytes that are not used
abbrev pub error_start : Trouble → List ℕ
error_start trouble = trouble_type trouble ∷ 0 ∷ 0 ∷ 0 ∷ 0 ∷ 0 ∷ 0 ∷ 0 ∷ []

-- an error that quotes these bytes
abbrev pub error_quoting : ℕ → Trouble → List ℕ → List ℕ
error_quoting me trouble q = both_summed (error_header me q ++ (error_start trouble ++ q))

-- the error for a packet
abbrev pub error_of : ℕ → Trouble → List ℕ → List ℕ
error_of me trouble p = error_quoting me trouble (quoted p)
