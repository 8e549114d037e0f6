-- Parcels, as they stand one after the other in the buffer. Assumes nothing.
use Rattle.std.specs.Prelude.{ℕ, ◌+◌, ◌*◌, ◌≤◌, cond, List, ◌∷◌, ◌++◌, length, take, drop, ◌==◌}
use Rattle.std.specs.List.{flat_map}
use Rattle.octets.specs.Writes.{octets}
use Rattle.checksum.specs.Crc.{sum_bytes}
use Rattle.outbox.specs.declared.state.Outbox.{Outbox}
use Rattle.outbox.specs.declared.reading.Port.{Port}
use Rattle.outbox.specs.declared.reading.Port.TheVariants.{Wire, House, Book}

-- where it goes, and its bytes
pub record Given : Type 0 where
  pub port : Port
  pub bytes : List ℕ

-- the number of each port: a wire's own, 8 for a house, 9 for the journal
abbrev pub port_number : Port → ℕ
port_number (Wire w) = w
port_number House = 8
port_number Book = 9

-- the port that goes by a number
abbrev pub port_at : ℕ → Port
port_at k = cond (k == 8) House (cond (k == 9) Book (Wire k))

-- a parcel in the buffer: the number of its port, its length in two bytes, and its bytes
abbrev pub parcel_bytes : ℕ → List ℕ → List ℕ
parcel_bytes port bytes = port ∷ (octets 2 (length bytes) ++ bytes)

abbrev pub bytes_of_given : Given → List ℕ
bytes_of_given g = parcel_bytes (port_number g.port) g.bytes

abbrev pub bytes_of_all : List Given → List ℕ
bytes_of_all gs = flat_map bytes_of_given gs

-- what the buffer holds
abbrev pub contents : Outbox → List ℕ
contents o = take o.used o.bytes

-- room for so many parcels, of which the largest, a frame of four words, has 857 bytes with its head and its sum
abbrev pub HasRoom : ℕ → Outbox → Type 0
HasRoom k o = o.used + k * 857 ≤ 65536

-- and what they take of it
abbrev pub UsesAtMost : ℕ → Outbox → Outbox → Type 0
UsesAtMost k before after = after.used ≤ before.used + k * 857

-- the k bytes behind the place for the next parcel's port and length
abbrev pub body_in : ℕ → Outbox → List ℕ
body_in k o = take k (drop (o.used + 3) o.bytes)

-- bytes with their sum behind them, as they go over a wire
abbrev pub sealed : List ℕ → List ℕ
sealed body = body ++ sum_bytes body
