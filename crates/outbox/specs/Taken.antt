-- What is taken out at a place. Assumes nothing.
use Rattle.std.specs.Prelude.{◌≡◌, ℕ, ◌+◌, ◌^◌, ◌<◌, ◌≤◌, List, ◌++◌, length, take, drop, Some, None, Option}
use Rattle.outbox.specs.declared.reading.Parcel.{Parcel}
use Rattle.outbox.specs.Parcels.{parcel_bytes, port_at, port_number}

-- just the parcel that was put in there, and the place behind it
pub record IsParcel (k : ℕ) (bs : List ℕ) (after : ℕ) (p : Parcel) : Type 0 where
  pub port : p.port ≡ port_at k
  pub bytes : p.bytes.now ≡ bs
  pub next : p.next ≡ after

-- there is one
abbrev pub IsSome : Option Parcel → (Parcel → Type 0) → Type 0
IsSome None P = ⊥
IsSome (Some p) P = P p

-- what is taken out stood there, whole
abbrev pub Stood : ℕ → List ℕ → Option Parcel → Type 0
Stood at held None = Unit {0}
Stood at held (Some p) = held ≡ take at held ++ (parcel_bytes (port_number p.port) p.bytes.now ++ drop p.next held)

-- wherever a parcel stands it is taken out, nothing else is, and at the end there is none
pub record TakenOut (at : ℕ) (held : List ℕ) (r : Option Parcel) : Type 0 where
  pub there : (front bytes back : List ℕ) (port : ℕ) → length bytes < 2 ^ 16 → held ≡ front ++ (parcel_bytes port bytes ++ back) → length front ≡ at → IsSome r (IsParcel port bytes (at + length (parcel_bytes port bytes)))
  pub only : Stood at held r
  pub none : length held ≤ at → r ≡ None
