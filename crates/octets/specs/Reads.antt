-- Readers over lists of bytes: each takes what it needs from the front, and gives a value and the rest, or a fault.
-- Assumes nothing.
use Rattle.std.specs.Prelude.{ℕ, zero, suc, ◌+◌, ◌*◌, Bool, cond, not, List, [], ◌∷◌, ◌++◌, Ok, Err, Result, ◌==◌, nat_lt}
use Rattle.octets.specs.declared.Fault.{Fault}
use Rattle.octets.specs.declared.Fault.TheVariants.{Form, Range}

abbrev pub Read : Type 0 → Type 0
Read A = List ℕ → Result (A × List ℕ) Fault

-- an answer, with what is left after it
abbrev pub with_left : {A : Type 0} → Result A Fault → List ℕ → Result (A × List ℕ) Fault
with_left (Ok x) left = Ok (x, left)
with_left (Err e) left = Err e

-- go on with what was read, or stop at a fault
abbrev pub onward : {A B : Type 0} → Result (A × List ℕ) Fault → (A → Read B) → Result (B × List ℕ) Fault
onward (Ok t) f = f t.0 t.1
onward (Err e) f = Err e

infixl 20 ◌>>=◌
abbrev pub ◌>>=◌ : {A B : Type 0} → Read A → (A → Read B) → Read B
◌>>=◌ p f bytes = onward (p bytes) f

infixl 20 ◌>>◌
abbrev pub ◌>>◌ : {A B : Type 0} → Read A → Read B → Read B
◌>>◌ p q bytes = onward (p bytes) (λ _. q)

abbrev pub give : {A : Type 0} → A → Read A
give x bytes = Ok (x, bytes)

-- go on if the test holds; else it is that fault
abbrev pub unless : Fault → Bool → Read (Unit {0})
unless e good bytes = cond good (Ok (tt, bytes)) (Err e)

-- the next byte; at the end it is bad form
abbrev pub byte : Read ℕ
byte [] = Err Form
byte (b ∷ rest) = Ok (b, rest)

-- a number of so many bytes, high byte first
unfoldable pub number : ℕ → Read ℕ
number zero = give 0
number (suc k) = do
  high ← number k
  low ← byte
  give (high * 256 + low)

-- a byte below a limit
abbrev pub below : ℕ → Read ℕ
below limit = do
  b ← byte
  unless Range (nat_lt b limit)
  give b

-- a number other than 0
abbrev pub positive : ℕ → Read ℕ
positive k = do
  x ← number k
  unless Range (not (x == 0))
  give x

-- nothing is left
abbrev pub end : Read (Unit {0})
end [] = Ok (tt, [])
end (b ∷ rest) = Err Form

-- so many in a row
unfoldable pub many : {A : Type 0} → ℕ → Read A → Read (List A)
many zero p = give []
many (suc k) p = do
  xs ← many k p
  x ← p
  give (xs ++ (x ∷ []))

-- a step so many times, each from where the one before came
unfoldable pub times : {S : Type 0} → ℕ → (S → Read S) → S → Read S
times zero f s = give s
times (suc k) f s = do
  t ← times k f s
  f t
