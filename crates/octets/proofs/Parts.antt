-- What is known of each step of a reader that came through: what it read, what it left, and which test held.
use Rattle.std.proofs.Common.{◌≡◌, ℕ, ◌<◌, Bool, true, false, List, [], ◌∷◌, Ok, Err, Result, sym, refl, ap, subst, ap₂, arith}
use Rattle.octets.specs.declared.Fault.{Fault}
use Rattle.octets.specs.Reads.{Read, onward, unless, byte, end}
use Rattle.octets.specs.Writes.{Bytes}

-- equal answers have equal values and leave the same
pub both : {A : Type 0} (a b : A) (l m : List ℕ) → ◌≡◌ {A = Result (A × List ℕ) Fault} (Ok (a, l)) (Ok (b, m)) → (a ≡ b) × (l ≡ m)
both {A} a b l m h =
    let e : ◌≡◌ {A = A × List ℕ} (a, l) (b, m) = cc in
    (ap (λ (t : A × List ℕ). t.0) e, ap (λ (t : A × List ℕ). t.1) e)

-- a reader that came through, taken apart at its first step
pub record Step {A B : Type 0} (r : Result (A × List ℕ) Fault) (f : A → Read B) (y : B) (rest : List ℕ) : Type 0 where
  pub value : A
  pub left : List ℕ
  pub was : r ≡ Ok (value, left)
  pub then : f value left ≡ Ok (y, rest)

pub step : {A B : Type 0} (r : Result (A × List ℕ) Fault) (f : A → Read B) (y : B) (rest : List ℕ) → onward r f ≡ Ok (y, rest) → Step r f y rest
step (Ok t) f y rest h = record { value = t.0; left = t.1; was = refl; then = h }
step (Err e) f y rest h = let z : ◌≡◌ {A = ℕ} 0 1 = cc in absurd (omega arith)

-- a test and what comes after it
pub record Test {B : Type 0} (good : Bool) (p : Read B) (bytes : List ℕ) (y : B) (rest : List ℕ) : Type 0 where
  pub held : good ≡ true
  pub then : p bytes ≡ Ok (y, rest)

pub test : {B : Type 0} (e : Fault) (good : Bool) (p : Read B) (bytes : List ℕ) (y : B) (rest : List ℕ) → onward (unless e good bytes) (λ _. p) ≡ Ok (y, rest) → Test good p bytes y rest
test e true p bytes y rest h = record { held = refl; then = h }
test e false p bytes y rest h = let z : ◌≡◌ {A = ℕ} 0 1 = cc in absurd (omega arith)

-- one byte that was read
pub record Byte (bytes : List ℕ) (b : ℕ) (left : List ℕ) : Type 0 where
  pub is : bytes ≡ b ∷ left
  pub fits : b < 256
  pub bytes_left : Bytes left

pub byte_read : (bytes : List ℕ) (b : ℕ) (left : List ℕ) → Bytes bytes → byte bytes ≡ Ok (b, left) → Byte bytes b left
byte_read [] b left k h = let z : ◌≡◌ {A = ℕ} 0 1 = cc in absurd (omega arith)
byte_read (x ∷ xs) b left k h =
    let e = both x b xs left h in
    record { is = ap₂ (λ y ys. y ∷ ys) e.0 e.1; fits = subst (λ z. z < 256) e.0 k.0; bytes_left = subst Bytes e.1 k.1 }

pub end_read : (bytes left : List ℕ) (u : Unit {0}) → end bytes ≡ Ok (u, left) → (bytes ≡ []) × (left ≡ [])
end_read [] left u h = (refl, sym (both tt u [] left h).1)
end_read (x ∷ xs) left u h = let z : ◌≡◌ {A = ℕ} 0 1 = cc in absurd (omega arith)
