-- The front of a list, as the code reads it, and numbers read on from there.
use Rattle.std.proofs.Common.{◌≡◌, ℕ, zero, suc, ◌+◌, ◌-◌, ◌*◌, ◌^◌, ◌<◌, ◌≤◌, List, [], ◌∷◌, length, get_or, take, drop, Ok, Err, sym, refl, ap, subst, ⊎_elim, pow-suc, add-one, arith, lit<}
use native.Mathlib.Nat.{pow-le-pow_right}
use Rattle.std.proofs.lemmas.List.{take_rest}
use Rattle.std.proofs.lemmas.Bool.{cases_lt}
use Rattle.octets.specs.declared.Fault.{Fault}
use Rattle.octets.specs.Reads.{byte, number}
use Rattle.octets.specs.Writes.{Bytes}

-- the next byte is the first one, and what is left is all but that
pub front : (xs : List ℕ) → 0 < length xs → byte xs ≡ Ok (get_or xs 0 0, take (length xs - 1) (drop 1 xs))
front [] h = absurd (omega arith)
front (x ∷ xs) h = ap (λ r. Ok (x, r)) (sym (take_rest (x ∷ xs) 1))

pub number_none : (bytes : List ℕ) → number 0 bytes ≡ Ok (0, bytes)
unfolding number
number_none bytes = refl

-- one byte more
pub number_more : (bytes : List ℕ) (i x b : ℕ) (left after : List ℕ) → number i bytes ≡ Ok (x, left) → byte left ≡ Ok (b, after) → number (i + 1) bytes ≡ Ok (x * 256 + b, after)
unfolding number
number_more bytes i x b left after p q = rw (add-one, p, q)

-- a number that ends early ends so at any greater width too
pub number_cut : (bytes : List ℕ) (e : Fault) (k j : ℕ) → number j bytes ≡ Err e → j ≤ k → number k bytes ≡ Err e
unfolding number
number_cut bytes e zero j p h = let z : j ≡ 0 = omega arith in subst (λ k. number k bytes ≡ Err e) z p
number_cut bytes e (suc k) j p h = ⊎_elim (λ q. let z : j ≡ suc k = omega arith in subst (λ k. number k bytes ≡ Err e) z p) (λ q. let ih : number k bytes ≡ Err e = number_cut bytes e k j p (omega arith) in rw ih) (cases_lt k j)

pub number_stops : (bytes : List ℕ) (e : Fault) (k i x : ℕ) (left : List ℕ) → number i bytes ≡ Ok (x, left) → byte left ≡ Err e → i < k → number k bytes ≡ Err e
unfolding number
number_stops bytes e k i x left p q h = number_cut bytes e k (suc i) (rw (p, q)) (omega arith)

-- a number below 256 ^ i with one byte more
pub pow_more : (i x b : ℕ) → x < 256 ^ i → b < 256 → x * 256 + b < 256 ^ (i + 1)
pow_more i x b h k = rw (add-one, pow-suc) (omega arith)

-- and it still fits 64 bits while there are at most 8
pub pow_fits : (i : ℕ) → i ≤ 8 → 256 ^ i ≤ 256 ^ 8
pow_fits i h = pow-le-pow_right {n = 256} (lit< tt) h

-- each is a byte if each place holds one
pub bytes_at : (xs : List ℕ) → ((k : ℕ) → k < length xs → get_or xs k 0 < 256) → Bytes xs
bytes_at [] h = tt
bytes_at (x ∷ xs) h = (h 0 (omega arith), bytes_at xs (λ k l. h (suc k) (omega arith)))
