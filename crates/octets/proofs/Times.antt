-- A step so many times: once more, and a fault on the way.
use Rattle.std.proofs.Common.{◌≡◌, ℕ, zero, suc, ◌+◌, ◌<◌, ◌≤◌, List, Ok, Err, refl, subst, ⊎_elim, add-one, arith}
use Rattle.std.proofs.lemmas.Bool.{cases_lt}
use Rattle.octets.specs.declared.Fault.{Fault}
use Rattle.octets.specs.Reads.{Read, times}

module _ {S : Type 0} (f : S → Read S) (s : S) where
  pub times_none : (bytes : List ℕ) → times 0 f s bytes ≡ Ok (s, bytes)
  unfolding times
  times_none bytes = refl

  pub times_more : (bytes : List ℕ) (i : ℕ) (t u : S) (left after : List ℕ) → times i f s bytes ≡ Ok (t, left) → f t left ≡ Ok (u, after) → times (i + 1) f s bytes ≡ Ok (u, after)
  unfolding times
  times_more bytes i t u left after h k = rw (add-one, h, k)

  pub times_cut : (bytes : List ℕ) (e : Fault) (k j : ℕ) → times j f s bytes ≡ Err e → j ≤ k → times k f s bytes ≡ Err e
  unfolding times
  times_cut bytes e zero j h l = let z : j ≡ 0 = omega arith in subst (λ k. times k f s bytes ≡ Err e) z h
  times_cut bytes e (suc k) j h l =
      ⊎_elim
      (λ q. let z : j ≡ suc k = omega arith in subst (λ k. times k f s bytes ≡ Err e) z h)
      (λ q. let ih : times k f s bytes ≡ Err e = times_cut bytes e k j h (omega arith) in rw ih)
      (cases_lt k j)

  -- a step that fails ends it, however often it was to be taken
  pub times_stops : (bytes : List ℕ) (e : Fault) (k i : ℕ) (t : S) (left : List ℕ) → times i f s bytes ≡ Ok (t, left) → f t left ≡ Err e → i < k → times k f s bytes ≡ Err e
  unfolding times
  times_stops bytes e k i t left h q l = times_cut bytes e k (suc i) (rw (h, q)) (omega arith)
