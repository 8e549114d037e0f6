-- Values read one after the other into the front of four blanks.
use Rattle.std.proofs.Common.{◌≡◌, ℕ, ◌-◌, List, ◌++◌, length, replicate, Ok, Err, sym, refl, ap, ◌∙◌, ap₂}
use Rattle.std.proofs.lemmas.List.{drop-replicate}
use borrow.Rule.Slice.PartMut.{put_mid}
use Rattle.octets.specs.declared.Fault.{Fault}
use Rattle.octets.specs.Reads.{Read, many}
use Rattle.wordframes.specs.Reading.{four_in, padded}

padded_mid : {A : Type 0} (blank d : A) (k : ℕ) (xs : List A) → d ≡ blank → k ≡ length xs → padded blank xs ≡ put_mid 0 k (replicate 4 d) xs
padded_mid blank d k xs e n = ap (λ z. xs ++ z) (ap₂ replicate (ap (λ m. 4 - m) (sym n)) (sym e) ∙ sym (drop-replicate k 4 d))

pub four_stops : {A : Type 0} (p : Read A) (blank : A) (k : ℕ) (before : List ℕ) (e : Fault) → many k p before ≡ Err e → four_in p blank k before ≡ Err e
four_stops p blank k before e h = rw h refl

pub four_read : {A : Type 0} (p : Read A) (blank d : A) (k m : ℕ) (before left : List ℕ) (xs : List A) → d ≡ blank → k ≡ length xs → m ≡ k → many k p before ≡ Ok (xs, left) → four_in p blank k before ≡ Ok (put_mid 0 m (replicate 4 d) xs, left)
four_read p blank d k m before left xs e n q h = rw h (ap (λ ys. Ok (ys, left)) (padded_mid blank d m xs e (q ∙ n)))
