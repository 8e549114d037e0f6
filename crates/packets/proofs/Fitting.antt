-- A sum computed anew fits.
use Rattle.std.proofs.Common.{◌≡◌, ℕ, suc, ◌+◌, ◌%◌, ◌<◌, true, List, length, inr, arith}
use Rattle.std.proofs.lemmas.Bool.{eq-eqb, eqb-true}
use Rattle.checksum.specs.Bytes.{Bytes}
use Rattle.checksum.specs.Internet.{header_fits, internet_sum, ones_sum, put_word, total}
use Rattle.checksum.proofs.Folds.{Folds, folds_same, put_bytes, sum_folds, total_put}
use Rattle.packets.specs.Sums.{sum_fits, summed}

summed_right : (bytes : List ℕ) (at : ℕ) → Bytes bytes → at % 2 ≡ 0 → suc at < length bytes → header_fits (put_word bytes at (internet_sum (put_word bytes at 0)))
summed_right bytes at b e l =
    folds_same (total new) (ones_sum new) 65535 (sum_folds new (put_bytes bytes at s (omega arith) b)) (full (sum_folds old (put_bytes bytes at 0 (omega arith) b)))
  where
    old : List ℕ
    old = put_word bytes at 0

    s : ℕ
    s = internet_sum old

    new : List ℕ
    new = put_word bytes at s

    full : Folds (total old) (ones_sum old) → Folds (total new) 65535
    full f =
        let x = total_put bytes at s e l in
        let y = total_put bytes at 0 e l in
        let z : total new ≡ total old + s = omega arith in
        record {
          leaves = record { times = f.leaves.times; is = omega (arith, f.leaves.is, f.small); none = inr (omega arith) };
          small = omega arith;
        }

pub summed_fits : (bytes : List ℕ) (at : ℕ) → Bytes bytes → at % 2 ≡ 0 → suc at < length bytes → sum_fits (summed at bytes) ≡ true
unfolding sum_fits summed
summed_fits bytes at b e l = eq-eqb (ones_sum (summed at bytes)) 0xffff (summed_right bytes at b e l)

pub fits_right : (bytes : List ℕ) → sum_fits bytes ≡ true → header_fits bytes
unfolding sum_fits
fits_right bytes h = eqb-true (ones_sum bytes) 0xffff h

pub right_fits : (bytes : List ℕ) → header_fits bytes → sum_fits bytes ≡ true
unfolding sum_fits
right_fits bytes h = eq-eqb (ones_sum bytes) 0xffff h
