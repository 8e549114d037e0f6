-- A mended checksum is right, and is the one computed anew.
-- Assumes nothing.
use Rattle.std.proofs.Common.{◌≡◌, ℕ, suc, ◌+◌, ◌-◌, ◌*◌, ◌/◌, ◌%◌, ◌<◌, ◌≤◌, List, length, get_or, set, sym, refl, ap, ◌∙◌, subst, ap₂, inl, inr, arith, length-set, get_or-set_other}
use lib.Seq.{set-get_or}
use Rattle.checksum.proofs.Bytes.{bytes_at}
use Rattle.checksum.proofs.Folds.{Folds, leaves_same, folds_add, folds_same, sum_folds, total_pos, total_put, put_bytes, word_other}
use Rattle.checksum.specs.Bytes.{Bytes}
use Rattle.checksum.specs.Internet.{total, ones_add, ones_sum, internet_sum, header_fits, word_at, put_word, mended_sum, Right, changed, MendFits, MendAnew, MendOnes, TtlFalls}

-- what the three words leave
abbrev left : ℕ → ℕ → ℕ → ℕ
left sum old new = ones_add (ones_add (65535 - sum) (65535 - old)) new

left_folds : (sum old new : ℕ) → new ≤ 65535 → Folds ((65535 - sum) + (65535 - old) + new) (left sum old new)
left_folds sum old new h =
    folds_add ((65535 - sum) + (65535 - old)) (ones_add (65535 - sum) (65535 - old)) new h
    (folds_add (65535 - sum) (65535 - sum) (65535 - old) (omega arith)
    (record { leaves = leaves_same (65535 - sum); small = omega arith }))

module _ (header : List ℕ) (i k sum old new : ℕ) (r : Right header i k sum old) (h : new ≤ 65535) where
  -- the plain sum of the changed header, with any sum in its field
  changed_total : (s : ℕ) → total (changed header i k new s) + old + sum ≡ total header + new + s
  changed_total s =
      let a : total (put_word header i new) + word_at header i ≡ total header + new
      = total_put header i new r.whole_i r.inside_i in
      let b : total (changed header i k new s) + word_at (put_word header i new) k ≡ total (put_word header i new) + s
      = total_put (put_word header i new) k s r.whole_k long in
      let o : word_at (put_word header i new) k ≡ word_at header k
      = word_other header i k new r.whole_i r.whole_k r.apart in
      let e : word_at header i ≡ old = r.word in
      let f : word_at header k ≡ sum = r.field in
      omega arith
    where
      long : suc k < length (put_word header i new)
      long = omega (arith, length-set (set header i (new / 256)) (suc i) (new % 256), length-set header i (new / 256), r.inside_k)

  changed_bytes : (s : ℕ) → s ≤ 65535 → Bytes (changed header i k new s)
  changed_bytes s l = put_bytes (put_word header i new) k s l (put_bytes header i new h r.bytes)

  sum_small : sum ≤ 65535
  sum_small = omega (arith, r.field, bytes_at header k r.bytes, bytes_at header (suc k) r.bytes)

  old_small : old ≤ 65535
  old_small = omega (arith, r.word, bytes_at header i r.bytes, bytes_at header (suc i) r.bytes)

  header_folds : Folds (total header) 65535
  header_folds = subst (λ (s : ℕ). Folds (total header) s) r.fits (sum_folds header r.bytes)

  module _ (j : ℕ) (some : 0 < get_or (changed header i k new 0) j 0) where
    fits_again : header_fits (changed header i k new (mended_sum sum old new))
    fits_again =
        folds_same (total (changed header i k new m)) (ones_sum (changed header i k new m)) 65535
        (sum_folds (changed header i k new m) (changed_bytes m (omega arith)))
        (core (left_folds sum old new h) header_folds)
      where
        m : ℕ
        m = mended_sum sum old new

        core : Folds ((65535 - sum) + (65535 - old) + new) (left sum old new) → Folds (total header) 65535 → Folds (total (changed header i k new m)) 65535
        core f g =
            let z = total_pos (changed header i k new 0) j some in
            let a = changed_total 0 in
            let b = changed_total m in
            let s = sum_small in
            let o = old_small in
            let u : total (changed header i k new m) ≡ (g.leaves.times + f.leaves.times) * 65535 = omega (arith, f.leaves.is, g.leaves.is, f.small) in
            record {
              leaves = record { times = g.leaves.times + f.leaves.times - 1; is = omega arith; none = inr (omega arith) };
              small = omega arith;
            }

    anew : (sum ≡ 0xffff → old ≡ 0xffff → new ≡ 0 → ⊥) → mended_sum sum old new ≡ internet_sum (changed header i k new 0)
    anew ne =
        ap (λ (x : ℕ). 65535 - x)
        (folds_same (total (changed header i k new 0)) (left sum old new) (ones_sum (changed header i k new 0))
        (core (left_folds sum old new h) header_folds)
        (sum_folds (changed header i k new 0) (changed_bytes 0 (omega arith))))
      where
        core : Folds ((65535 - sum) + (65535 - old) + new) (left sum old new) → Folds (total header) 65535 → Folds (total (changed header i k new 0)) (left sum old new)
        core f g =
            let z = total_pos (changed header i k new 0) j some in
            let a = changed_total 0 in
            let s = sum_small in
            let o = old_small in
            let p : 0 < left sum old new
            = elim f.leaves.none [ inl n ↦ absurd (ne (omega arith) (omega arith) (omega arith)) | inr p ↦ p ] in
            let u : total (changed header i k new 0) + 65535 ≡ left sum old new + (g.leaves.times + f.leaves.times) * 65535 = omega (arith, f.leaves.is, g.leaves.is, f.small) in
            record {
              leaves = record { times = g.leaves.times + f.leaves.times - 1; is = omega (arith, f.small); none = inr p };
              small = f.small;
            }

    -- the sum and the old word all ones, the new word 0
    ones_anew : sum ≡ 65535 → old ≡ 65535 → new ≡ 0 → internet_sum (changed header i k new 0) ≡ 0
    ones_anew es eo en =
        ap (λ (x : ℕ). 65535 - x)
        (folds_same (total (changed header i k new 0)) (ones_sum (changed header i k new 0)) 65535
        (sum_folds (changed header i k new 0) (changed_bytes 0 (omega arith)))
        (core header_folds))
      where
        core : Folds (total header) 65535 → Folds (total (changed header i k new 0)) 65535
        core g =
            let z = total_pos (changed header i k new 0) j some in
            let a = changed_total 0 in
            let u : total (changed header i k new 0) + 65535 ≡ g.leaves.times * 65535 = omega (arith, g.leaves.is) in
            record {
              leaves = record { times = g.leaves.times - 2; is = omega arith; none = inr (omega arith) };
              small = omega arith;
            }

pub mend_fits_lem : (sum old new : ℕ) → new ≤ 65535 → MendFits sum old new (mended_sum sum old new)
mend_fits_lem sum old new h header i k j r some = fits_again header i k sum old new r h j some

pub mend_anew_lem : (sum old new : ℕ) → new ≤ 65535 → MendAnew sum old new (mended_sum sum old new)
mend_anew_lem sum old new h header i k j r some = anew header i k sum old new r h j some

pub mend_ones_lem : (sum old new : ℕ) → sum ≤ 65535 → old ≤ 65535 → new ≤ 65535 → MendOnes sum old new (mended_sum sum old new)
unfolding ones_add
mend_ones_lem sum old new hs ho h = (
  λ e. when e (left_folds sum old new h),
  λ es eo en. (
    ap₂ (λ (s o : ℕ). mended_sum s o new) es eo ∙ ap (mended_sum 65535 65535) en,
    λ header i k j r some. ones_anew header i k sum old new r h j some es eo en,
  ),
)
  where
    when : mended_sum sum old new ≡ 65535 → Folds ((65535 - sum) + (65535 - old) + new) (left sum old new) → (sum ≡ 65535) × (old ≡ 65535) × (new ≡ 0)
    when e f = elim f.leaves.none [ inl z ↦ omega arith | inr p ↦ absurd (omega arith) ]

pub ttl_falls_lem : (sum old new : ℕ) → new ≤ 65535 → TtlFalls sum old new (mended_sum sum old new)
ttl_falls_lem sum old new h header hb len first ttl fits field word falls = (
  mend_anew_lem sum old new h header 8 10 0 right seen (λ a b c. omega arith)
      ∙ ap (λ (xs : List ℕ). internet_sum (put_word xs 10 0)) same,
  subst (λ (xs : List ℕ). header_fits (put_word xs 10 (mended_sum sum old new))) same (mend_fits_lem sum old new h header 8 10 0 right seen),
)
  where
    right : Right header 8 10 sum old
    right =
        record {
          bytes = hb;
          whole_i = refl;
          whole_k = refl;
          apart = omega arith;
          inside_i = omega arith;
          inside_k = omega arith;
          word = word;
          field = field;
          fits = fits;
        }

    low : get_or header 9 0 < 256
    low = bytes_at header 9 hb

    -- the word less 256 is the same with the high byte less one
    same : put_word header 8 new ≡ set header 8 (get_or header 8 0 - 1)
    same =
        let e : new / 256 ≡ get_or header 8 0 - 1 = omega (arith, low) in
        let f : new % 256 ≡ get_or header 9 0 = omega (arith, low) in
        ap₂ (λ (x y : ℕ). set (set header 8 x) 9 y) e f
        ∙ ap (set (set header 8 (get_or header 8 0 - 1)) 9) (sym (get_or-set_other header 8 9 (get_or header 8 0 - 1) 0 (omega arith)))
        ∙ set-get_or (set header 8 (get_or header 8 0 - 1)) 9 0

    seen : 0 < get_or (changed header 8 10 new 0) 0 0
    seen =
        let a = get_or-set_other (set (put_word header 8 new) 10 0) 11 0 0 0 (omega arith) in
        let b = get_or-set_other (put_word header 8 new) 10 0 0 0 (omega arith) in
        let c = get_or-set_other (set header 8 (new / 256)) 9 0 (new % 256) 0 (omega arith) in
        let d = get_or-set_other header 8 0 (new / 256) 0 (omega arith) in
        subst (λ (x : ℕ). 0 < x) (sym (a ∙ b ∙ c ∙ d)) first
