-- A packet in its frame.
use Rattle.std.proofs.Common.{◌≡◌, ℕ, suc, ◌-◌, ◌≤◌, List, [], ◌∷◌, ◌++◌, length, take, drop, set, Ok, Err, Result, ap, ◌∙◌, arith, length-take}
use borrow.Rule.Slice.PartMut.{mid_of, put_mid, same_len_mid}
use Rattle.std.proofs.lemmas.List.{take_at}
use Rattle.checksum.specs.declared.crc.SumRefused.{SumRefused}
use Rattle.checksum.specs.Crc.{sum_bytes}
use Rattle.checksum.specs.Refused.{SumWritten, body_of}
use Rattle.node.specs.Passing.{framed, packet_in}

pub framed_sum : (f after : List ℕ) (r : Result (Unit {0}) SumRefused) → 5 ≤ length f → SumWritten (set f 0 4) after r → after ≡ framed (packet_in f)
framed_sum [] after r h w = absurd (omega arith)
framed_sum (b ∷ bs) after (Err e) h w = absurd (omega (arith, w.1))
framed_sum (b ∷ bs) after (Ok x) h w =
    let n : length (4 ∷ bs) - 4 ≡ suc (length (b ∷ bs) - 4 - 1) = omega arith in
    let front : body_of (4 ∷ bs) ≡ 4 ∷ packet_in (b ∷ bs) = ap (λ k. take k (4 ∷ bs)) n in
    w.1 ∙ ap (λ z. z ++ sum_bytes z) front

-- another packet of the same length in its place
pub record Replaced (f x g : List ℕ) : Type 0 where
  pub long : length g ≡ length f
  pub packet : packet_in g ≡ x

pub replaced : (f x : List ℕ) → 5 ≤ length f → length x ≡ length (mid_of 1 (length f - 4 - 1) f) → Replaced f x (put_mid 1 (length f - 4 - 1) f x)
replaced [] x h e = absurd (omega arith)
replaced (b ∷ bs) x h e =
    let l = same_len_mid 1 (length (b ∷ bs) - 4 - 1) (b ∷ bs) x e in
    let k : length (take (length (b ∷ bs) - 4 - 1) bs) ≡ length (b ∷ bs) - 4 - 1 = simp length-take (omega arith) in
    record {
      long = l;
      packet = ap (λ z. take (z - 4 - 1) (drop 1 (put_mid 1 (length (b ∷ bs) - 4 - 1) (b ∷ bs) x))) l ∙ take_at x _ (length (b ∷ bs) - 4 - 1) (e ∙ k);
    }

-- the frame of that packet: its kind before it, and its sum behind it
pub turned_frame : (f x after : List ℕ) (r : Result (Unit {0}) SumRefused) → 5 ≤ length f → length x ≡ length (mid_of 1 (length f - 4 - 1) f) → SumWritten (set (put_mid 1 (length f - 4 - 1) f x) 0 4) after r → after ≡ framed x
turned_frame f x after r h e w =
    let t = replaced f x h e in
    framed_sum (put_mid 1 (length f - 4 - 1) f x) after r (omega (arith, t.long)) w ∙ ap framed t.packet
