-- The bytes of a frame that fits are read as it.
use Rattle.std.proofs.Common.{◌≡◌, ℕ, ◌-◌, ◌≤◌, List, length, Ok, sym, refl, ap, ◌∙◌, arith, length-append}
use Rattle.std.proofs.lemmas.List.{take_at}
use Rattle.checksum.specs.Crc.{SumFits, sum_bytes}
use Rattle.checksum.specs.Refused.{body_of}
use Rattle.frames.proofs.Whole.{frame_again_lem}
use Rattle.frames.specs.Ranges.{InRange, bytes_of_frame}
use Rattle.frames.specs.Reading.{Told, a_hello, frame_in, some_seen, some_words}
use Rattle.linkmodel.specs.Station.{Frame, Greets, Shows, Tells}
use Rattle.netmodel.specs.Fits.{FrameFits}
use Rattle.node.proofs.Written.{seens_as, words_as}
use Rattle.node.specs.Wires.{frame_bytes}
use Rattle.outbox.specs.Parcels.{sealed}
use Rattle.station.specs.Packets.{no_id}
use Rattle.station.specs.Ticking.{no_word}
use Rattle.netbytes.proofs.AsSeens.{id_of, seens_good, seens_to, sights_back}
use Rattle.netbytes.proofs.AsWords.{bundle_back, word_of, words_good, words_of}
use Rattle.netbytes.proofs.Fours.{four_long}
use Rattle.netbytes.specs.Arriving.{wire_bytes}

sum_long : (xs : List ℕ) → length (sum_bytes xs) ≡ 4
unfolding sum_bytes
sum_long xs = omega arith

-- bytes with their sum have a right sum, and are those before it
pub sealed_fits : (b : List ℕ) → SumFits (sealed b)
sealed_fits b = (b, refl)

pub body_sealed : (b : List ℕ) → body_of (sealed b) ≡ b
body_sealed b = take_at b (sum_bytes b) (length (sealed b) - 4) (omega (arith, length-append b (sum_bytes b), sum_long b))

-- what a frame is read as
abbrev pub told_of : Frame → Told
told_of (Greets h) = a_hello (record { from = h.from; drawn = h.drawn; heard = h.heard })
told_of (Tells p) = some_words (words_of p)
told_of (Shows p) = some_seen (seens_to p)

told_good : (n : ℕ) (f : Frame) → n ≤ 64 → FrameFits n f → InRange n (told_of f)
told_good n (Greets h) few k = record { box = k.0; some_drawn = k.1.0; drawn = k.1.1; heard = k.2 }
told_good n (Tells p) few k = words_good n few p k.0 k.1
told_good n (Shows p) few k = seens_good n p k.0 k.1

told_bytes : (n : ℕ) (f : Frame) → n ≤ 64 → FrameFits n f → bytes_of_frame (told_of f) ≡ frame_bytes f
told_bytes n (Greets h) few k = refl
told_bytes n (Tells p) few k =
    words_as (words_of p) (omega (arith, four_long word_of no_word p.items k.1.1, k.1.1)) ∙ ap (λ b. frame_bytes (Tells b)) (bundle_back n few p k.1)
told_bytes n (Shows p) few k =
    seens_as (seens_to p) (omega (arith, four_long id_of no_id p.items k.1.1, k.1.1)) ∙ ap (λ b. frame_bytes (Shows b)) (sights_back n p k.1)

pub read_as : (n : ℕ) (f : Frame) → n ≤ 64 → FrameFits n f → frame_in n (body_of (wire_bytes f)) ≡ Ok (told_of f)
read_as n f few k = ap (frame_in n) (body_sealed (frame_bytes f) ∙ sym (told_bytes n f few k)) ∙ frame_again_lem n few (told_of f) (told_good n f few k)
