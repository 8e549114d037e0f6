-- A frame written behind the place of its parcel's head, and how long frames are.
use Rattle.std.proofs.Common.{◌≡◌, ℕ, zero, suc, ◌+◌, ◌-◌, ◌*◌, ◌≤◌, List, [], ◌∷◌, ◌++◌, length, take, drop, Some, sym, ap, ◌∙◌, append_assoc, arith, length-append, length-take}
use borrow.Rule.Slice.PartMut.{mid_of, put_mid}
use Rattle.std.specs.List.{flat_map}
use Rattle.std.proofs.lemmas.List.{take_at, drop_at, take-append-le, take-take}
use Rattle.octets.specs.Writes.{Wrote, put}
use Rattle.octets.proofs.Puts.{length_octets}
use Rattle.messages.specs.declared.values.Word.{Word}
use Rattle.messages.specs.Packets.{Words}
use Rattle.messages.specs.Packets.{Seens}
use Rattle.wordframes.specs.Writing.{bytes_of_seens, bytes_of_word, bytes_of_words}
use Rattle.wordframes.proofs.Roads.{length_word, length_words, roads_few}
use Rattle.wordframes.proofs.Lengths.{length_seens}
use Rattle.packets.specs.declared.values.Trouble.{Trouble}
use Rattle.packets.specs.Errors.{error_header, error_of, error_start, quoted}
use Rattle.packets.proofs.Summing.{length_both}
use Rattle.frames.specs.Writing.{bytes_of_entry, bytes_of_line}
use Rattle.frames.specs.declared.values.Entry.{Entry}
use Rattle.frames.specs.declared.values.Entry.TheVariants.{Began, Said, Taken, Refused}
use Rattle.frames.specs.declared.values.Line.{Line}

-- what is behind the head, and what is before it
pub record Behind (bytes old new : List ℕ) (u at k : ℕ) : Type 0 where
  pub long : k ≡ length bytes
  pub body : take k (drop at new) ≡ bytes
  pub front : take u new ≡ take u old

pub in_place : (old out bytes : List ℕ) (u at k : ℕ) → at ≤ 65536 → length old ≡ 65536 → u ≤ at → Wrote bytes (mid_of at (65536 - at) old) (Some k) out → length out ≡ length (mid_of at (65536 - at) old) → Behind bytes old (put_mid at (65536 - at) old out) u at k
unfolding put
in_place old out bytes u at k h l b w same =
    let lm : length (take at old) ≡ at = simp length-take (omega arith) in
    let rest : List ℕ = drop (65536 - at) (drop at old) in
    record {
      long = w.0;
      body =
          ap (λ z. take k z) (drop_at (take at old) (out ++ rest) at lm)
          ∙ (ap (λ z. take k (z ++ rest)) w.1
          ∙ (ap (λ z. take k z) (append_assoc bytes (drop (0 + length bytes) (mid_of at (65536 - at) old)) rest) ∙ take_at bytes (drop (0 + length bytes) (mid_of at (65536 - at) old) ++ rest) k (sym w.0)));
      front = take-append-le u (take at old) (out ++ rest) (omega arith) ∙ take-take u at old b;
    }

pub word_small : (w : Word) → length (bytes_of_word w) ≤ 210
word_small w = omega (arith, length_word w, roads_few w.costs 64)

items_small : (ws : List Word) (k : ℕ) → length (flat_map bytes_of_word (take k ws)) ≤ 210 * k
items_small [] zero = omega arith
items_small [] (suc k) = omega arith
items_small (w ∷ ws) zero = omega arith
items_small (w ∷ ws) (suc k) = omega (arith, length-append (bytes_of_word w) (flat_map bytes_of_word (take k ws)), word_small w, items_small ws k)

pub words_small : (w : Words) → w.count ≤ 4 → length (bytes_of_words w) ≤ 850
words_small w h = omega (arith, length_words w, items_small w.items w.count)

pub seens_small : (s : Seens) → s.count ≤ 4 → length s.items ≡ 4 → length (bytes_of_seens s) ≤ 850
seens_small s h l = omega (arith, length_seens s (omega arith))

entry_small : (e : Entry) → length (bytes_of_entry e) ≤ 211
entry_small (Began n me) = omega arith
entry_small (Said w) = omega (arith, word_small w)
entry_small (Taken w) = omega (arith, word_small w)
entry_small (Refused k) = omega arith

pub line_small : (l : Line) → length (bytes_of_line l) ≤ 216
line_small l = simp length-append (omega (arith, length_octets 4 l.tick, entry_small l.what))

pub error_small : (me : ℕ) (t : Trouble) (p : List ℕ) → length (error_of me t p) ≤ 56
error_small me t p =
    let l : length (quoted p) ≤ 28 = simp length-take (omega arith) in
    omega (arith, length_both (error_header me (quoted p) ++ (error_start t ++ quoted p)), length-append (error_header me (quoted p)) (error_start t ++ quoted p), length-append (error_start t) (quoted p))
