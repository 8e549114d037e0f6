-- Journal lines: written and read, and only so.
use Rattle.std.proofs.Common.{◌≡◌, ℕ, ◌+◌, ◌-◌, ◌≤◌, true, cond, eqb, List, [], ◌∷◌, ◌++◌, length, take, drop, Some, None, Ok, Option, sym, refl, ap, ◌∙◌, subst, ap₂, ⊎_elim, append_assoc, arith, length-append}
use Rattle.std.proofs.lemmas.List.{take_at, drop_at}
use Rattle.std.proofs.lemmas.Bool.{eqb-true}
use Rattle.octets.specs.declared.Fault.TheVariants.{Form, Count}
use Rattle.octets.specs.Reads.{Read, onward, unless, give, byte, below, number}
use Rattle.octets.specs.Writes.{Bytes, octets, put, Wrote}
use Rattle.octets.proofs.Puts.{take_put}
use Rattle.octets.proofs.Parts.{both, step, test, byte_read}
use Rattle.octets.proofs.Numbers.{number_octets, number_read, below_octet, below_read}
use Rattle.octets.proofs.Many.{Item}
use Rattle.messages.specs.declared.values.Word.{Word}
use Rattle.frames.specs.declared.values.Entry.{Entry}
use Rattle.frames.specs.declared.values.Entry.TheVariants.{Began, Said, Taken, Refused}
use Rattle.frames.specs.declared.values.Line.{Line}
use Rattle.wordframes.specs.Ranges.{WordInRange}
use Rattle.frames.specs.Ranges.{FrameAgain, bytes_of_frame, EntryInRange, LineInRange}
use Rattle.wordframes.specs.Reading.{low_word, word_in}
use Rattle.frames.specs.Reading.{Told, frame_in, began_in, boxes_in, counted_in, entry_in, line_in, wrong}
use Rattle.wordframes.specs.Writing.{bytes_of_word}
use Rattle.frames.specs.Writing.{bytes_of_entry, bytes_of_line}
use Rattle.wordframes.proofs.Items.{low_word_lem, word_again, word_low, word_only}
use Rattle.frames.proofs.Whole.{frame_again_lem, boxes_again, boxes_only, either}

module _ (n : ℕ) where
  counted_again : (w : Word) → WordInRange n w → (rest : List ℕ) → counted_in n (bytes_of_word w ++ rest) ≡ Ok (w, rest)
  counted_again w r rest = let a = word_again n w r rest in let t = word_low n w r in rw (a, t)

  abbrev Kind : Entry → ℕ
  Kind (Began boxes me) = 0
  Kind (Said w) = 1
  Kind (Taken w) = 2
  Kind (Refused number) = 3

  abbrev bytes_after : Entry → List ℕ
  bytes_after (Began boxes me) = boxes ∷ me ∷ []
  bytes_after (Said w) = bytes_of_word w
  bytes_after (Taken w) = bytes_of_word w
  bytes_after (Refused number) = number ∷ []

  entry_again : (e : Entry) → EntryInRange n e → (rest : List ℕ) → entry_in n (Kind e) (bytes_after e ++ rest) ≡ Ok (e, rest)
  entry_again (Began boxes me) r rest = rw (boxes_again boxes (me ∷ rest) r.0 r.1, below_octet boxes me rest r.2)
  entry_again (Said w) r rest = let a = counted_again w r rest in rw a
  entry_again (Taken w) r rest = let a = counted_again w r rest in rw a
  entry_again (Refused number) r rest = refl

  kind_and : (e : Entry) → bytes_of_entry e ≡ Kind e ∷ bytes_after e
  kind_and (Began boxes me) = refl
  kind_and (Said w) = refl
  kind_and (Taken w) = refl
  kind_and (Refused number) = refl

  -- a line in range, written and read, whatever comes after
  pub line_again_lem : (l : Line) → LineInRange n l → (rest : List ℕ) → line_in n (bytes_of_line l ++ rest) ≡ Ok (l, rest)
  line_again_lem l r rest =
      let a = entry_again l.what r.entry rest in
      ap (line_in n) (ap (λ z. 5 ∷ z) (append_assoc (octets 4 l.tick) (bytes_of_entry l.what) rest ∙ ap (λ z. octets 4 l.tick ++ (z ++ rest)) (kind_and l.what)))
      ∙ rw (number_octets 4 l.tick (Kind l.what ∷ (bytes_after l.what ++ rest)) r.tick, a)

module _ (n : ℕ) (few : n ≤ 64) where
  counted_only : (bytes : List ℕ) (w : Word) (left : List ℕ) → Bytes bytes → counted_in n bytes ≡ Ok (w, left) → Item bytes_of_word (WordInRange n) bytes w left
  counted_only bytes w left b h =
      let s = step (word_in n bytes) (λ w mid. onward (unless Count (low_word w) mid) (λ _. give w)) w left h in
      let i = word_only n few bytes s.value s.left b s.was in
      let t = test Count (low_word s.value) (give s.value) s.left w left s.then in
      let e = both s.value w s.left left t.then in
      let made : Item bytes_of_word (WordInRange n) bytes s.value left =
      record { is = i.is ∙ ap (λ z. bytes_of_word s.value ++ z) e.1; good = low_word_lem n s.value i.good t.held; bytes_left = subst Bytes e.1 i.bytes_left } in
      subst (λ x. Item bytes_of_word (WordInRange n) bytes x left) e.0 made

  -- what follows the kind of an entry
  record After (kind : ℕ) (bytes : List ℕ) (e : Entry) (left : List ℕ) : Type 0 where
    is : kind ∷ bytes ≡ bytes_of_entry e ++ left
    good : EntryInRange n e
    bytes_left : Bytes left

  began_only : (bytes : List ℕ) (e : Entry) (left : List ℕ) → Bytes bytes → began_in bytes ≡ Ok (e, left) → After 0 bytes e left
  began_only bytes x left b h =
      let s = step (boxes_in bytes) (λ boxes mid. onward (below boxes mid) (λ me. give (Began boxes me))) x left h in
      let q = boxes_only bytes s.value s.left b s.was in
      let t = step (below s.value s.left) (λ me. give (Began s.value me)) x left s.then in
      let r = below_read s.value s.left t.value t.left q.bytes_left t.was in
      let e = both (Began s.value t.value) x t.left left t.then in
      let made : After 0 bytes (Began s.value t.value) left =
      record {
        is = ap (λ z. 0 ∷ z) (q.is ∙ ap (λ z. s.value ∷ z) (r.is ∙ ap (λ z. t.value ∷ z) e.1));
        good = (q.some, q.few, r.low);
        bytes_left = subst Bytes e.1 r.bytes_left;
      } in
      subst (λ y. After 0 bytes y left) e.0 made

  said_only : (bytes : List ℕ) (e : Entry) (left : List ℕ) → Bytes bytes → onward (counted_in n bytes) (λ w. give (Said w)) ≡ Ok (e, left) → After 1 bytes e left
  said_only bytes x left b h =
      let s = step (counted_in n bytes) (λ w. give (Said w)) x left h in
      let i = counted_only bytes s.value s.left b s.was in
      let e = both (Said s.value) x s.left left s.then in
      let made : After 1 bytes (Said s.value) left = record { is = ap (λ z. 1 ∷ z) (i.is ∙ ap (λ z. bytes_of_word s.value ++ z) e.1); good = i.good; bytes_left = subst Bytes e.1 i.bytes_left } in
      subst (λ y. After 1 bytes y left) e.0 made

  taken_only : (bytes : List ℕ) (e : Entry) (left : List ℕ) → Bytes bytes → onward (counted_in n bytes) (λ w. give (Taken w)) ≡ Ok (e, left) → After 2 bytes e left
  taken_only bytes x left b h =
      let s = step (counted_in n bytes) (λ w. give (Taken w)) x left h in
      let i = counted_only bytes s.value s.left b s.was in
      let e = both (Taken s.value) x s.left left s.then in
      let made : After 2 bytes (Taken s.value) left = record { is = ap (λ z. 2 ∷ z) (i.is ∙ ap (λ z. bytes_of_word s.value ++ z) e.1); good = i.good; bytes_left = subst Bytes e.1 i.bytes_left } in
      subst (λ y. After 2 bytes y left) e.0 made

  refused_only : (bytes : List ℕ) (e : Entry) (left : List ℕ) → Bytes bytes → onward (byte bytes) (λ k. give (Refused k)) ≡ Ok (e, left) → After 3 bytes e left
  refused_only bytes x left b h =
      let s = step (byte bytes) (λ k. give (Refused k)) x left h in
      let r = byte_read bytes s.value s.left b s.was in
      let e = both (Refused s.value) x s.left left s.then in
      let made : After 3 bytes (Refused s.value) left = record { is = ap (λ z. 3 ∷ z) (r.is ∙ ap (λ z. s.value ∷ z) e.1); good = r.fits; bytes_left = subst Bytes e.1 r.bytes_left } in
      subst (λ y. After 3 bytes y left) e.0 made

  no_entry : (bytes : List ℕ) (e : Entry) (left : List ℕ) → wrong Form bytes ≡ Ok (e, left) → ⊥
  no_entry bytes e left h = let z : ◌≡◌ {A = ℕ} 0 1 = cc in omega arith

  abbrev said_in : Read Entry
  said_in bytes = onward (counted_in n bytes) (λ w. give (Said w))

  abbrev taken_in : Read Entry
  taken_in bytes = onward (counted_in n bytes) (λ w. give (Taken w))

  abbrev refused_in : Read Entry
  refused_in bytes = onward (byte bytes) (λ k. give (Refused k))

  kind_is : (kind k : ℕ) (bytes : List ℕ) (e : Entry) (left : List ℕ) → eqb kind k ≡ true → After k bytes e left → After kind bytes e left
  kind_is kind k bytes e left t o = subst (λ j. After j bytes e left) (sym (eqb-true kind k t)) o

  entry_only : (kind : ℕ) (bytes : List ℕ) (e : Entry) (left : List ℕ) → Bytes bytes → entry_in n kind bytes ≡ Ok (e, left) → After kind bytes e left
  entry_only kind bytes e left b h =
      ⊎_elim (λ p. kind_is kind 0 bytes e left p.0 (began_only bytes e left b p.1))
      (λ p. ⊎_elim (λ p. kind_is kind 1 bytes e left p.0 (said_only bytes e left b p.1))
      (λ p. ⊎_elim (λ p. kind_is kind 2 bytes e left p.0 (taken_only bytes e left b p.1))
      (λ p. ⊎_elim (λ p. kind_is kind 3 bytes e left p.0 (refused_only bytes e left b p.1))
      (λ p. absurd (no_entry bytes e left p.1))
      (either (eqb kind 3) refused_in (wrong Form) bytes (e, left) p.1))
      (either (eqb kind 2) taken_in (cond (eqb kind 3) refused_in (wrong Form)) bytes (e, left) p.1))
      (either (eqb kind 1) said_in (cond (eqb kind 2) taken_in (cond (eqb kind 3) refused_in (wrong Form))) bytes (e, left) p.1))
      (either (eqb kind 0) began_in (cond (eqb kind 1) said_in (cond (eqb kind 2) taken_in (cond (eqb kind 3) refused_in (wrong Form)))) bytes (e, left) h)

  abbrev make_line : ℕ → Entry → Line
  make_line tick what = record { tick = tick; what = what }

  -- a line that is accepted is in range, and its bytes are those written for it
  pub line_only : (bytes : List ℕ) (l : Line) (left : List ℕ) → Bytes bytes → line_in n bytes ≡ Ok (l, left) → Item bytes_of_line (LineInRange n) bytes l left
  line_only bytes l left k h =
      let s = step (byte bytes) (λ kind mid. onward (unless Form (eqb kind 5) mid) (λ _ mid. onward (number 4 mid) (λ tick mid. onward (byte mid) (λ what mid. onward (entry_in n what mid) (λ e. give (make_line tick e)))))) l left h in
      let p = byte_read bytes s.value s.left k s.was in
      let t = test Form (eqb s.value 5) (λ mid. onward (number 4 mid) (λ tick mid. onward (byte mid) (λ what mid. onward (entry_in n what mid) (λ e. give (make_line tick e))))) s.left l left s.then in
      let a = step (number 4 s.left) (λ tick mid. onward (byte mid) (λ what mid. onward (entry_in n what mid) (λ e. give (make_line tick e)))) l left t.then in
      let q = number_read 4 s.left a.value a.left p.bytes_left a.was in
      let c = step (byte a.left) (λ what mid. onward (entry_in n what mid) (λ e. give (make_line a.value e))) l left a.then in
      let r = byte_read a.left c.value c.left q.bytes_left c.was in
      let d = step (entry_in n c.value c.left) (λ e. give (make_line a.value e)) l left c.then in
      let o = entry_only c.value c.left d.value d.left r.bytes_left d.was in
      let e = both (make_line a.value d.value) l d.left left d.then in
      let made : Item bytes_of_line (LineInRange n) bytes (make_line a.value d.value) left =
      record {
        is =
            p.is
            ∙ ap₂ (λ x xs. x ∷ xs) (eqb-true s.value 5 t.held)
            (q.is
            ∙ (ap (λ z. octets 4 a.value ++ z) (r.is ∙ (o.is ∙ ap (λ z. bytes_of_entry d.value ++ z) e.1))
            ∙ sym (append_assoc (octets 4 a.value) (bytes_of_entry d.value) left)));
        good = record { tick = q.fits; entry = o.good };
        bytes_left = subst Bytes e.1 o.bytes_left;
      } in
      subst (λ x. Item bytes_of_line (LineInRange n) bytes x left) e.0 made

-- how long the part in front is, from what is left
pub front_of : (front left bytes : List ℕ) → bytes ≡ front ++ left → (length left ≤ length bytes) × (take (length bytes - length left) bytes ≡ front) × (drop (length bytes - length left) bytes ≡ left) × (length bytes - length left ≡ length front)
front_of front left bytes e =
    let l : length bytes ≡ length front + length left = ap length e ∙ length-append front left in
    let d : length bytes - length left ≡ length front = omega arith in
    (omega arith, ap₂ take d e ∙ take_at front left (length front) refl, ap₂ drop d e ∙ drop_at front left (length front) refl, d)

-- what was put at the front, taken again
pub front_put : (k : ℕ) (bytes before after : List ℕ) → k ≡ length bytes → after ≡ put 0 bytes before → take k after ≡ bytes
front_put k bytes before after n e = ap₂ take n e ∙ take_put bytes before

-- a frame whose bytes were written reads as it again
pub wrote_again : (f : Told) (before after : List ℕ) (r : Option ℕ) → Wrote (bytes_of_frame f) before r after → FrameAgain f r after
wrote_again f before after (Some k) w = λ n few r. ap (frame_in n) (front_put k (bytes_of_frame f) before after w.0 w.1) ∙ frame_again_lem n few f r
wrote_again f before after None w = tt
