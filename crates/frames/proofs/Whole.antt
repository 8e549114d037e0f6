-- Whole frames and settings: written and read, and only so.
use Rattle.std.proofs.Common.{◌≡◌, ℕ, ◌*◌, ◌^◌, ◌<◌, ◌≤◌, Bool, true, false, cond, ◌&&◌, eqb, leb, ◌⊎◌, List, [], ◌∷◌, ◌++◌, length, get_or, Ok, Err, Result, sym, refl, ap, ◌∙◌, subst, ap₂, inl, inr, ⊎_elim, append-nil, arith}
use Rattle.std.specs.List.{flat_map}
use Rattle.std.proofs.lemmas.List.{take_all}
use Rattle.std.proofs.lemmas.Bool.{le-leb, leb-true, and_from, and_parts, eqb-true}
use Rattle.octets.specs.declared.Fault.{Fault}
use Rattle.octets.specs.declared.Fault.TheVariants.{Form, Range}
use Rattle.octets.specs.Reads.{Read, onward, unless, give, byte, below, number, many, end}
use Rattle.octets.specs.Writes.{Bytes, octets}
use Rattle.octets.proofs.Puts.{length_octets}
use Rattle.octets.proofs.Parts.{both, step, test, byte_read, end_read}
use Rattle.octets.proofs.Numbers.{number_octets, number_read, below_octet, below_read}
use Rattle.octets.proofs.Many.{Item, many_joined, many_read}
use Rattle.messages.specs.declared.values.Hello.{Hello}
use Rattle.messages.specs.declared.values.Settings.{Settings}
use Rattle.messages.specs.declared.values.Word.{Word}
use Rattle.messages.specs.declared.values.WordId.{WordId}
use Rattle.messages.specs.Packets.{Seens}
use Rattle.messages.specs.Packets.{Words}
use Rattle.wordframes.specs.Ranges.{SeensInRange, WordsInRange, IdInRange, WordInRange}
use Rattle.frames.specs.declared.values.Frame.{Frame}
use Rattle.frames.specs.Ranges.{HelloInRange, SettingsInRange, InRange, OnlyFrame, bytes_of_frame}
use Rattle.wordframes.specs.Reading.{blank_id, blank_word, id_in, low_count, low_word, seens_in, word_in, words_in}
use Rattle.frames.specs.Reading.{Told, a_hello, some_words, some_seen, a_packet, answer_by, boxes_in, frame_in, frame_of, hello_in, packet_in, settings_in, told_by, value_in, wires_in, wrong}
use Rattle.wordframes.specs.Writing.{bytes_of_id, bytes_of_word}
use Rattle.frames.specs.Writing.{bytes_of_hello, bytes_of_settings, bytes_of_wires}
use Rattle.wordframes.proofs.Triples.{triple_written, triple_read}
use Rattle.wordframes.proofs.Batches.{batch_again, batch_only}
use Rattle.wordframes.proofs.Lengths.{length_joined}
use Rattle.wordframes.proofs.Items.{IdFits, WordFits, id_low, low_id, id_again, id_only, word_low, low_word_lem, word_again, word_only}

-- a value alone that came through left something
pub value_ok : {A : Type 0} (r : Result (A × List ℕ) Fault) (x : A) → value_in r ≡ Ok x → (left : List ℕ) × (r ≡ Ok (x, left))
value_ok {A} (Ok t) x h = let e : t.0 ≡ x = cc in (t.1, ap {B = Result (A × List ℕ) Fault} (λ y. Ok (y, t.1)) e)
value_ok (Err e) x h = let z : ◌≡◌ {A = ℕ} 0 1 = cc in absurd (omega arith)

-- one of two readers came through
pub either : {A : Type 0} (b : Bool) (p q : Read A) (bytes : List ℕ) (t : A × List ℕ) → cond b p q bytes ≡ Ok t → ((b ≡ true) × (p bytes ≡ Ok t)) ⊎ ((b ≡ false) × (q bytes ≡ Ok t))
either true p q bytes t h = inl (refl, h)
either false p q bytes t h = inr (refl, h)

abbrev make_hello : ℕ → ℕ → ℕ → Hello
make_hello a b c = record { from = a; drawn = b; heard = c }

abbrev make_seens : ℕ → ℕ → List WordId → Seens
make_seens d k items = record { drawn = d; count = k; items = items }

abbrev make_words : ℕ → ℕ → List Word → Words
make_words d k items = record { drawn = d; count = k; items = items }

module _ (n : ℕ) where
  hello_again : (h : Hello) → HelloInRange n h → frame_in n (bytes_of_hello h) ≡ Ok (a_hello h)
  hello_again h r =
      let t = triple_written make_hello n h.from h.drawn h.heard [] (record { box = r.box; some = r.some_drawn; first = r.drawn; second = r.heard }) in
      ap (frame_in n) (sym (append-nil (bytes_of_hello h))) ∙ rw t

  seens_again : (s : Seens) → SeensInRange n s → frame_in n (bytes_of_frame (some_seen s)) ≡ Ok (some_seen s)
  seens_again s r =
      let b = batch_again (id_in n) bytes_of_id (IdFits n) (IdInRange n) blank_id low_count make_seens refl (id_low n) (low_id n) (id_again n) (id_only n) s.drawn s.count s.items
      (record { some_drawn = r.some_drawn; drawn_fits = r.drawn; some = r.some; few = r.few; four = r.four; good = r.each; blanks = r.blank }) in
      rw b

module _ (n : ℕ) (few : n ≤ 64) where
  words_again : (w : Words) → WordsInRange n w → frame_in n (bytes_of_frame (some_words w)) ≡ Ok (some_words w)
  words_again w r =
      let b = batch_again (word_in n) bytes_of_word (WordFits n) (WordInRange n) blank_word low_word make_words refl (word_low n) (low_word_lem n) (word_again n) (word_only n few) w.drawn w.count w.items
      (record { some_drawn = r.some_drawn; drawn_fits = r.drawn; some = r.some; few = r.few; four = r.four; good = r.each; blanks = r.blank }) in
      rw b

  -- a frame in range, written and read
  pub frame_again_lem : (f : Told) → InRange n f → frame_in n (bytes_of_frame f) ≡ Ok f
  frame_again_lem (a_hello h) r = hello_again n h r
  frame_again_lem (some_words w) r = words_again w r
  frame_again_lem (some_seen s) r = seens_again n s r
  frame_again_lem (a_packet bytes) r = refl

  -- the frame that bytes of a kind were read as
  abbrev Only : ℕ → List ℕ → Told → Type 0
  Only kind bytes f = (kind ∷ bytes ≡ bytes_of_frame f) × InRange n f

  hello_only : (bytes : List ℕ) (f : Told) (left : List ℕ) → Bytes bytes → onward (hello_in n bytes) (λ h mid. onward (end mid) (λ _. give (a_hello h))) ≡ Ok (f, left) → Only 1 bytes f
  hello_only bytes f left b h =
      let s = step (hello_in n bytes) (λ h mid. onward (end mid) (λ _. give (a_hello h))) f left h in
      let t = triple_read make_hello n bytes s.value s.left b s.was in
      let u = step (end s.left) (λ _. give (a_hello s.value)) f left s.then in
      let z = end_read s.left u.left u.value u.was in
      let e = both (a_hello s.value) f u.left left u.then in
      let made : Only 1 bytes (a_hello (make_hello t.a t.b t.c)) = (
        ap (λ z. 1 ∷ z) (t.is ∙ (ap (λ z. (t.a ∷ (octets 8 t.b ++ octets 8 t.c)) ++ z) z.0 ∙ append-nil (t.a ∷ (octets 8 t.b ++ octets 8 t.c)))),
        record { box = t.good.box; some_drawn = t.good.some; drawn = t.good.first; heard = t.good.second },
      ) in
      subst (Only 1 bytes) (ap a_hello t.value ∙ e.0) made

  seens_only : (bytes : List ℕ) (f : Told) (left : List ℕ) → Bytes bytes → onward (seens_in n bytes) (λ s. give (some_seen s)) ≡ Ok (f, left) → Only 3 bytes f
  seens_only bytes f left b h =
      let s = step (seens_in n bytes) (λ s. give (some_seen s)) f left h in
      let t = batch_only (id_in n) bytes_of_id (IdFits n) (IdInRange n) blank_id low_count make_seens refl (id_low n) (low_id n) (id_again n) (id_only n) bytes s.value s.left b s.was in
      let e = both (some_seen s.value) f s.left left s.then in
      let g = t.good in
      let made : Only 3 bytes (some_seen (make_seens t.drawn t.count t.items)) = (
        ap (λ z. 3 ∷ z) t.is,
        record { some_drawn = g.some_drawn; drawn = g.drawn_fits; some = g.some; few = g.few; four = g.four; each = g.good; blank = g.blanks },
      ) in
      subst (Only 3 bytes) (ap some_seen t.value ∙ e.0) made

  words_only : (bytes : List ℕ) (f : Told) (left : List ℕ) → Bytes bytes → onward (words_in n bytes) (λ w. give (some_words w)) ≡ Ok (f, left) → Only 2 bytes f
  words_only bytes f left b h =
      let s = step (words_in n bytes) (λ w. give (some_words w)) f left h in
      let t = batch_only (word_in n) bytes_of_word (WordFits n) (WordInRange n) blank_word low_word make_words refl (word_low n) (low_word_lem n) (word_again n) (word_only n few) bytes s.value s.left b s.was in
      let e = both (some_words s.value) f s.left left s.then in
      let g = t.good in
      let made : Only 2 bytes (some_words (make_words t.drawn t.count t.items)) = (
        ap (λ z. 2 ∷ z) t.is,
        record { some_drawn = g.some_drawn; drawn = g.drawn_fits; some = g.some; few = g.few; four = g.four; each = g.good; blank = g.blanks },
      ) in
      subst (Only 2 bytes) (ap some_words t.value ∙ e.0) made

  packet_only : (bytes : List ℕ) (f : Told) (left : List ℕ) → packet_in bytes ≡ Ok (f, left) → Only 4 bytes f
  packet_only bytes f left h = subst (Only 4 bytes) (both (a_packet bytes) f [] left h).0 (refl, tt)

  no_frame : (bytes : List ℕ) (f : Told) (left : List ℕ) → wrong Form bytes ≡ Ok (f, left) → ⊥
  no_frame bytes f left h = let z : ◌≡◌ {A = ℕ} 0 1 = cc in omega arith

  kind_is : (kind k : ℕ) (bytes : List ℕ) (f : Told) → eqb kind k ≡ true → Only k bytes f → Only kind bytes f
  kind_is kind k bytes f e o = subst (λ j. Only j bytes f) (sym (eqb-true kind k e)) o

  kind_only : (kind : ℕ) (bytes : List ℕ) (f : Told) (left : List ℕ) → Bytes bytes → frame_of n kind bytes ≡ Ok (f, left) → Only kind bytes f
  kind_only kind bytes f left b h =
      ⊎_elim (λ p. kind_is kind 1 bytes f p.0 (hello_only bytes f left b p.1))
      (λ p. ⊎_elim (λ p. kind_is kind 2 bytes f p.0 (words_only bytes f left b p.1))
      (λ p. ⊎_elim (λ p. kind_is kind 3 bytes f p.0 (seens_only bytes f left b p.1))
      (λ p. ⊎_elim (λ p. kind_is kind 4 bytes f p.0 (packet_only bytes f left p.1))
      (λ p. absurd (no_frame bytes f left p.1))
      (either (eqb kind 4) packet_in (wrong Form) bytes (f, left) p.1))
      (either (eqb kind 3) (λ bytes. onward (seens_in n bytes) (λ s. give (some_seen s))) (cond (eqb kind 4) packet_in (wrong Form)) bytes (f, left) p.1))
      (either (eqb kind 2) (λ bytes. onward (words_in n bytes) (λ w. give (some_words w))) (cond (eqb kind 3) (λ bytes. onward (seens_in n bytes) (λ s. give (some_seen s))) (cond (eqb kind 4) packet_in (wrong Form))) bytes (f, left) p.1))
      (either (eqb kind 1) (λ bytes. onward (hello_in n bytes) (λ h mid. onward (end mid) (λ _. give (a_hello h)))) (cond (eqb kind 2) (λ bytes. onward (words_in n bytes) (λ w. give (some_words w))) (cond (eqb kind 3) (λ bytes. onward (seens_in n bytes) (λ s. give (some_seen s))) (cond (eqb kind 4) packet_in (wrong Form)))) bytes (f, left) h)

  -- whatever is accepted is in range, and its bytes are those written for it
  pub frame_only : (bytes : List ℕ) (f : Told) → Bytes bytes → frame_in n bytes ≡ Ok f → (bytes ≡ bytes_of_frame f) × InRange n f
  frame_only bytes f b h =
      let v = value_ok (onward (byte bytes) (frame_of n)) f h in
      let s = step (byte bytes) (frame_of n) f v.0 v.1 in
      let r = byte_read bytes s.value s.left b s.was in
      let o = kind_only s.value s.left f v.0 r.bytes_left s.then in
      (r.is ∙ o.0, o.1)

  pub answer_only : (bytes : List ℕ) (r : Result Frame Fault) → Bytes bytes → frame_in n bytes ≡ answer_by r → OnlyFrame n bytes r
  answer_only bytes (Ok f) b h = frame_only bytes (told_by f) b h
  answer_only bytes (Err e) b h = tt

-- the costs of the wires
wires_again : (costs rest : List ℕ) → length costs ≡ 8 → ((i : ℕ) → i < 8 → get_or costs i 0 < 2 ^ 16) → wires_in (bytes_of_wires costs ++ rest) ≡ Ok (costs, rest)
wires_again costs rest l f =
    subst (λ ys. many 8 (number 2) (flat_map (octets 2) ys ++ rest) ≡ Ok (ys, rest)) (take_all 8 costs (omega arith))
    (many_joined (number 2) (octets 2) costs 0 (λ k h rest. number_octets 2 (get_or costs k 0) rest (f k (omega arith))) 8 (omega arith) rest)

wire_only : (bytes : List ℕ) (x : ℕ) (left : List ℕ) → Bytes bytes → number 2 bytes ≡ Ok (x, left) → Item (octets 2) (λ x. x < 2 ^ 16) bytes x left
wire_only bytes x left b h = let r = number_read 2 bytes x left b h in record { is = r.is; good = r.fits; bytes_left = r.bytes_left }

pub boxes_again : (k : ℕ) (rest : List ℕ) → 1 ≤ k → k ≤ 64 → boxes_in (k ∷ rest) ≡ Ok (k, rest)
boxes_again k rest a b = let t : (leb 1 k && leb k 64) ≡ true = and_from _ _ (le-leb 1 k a) (le-leb k 64 b) in rw t

pub record Boxes (bytes : List ℕ) (k : ℕ) (left : List ℕ) : Type 0 where
  pub is : bytes ≡ k ∷ left
  pub some : 1 ≤ k
  pub few : k ≤ 64
  pub bytes_left : Bytes left

pub boxes_only : (bytes : List ℕ) (k : ℕ) (left : List ℕ) → Bytes bytes → boxes_in bytes ≡ Ok (k, left) → Boxes bytes k left
boxes_only bytes k left b h =
    let s = step (byte bytes) (λ x mid. onward (unless Range (leb 1 x && leb x 64) mid) (λ _. give x)) k left h in
    let r = byte_read bytes s.value s.left b s.was in
    let t = test Range (leb 1 s.value && leb s.value 64) (give s.value) s.left k left s.then in
    let a = and_parts (leb 1 s.value) (leb s.value 64) t.held in
    let e = both s.value k s.left left t.then in
    record {
      is = r.is ∙ ap₂ (λ x xs. x ∷ xs) e.0 e.1;
      some = subst (λ x. 1 ≤ x) e.0 (leb-true 1 s.value a.0);
      few = subst (λ x. x ≤ 64) e.0 (leb-true s.value 64 a.1);
      bytes_left = subst Bytes e.1 r.bytes_left;
    }

pub settings_again_lem : (s : Settings) → SettingsInRange s → value_in (settings_in (bytes_of_settings s)) ≡ Ok s
settings_again_lem s r =
    let w : wires_in (bytes_of_wires s.costs) ≡ Ok (s.costs, []) = ap wires_in (sym (append-nil (bytes_of_wires s.costs))) ∙ wires_again s.costs [] r.wires r.costs in
    rw (boxes_again s.boxes (s.me ∷ bytes_of_wires s.costs) r.some r.few, below_octet s.boxes s.me (bytes_of_wires s.costs) r.me, w)

abbrev make_settings : ℕ → ℕ → List ℕ → Settings
make_settings boxes me costs = record { boxes = boxes; me = me; costs = costs }

pub settings_only : (bytes : List ℕ) (s : Settings) → Bytes bytes → value_in (settings_in bytes) ≡ Ok s → (bytes ≡ bytes_of_settings s) × SettingsInRange s
settings_only bytes s k h =
    let v = value_ok (settings_in bytes) s h in
    let left = v.0 in
    let a = step (byte bytes) (λ kind mid. onward (unless Form (eqb kind 6) mid) (λ _ mid. onward (boxes_in mid) (λ boxes mid. onward (below boxes mid) (λ me mid. onward (wires_in mid) (λ costs mid. onward (end mid) (λ _. give (make_settings boxes me costs))))))) s left v.1 in
    let p = byte_read bytes a.value a.left k a.was in
    let t = test Form (eqb a.value 6) (λ mid. onward (boxes_in mid) (λ boxes mid. onward (below boxes mid) (λ me mid. onward (wires_in mid) (λ costs mid. onward (end mid) (λ _. give (make_settings boxes me costs)))))) a.left s left a.then in
    let b = step (boxes_in a.left) (λ boxes mid. onward (below boxes mid) (λ me mid. onward (wires_in mid) (λ costs mid. onward (end mid) (λ _. give (make_settings boxes me costs))))) s left t.then in
    let q = boxes_only a.left b.value b.left p.bytes_left b.was in
    let c = step (below b.value b.left) (λ me mid. onward (wires_in mid) (λ costs mid. onward (end mid) (λ _. give (make_settings b.value me costs)))) s left b.then in
    let r = below_read b.value b.left c.value c.left q.bytes_left c.was in
    let d = step (wires_in c.left) (λ costs mid. onward (end mid) (λ _. give (make_settings b.value c.value costs))) s left c.then in
    let w = many_read (number 2) (octets 2) (λ x. x < 2 ^ 16) 0 wire_only 8 c.left d.value d.left r.bytes_left d.was in
    let u = step (end d.left) (λ _. give (make_settings b.value c.value d.value)) s left d.then in
    let z = end_read d.left u.left u.value u.was in
    let e = both (make_settings b.value c.value d.value) s u.left left u.then in
    let made : (bytes ≡ bytes_of_settings (make_settings b.value c.value d.value)) × SettingsInRange (make_settings b.value c.value d.value) = (
      p.is
          ∙ ap₂ (λ x xs. x ∷ xs) (eqb-true a.value 6 t.held)
          (q.is ∙ ap (λ xs. b.value ∷ xs) (r.is ∙ ap (λ xs. c.value ∷ xs) (w.is ∙ (ap (λ xs. bytes_of_wires d.value ++ xs) z.0 ∙ append-nil (bytes_of_wires d.value))))),
      record { some = q.some; few = q.few; me = r.low; wires = w.long; costs = w.good },
    ) in
    subst (λ s. (bytes ≡ bytes_of_settings s) × SettingsInRange s) e.0 made

pub length_wires : (costs : List ℕ) → length (bytes_of_wires costs) ≡ 2 * length costs
length_wires costs = length_joined (octets 2) 2 (λ x. length_octets 2 x) costs
