-- A line more is read, and gives what it notes.
use Rattle.std.proofs.Common.{◌≡◌, ℕ, ◌^◌, ◌<◌, ◌≤◌, List, [], ◌∷◌, ◌++◌, length, sym, refl, ap, ◌∙◌, subst, append_assoc, append-nil, arith}
use Rattle.std.specs.List.{flat_map}
use Rattle.messages.specs.declared.values.Word.{Word}
use Rattle.model.specs.Flood.{row}
use Rattle.frames.specs.declared.values.Entry.{Entry}
use Rattle.frames.specs.declared.values.Entry.TheVariants.{Began as BeganEntry, Refused as RefusedEntry, Said as SaidEntry, Taken as TakenEntry}
use Rattle.frames.specs.declared.values.Line.{Line}
use Rattle.frames.specs.Ranges.{EntryInRange, LineInRange}
use Rattle.frames.specs.Writing.{bytes_of_line}
use Rattle.wordframes.specs.Ranges.{WordInRange}
use Rattle.journal.specs.Replay.{Known, begun, noted as read_as, replay, whole}
use Rattle.journal.proofs.Replays.{grows}
use Rattle.linkmodel.specs.Station.{Item, Station as Whole}
use Rattle.station.specs.Ticking.{item_of}
use Rattle.outbox.proofs.InPlace.{line_small}
use Rattle.node.specs.Book.{Began, Note, Refused, Said, Taken, book_bytes, line_bytes}
use Rattle.node.specs.Giving.{note_of, noted}
use Rattle.node.proofs.Written.{line_as}
use Rattle.truth.specs.Book.{book_in}
use Rattle.truth.specs.Truth.{Keeps, Recalls, known_in}
use Rattle.truth.proofs.Past.{past}
use Rattle.truth.proofs.Booked.{Booked, booked_all, booked_line, booked_then}

-- what is known after a note
abbrev pub with_item : Item → Known → Known
with_item x k = record { n = k.n; me = k.me; word = row x.about x.entry k.word }

abbrev pub after_note : Note → Known → Known
after_note (Began n me) k = begun n me
after_note (Said x) k = with_item x k
after_note (Taken x) k = with_item x k
after_note (Refused number) k = k

-- a word that a line can hold
pub record Readable (n : ℕ) (x : Item) : Type 0 where
  pub word : Word
  pub is : item_of word ≡ x
  pub good : WordInRange n word

-- and a note
abbrev pub Writable : ℕ → Note → Type 0
Writable n (Began boxes me) = (1 ≤ boxes) × (boxes ≤ 64) × (me < boxes)
Writable n (Said x) = Readable n x
Writable n (Taken x) = Readable n x
Writable n (Refused number) = number < 2 ^ 8

record Entered (n : ℕ) (x : Note) : Type 0 where
  pub entry : Entry
  pub is : noted entry ≡ x
  pub good : EntryInRange n entry
  pub then : (k : Known) → read_as entry k ≡ after_note x k

entered : (n : ℕ) (x : Note) → Writable n x → Entered n x
entered n (Began boxes me) w = record { entry = BeganEntry boxes me; is = refl; good = w; then = λ k. refl }
entered n (Said x) w = record { entry = SaidEntry w.word; is = ap (λ (y : Item). Said y) w.is; good = w.good; then = λ k. ap (λ (y : Item). with_item y k) w.is }
entered n (Taken x) w = record { entry = TakenEntry w.word; is = ap (λ (y : Item). Taken y) w.is; good = w.good; then = λ k. ap (λ (y : Item). with_item y k) w.is }
entered n (Refused number) w = record { entry = RefusedEntry number; is = refl; good = w; then = λ k. refl }

line_of : (t : ℕ) (n : ℕ) (x : Note) (e : Entered n x) → bytes_of_line (record { tick = t; what = e.entry }) ≡ line_bytes t x
line_of t n x e = line_as t e.entry ∙ ap (λ (y : Note). line_bytes t y) e.is

-- a line more in a journal that was read whole
pub line_kept : (until : ℕ) (book : List ℕ) (k : Known) (t : ℕ) (x : Note) → t < 2 ^ 32 → Writable k.n x → t ≤ until → replay until book ≡ whole k → replay until (book ++ line_bytes t x) ≡ whole (after_note x k)
line_kept until book k t x low w l h =
    let e = entered k.n x w in
    let line : Line = record { tick = t; what = e.entry } in
    let good : LineInRange k.n line = record { tick = low; entry = e.good } in
    ap (λ z. replay until (book ++ z)) (sym (line_of t k.n x e)) ∙ (grows until book k line h good l ∙ ap whole (e.then k))

pub line_short : (n t : ℕ) (x : Note) → Writable n x → length (line_bytes t x) ≤ 216
line_short n t x w = let e = entered n x w in omega (arith, ap length (line_of t n x e), line_small (record { tick = t; what = e.entry }))

pub booked_note : (n t : ℕ) (x : Note) → Writable n x → Booked (book_bytes t x) (line_bytes t x)
booked_note n t x w = booked_line t x (omega (arith, line_short n t x w))

-- and for many notes, one after the other
unfoldable pub after_notes : List Note → Known → Known
after_notes [] k = k
after_notes (x ∷ xs) k = after_notes xs (after_note x k)

unfoldable pub AllWritable : List Note → Known → Type 0
AllWritable [] k = Unit {0}
AllWritable (x ∷ xs) k = Writable k.n x × AllWritable xs (after_note x k)

lines_kept : (until : ℕ) (book : List ℕ) (k : Known) (t : ℕ) (xs : List Note) → t < 2 ^ 32 → AllWritable xs k → t ≤ until → replay until book ≡ whole k → replay until (book ++ flat_map (line_bytes t) xs) ≡ whole (after_notes xs k)
unfolding after_notes AllWritable
lines_kept until book k t [] low w l h = ap (replay until) (append-nil book) ∙ h
lines_kept until book k t (x ∷ xs) low w l h =
    ap (replay until) (sym (append_assoc book (line_bytes t x) (flat_map (line_bytes t) xs)))
    ∙ lines_kept until (book ++ line_bytes t x) (after_note x k) t xs low w.1 l (line_kept until book k t x low w.0 l h)

booked_notes : (k : Known) (t : ℕ) (xs : List Note) → AllWritable xs k → Booked (flat_map (book_bytes t) xs) (flat_map (line_bytes t) xs)
unfolding AllWritable
booked_notes k t [] w = λ rest. refl
booked_notes k t (x ∷ xs) w =
    booked_then (book_bytes t x) (line_bytes t x) (flat_map (book_bytes t) xs) (flat_map (line_bytes t) xs) (booked_note k.n t x w.0) (booked_notes (after_note x k) t xs w.1)

-- lines of a tick that is later than the one up to which is replayed
lines_past : (until : ℕ) (book : List ℕ) (s : Known) (t : ℕ) (xs : List Note) (k : Known) → until < t → t < 2 ^ 32 → AllWritable xs s → replay t book ≡ whole s → Recalls until book k → Recalls until (book ++ flat_map (line_bytes t) xs) k
unfolding AllWritable
lines_past until book s t [] k l low w h c = subst (λ z. Recalls until z k) (sym (append-nil book)) c
lines_past until book s t (x ∷ xs) k l low w h c =
    let e = entered s.n x w.0 in
    let line : Line = record { tick = t; what = e.entry } in
    let good : LineInRange s.n line = record { tick = low; entry = e.good } in
    let more = flat_map (line_bytes t) xs in
    subst (λ z. Recalls until (book ++ (z ++ more)) k) (line_of t s.n x e) (past until book s k line more l good h c)

-- lines of a tick, and what the box became by them
lines_so : (s r : Whole) (xs : List Note) (given : List ℕ) → book_in given ≡ flat_map (line_bytes r.links.tick) xs → s.links.tick ≤ r.links.tick → r.links.tick < 2 ^ 32 → AllWritable xs (known_in s) → after_notes xs (known_in s) ≡ known_in r → Keeps s r given
lines_so s r xs given b ticks low w e = record {
  ticks = ticks;
  tells = λ book h until l. ap (λ z. replay until (book ++ z)) b ∙ (lines_kept until book (known_in s) r.links.tick xs low w l (h until (omega (arith, ticks))) ∙ ap whole e);
  recalls = λ until book k l h c. subst (λ z. Recalls until (book ++ z) k) (sym b) (lines_past until book (known_in s) r.links.tick xs k l low w (h r.links.tick ticks) c);
}

-- nothing goes into the journal
pub nothing_kept : (s r : Whole) (given : List ℕ) → s.links.tick ≤ r.links.tick → r.links.tick < 2 ^ 32 → Booked given [] → known_in s ≡ known_in r → Keeps s r given
unfolding after_notes AllWritable
nothing_kept s r given ticks low b e = lines_so s r [] given (booked_all given [] b) ticks low tt e

-- lines, and then nothing that goes into the journal
pub notes_kept : (s r : Whole) (xs : List Note) (more : List ℕ) → s.links.tick ≤ r.links.tick → r.links.tick < 2 ^ 32 → AllWritable xs (known_in s) → Booked more [] → after_notes xs (known_in s) ≡ known_in r → Keeps s r (flat_map (book_bytes r.links.tick) xs ++ more)
notes_kept s r xs more ticks low w b e =
    let t = r.links.tick in
    lines_so s r xs (flat_map (book_bytes t) xs ++ more)
    (booked_all (flat_map (book_bytes t) xs ++ more) (flat_map (line_bytes t) xs ++ []) (booked_then (flat_map (book_bytes t) xs) (flat_map (line_bytes t) xs) more [] (booked_notes (known_in s) t xs w) b) ∙ append-nil (flat_map (line_bytes t) xs))
    ticks low w e

-- and so for one line
pub note_kept : (s r : Whole) (x : Note) (more : List ℕ) → s.links.tick ≤ r.links.tick → r.links.tick < 2 ^ 32 → Writable s.box.n x → Booked more [] → after_note x (known_in s) ≡ known_in r → Keeps s r (book_bytes r.links.tick x ++ more)
unfolding after_notes AllWritable
note_kept s r x more ticks low w b e = subst (λ z. Keeps s r (z ++ more)) (append-nil (book_bytes r.links.tick x)) (notes_kept s r (x ∷ []) more ticks low (w, tt) b e)

pub just_note : (s r : Whole) (x : Note) → s.links.tick ≤ r.links.tick → r.links.tick < 2 ^ 32 → Writable s.box.n x → after_note x (known_in s) ≡ known_in r → Keeps s r (book_bytes r.links.tick x)
just_note s r x ticks low w e = subst (λ z. Keeps s r z) (append-nil (book_bytes r.links.tick x)) (note_kept s r x [] ticks low w (λ rest. refl) e)

pub refused_kept : (s : Whole) (number : ℕ) (more : List ℕ) → s.links.tick < 2 ^ 32 → number < 2 ^ 8 → Booked more [] → Keeps s s (note_of s (Refused number) ++ more)
refused_kept s number more low w b = note_kept s s (Refused number) more (omega arith) low w b refl

pub just_refused : (s : Whole) (number : ℕ) → s.links.tick < 2 ^ 32 → number < 2 ^ 8 → Keeps s s (note_of s (Refused number))
just_refused s number low w = just_note s s (Refused number) (omega arith) low w refl
