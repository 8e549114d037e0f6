-- A buffer after bytes were written again, and how long a journal line can be.
use Rattle.std.proofs.Common.{◌≡◌, ℕ, ◌+◌, ◌-◌, ◌<◌, ◌≤◌, true, false, leb, List, ◌∷◌, length, take, drop, Some, None, Option, unwrap_or, ap, arith, length-append, length-drop, length-take}
use Rattle.std.proofs.lemmas.Bool.{le-leb, lt-leb}
use Rattle.messages.specs.declared.values.Word.{Word}
use Rattle.octets.specs.Writes.{Wrote, octets, put}
use Rattle.octets.proofs.Puts.{length_octets}
use Rattle.wordframes.specs.Ranges.{WordInRange}
use Rattle.wordframes.specs.Writing.{bytes_of_id, bytes_of_road, bytes_of_roads, bytes_of_word, roads_to}
use Rattle.wordframes.proofs.Lengths.{length_id, length_joined}
use Rattle.frames.specs.declared.values.Entry.{Entry}
use Rattle.frames.specs.declared.values.Entry.TheVariants.{Began, Said, Taken, Refused}
use Rattle.frames.specs.declared.values.Line.{Line}
use Rattle.frames.specs.Ranges.{EntryInRange, LineInRange}
use Rattle.frames.specs.Writing.{bytes_of_entry, bytes_of_line}
use Rattle.exports.specs.Verdicts.{again, fitting}

-- bytes that stand in a buffer are no longer than it
length_front : (bytes old : List ℕ) → length (put 0 bytes old) ≡ length bytes + (length old - length bytes)
unfolding put
length_front bytes old = simp (length-append, length-take, length-drop) (omega arith)

pub wrote_again : (bytes before after : List ℕ) (r : Option ℕ) → length after ≡ length before → Wrote bytes before r after → after ≡ again true bytes before
wrote_again bytes before after (Some k) l w =
    let fits : leb (length bytes) (length before) ≡ true = le-leb _ _ (omega (arith, length_front bytes before, ap length w.1)) in
    rw fits w.1
wrote_again bytes before after None l w = let short : leb (length bytes) (length before) ≡ false = lt-leb _ _ w.0 in rw short w.1

pub wrote_fitting : (bytes before after : List ℕ) (r : Option ℕ) → length after ≡ length before → Wrote bytes before r after → unwrap_or r 0 ≡ fitting bytes before
wrote_fitting bytes before after (Some k) l w =
    let fits : leb (length bytes) (length before) ≡ true = le-leb _ _ (omega (arith, length_front bytes before, ap length w.1)) in
    rw fits w.0
wrote_fitting bytes before after None l w = let short : leb (length bytes) (length before) ≡ false = lt-leb _ _ w.0 in rw short

short_word : (n : ℕ) (w : Word) → WordInRange n w → length (bytes_of_word w) ≤ 42
short_word n w r =
    let a = length-append (bytes_of_id w.id) (length (roads_to w.costs 64) ∷ bytes_of_roads w.costs) in
    let j = length_joined bytes_of_road 3 (λ road. simp length_octets (omega arith)) (roads_to w.costs 64) in
    omega (arith, a, j, length_id w.id, r.few)

short_entry : (n : ℕ) (e : Entry) → EntryInRange n e → length (bytes_of_entry e) ≤ 43
short_entry n (Began boxes me) r = omega arith
short_entry n (Said w) r = omega (arith, short_word n w r)
short_entry n (Taken w) r = omega (arith, short_word n w r)
short_entry n (Refused number) r = omega arith

pub short_line : (n : ℕ) (l : Line) → LineInRange n l → length (bytes_of_line l) < 256
short_line n l r =
    let a = length-append (octets 4 l.tick) (bytes_of_entry l.what) in
    omega (arith, a, length_octets 4 l.tick, short_entry n l.what r.entry)

-- what was taken from the front, by what is left
pub taken_length : (bytes : List ℕ) (k : ℕ) → k ≡ length (take k bytes) → k ≡ length bytes - length (drop k bytes)
taken_length bytes k e = omega (arith, e, length-take k bytes, length-drop k bytes)
