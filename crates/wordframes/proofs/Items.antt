-- A word's numbers, a word and the wires of a box: written and read, and only so.
use Rattle.std.proofs.Common.{◌≡◌, ℕ, ◌^◌, ◌<◌, ◌≤◌, true, leb, List, ◌∷◌, ◌++◌, length, get_or, replicate, Ok, sym, ap, ◌∙◌, subst, ap₂, append_assoc, arith}
use Rattle.std.specs.List.{flat_map}
use Rattle.std.proofs.lemmas.Bool.{le-leb, leb-true, lt-ltb, ltb-true}
use Rattle.octets.specs.declared.Fault.TheVariants.{Range}
use Rattle.octets.specs.Reads.{onward, unless, give, byte, times}
use Rattle.octets.specs.Writes.{Bytes}
use Rattle.octets.proofs.Parts.{both, step, test, byte_read}
use Rattle.octets.proofs.Many.{Item}
use Rattle.messages.specs.declared.values.Word.{Word}
use Rattle.messages.specs.declared.values.WordId.{WordId}
use Rattle.wordframes.specs.Ranges.{IdInRange, WordInRange}
use Rattle.wordframes.specs.Reading.{id_in, word_in, roads_in, road_onto, low_count, low_word}
use Rattle.wordframes.specs.Writing.{bytes_of_id, bytes_of_road, bytes_of_roads, bytes_of_word, roads_to}
use Rattle.wordframes.proofs.RoadsAgain.{roads_again}
use Rattle.wordframes.proofs.RoadsOnly.{roads_read_lem, roads_past}
use Rattle.wordframes.proofs.Triples.{InTriple, triple_written, triple_read}

abbrev make_id : ℕ → ℕ → ℕ → WordId
make_id a b c = record { about = a; count = b; tag = c }

-- what reading asks of the numbers: the count may still be too large
abbrev pub IdFits : ℕ → WordId → Type 0
IdFits n i = InTriple n i.about i.count i.tag

pub id_low : (n : ℕ) (i : WordId) → IdInRange n i → low_count i ≡ true
id_low n i r = lt-ltb i.count (2 ^ 63) r.count

pub low_id : (n : ℕ) (i : WordId) → IdFits n i → low_count i ≡ true → IdInRange n i
low_id n i f t = record { box = f.box; some_count = f.some; count = ltb-true i.count (2 ^ 63) t; tag = f.second }

pub id_again : (n : ℕ) (i : WordId) → IdInRange n i → (rest : List ℕ) → id_in n (bytes_of_id i ++ rest) ≡ Ok (i, rest)
id_again n i r rest = triple_written make_id n i.about i.count i.tag rest (record { box = r.box; some = r.some_count; first = omega (arith, r.count); second = r.tag })

pub id_only : (n : ℕ) (bytes : List ℕ) (i : WordId) (left : List ℕ) → Bytes bytes → id_in n bytes ≡ Ok (i, left) → Item bytes_of_id (IdFits n) bytes i left
id_only n bytes i left b h =
    let t = triple_read make_id n bytes i left b h in
    subst (λ j. Item bytes_of_id (IdFits n) bytes j left) t.value (record { is = t.is; good = t.good; bytes_left = t.bytes_left })

pub record WordFits (n : ℕ) (w : Word) : Type 0 where
  pub id : IdFits n w.id
  pub boxes : length w.costs ≡ 64
  pub few : length (roads_to w.costs 64) ≤ 8
  pub below : (i : ℕ) → (get_or w.costs i 0 ≡ 0 → ⊥) → i < n
  pub other : (i : ℕ) → (get_or w.costs i 0 ≡ 0 → ⊥) → i ≡ w.id.about → ⊥
  pub costs : (i : ℕ) → get_or w.costs i 0 < 2 ^ 16

pub word_low : (n : ℕ) (w : Word) → WordInRange n w → low_word w ≡ true
word_low n w r = id_low n w.id r.id

pub low_word_lem : (n : ℕ) (w : Word) → WordFits n w → low_word w ≡ true → WordInRange n w
low_word_lem n w f t = record { id = low_id n w.id f.id t; boxes = f.boxes; few = f.few; below = f.below; other = f.other; costs = f.costs }

pub word_again : (n : ℕ) (w : Word) → WordInRange n w → (rest : List ℕ) → word_in n (bytes_of_word w ++ rest) ≡ Ok (w, rest)
word_again n w r rest =
    let k = length (roads_to w.costs 64) in
    let i = id_again n w.id r.id (k ∷ (bytes_of_roads w.costs ++ rest)) in
    let t : leb k 8 ≡ true = le-leb k 8 r.few in
    let g = roads_again n w.id.about w.costs r.boxes r.below r.other r.costs rest in
    ap (word_in n) (append_assoc (bytes_of_id w.id) (k ∷ bytes_of_roads w.costs) rest) ∙ rw (i, t, g)

pub word_only : (n : ℕ) → n ≤ 64 → (bytes : List ℕ) (w : Word) (left : List ℕ) → Bytes bytes → word_in n bytes ≡ Ok (w, left) → Item bytes_of_word (WordFits n) bytes w left
word_only n few bytes w left b h =
    let s = step (id_in n bytes) (λ id mid. onward (byte mid) (λ k mid. onward (unless Range (leb k 8) mid) (λ _ mid. onward (roads_in n id.about k mid) (λ costs. give (record { id = id; costs = costs }))))) w left h in
    let i = id_only n bytes s.value s.left b s.was in
    let t = step (byte s.left) (λ k mid. onward (unless Range (leb k 8) mid) (λ _ mid. onward (roads_in n s.value.about k mid) (λ costs. give (record { id = s.value; costs = costs })))) w left s.then in
    let c = byte_read s.left t.value t.left i.bytes_left t.was in
    let u = test Range (leb t.value 8) (λ mid. onward (roads_in n s.value.about t.value mid) (λ costs. give (record { id = s.value; costs = costs }))) t.left w left t.then in
    let v = step (roads_in n s.value.about t.value t.left) (λ costs. give (record { id = s.value; costs = costs })) w left u.then in
    let m = step (times t.value (road_onto n s.value.about) (0, replicate 64 0) t.left) (λ (so : ℕ × List ℕ). give so.1) v.value v.left v.was in
    let r = roads_read_lem n s.value.about few t.value t.left m.value m.left c.bytes_left m.was in
    let e = both m.value.1 v.value m.left v.left m.then in
    let g = both (record { id = s.value; costs = v.value }) w v.left left v.then in
    let all : roads_to m.value.1 64 ≡ roads_to m.value.1 m.value.0 = roads_past m.value.1 m.value.0 64 (omega (arith, r.low)) r.past in
    let number : length (roads_to m.value.1 64) ≡ t.value = ap length all ∙ r.count in
    let made : Item bytes_of_word (WordFits n) bytes (record { id = s.value; costs = m.value.1 }) left =
    record {
      is = joins n bytes s.value s.left t.value t.left m.value.1 left i.is c.is number (r.is ∙ (ap (λ roads. flat_map bytes_of_road roads ++ m.left) (sym all) ∙ ap (λ z. bytes_of_roads m.value.1 ++ z) (e.1 ∙ g.1)));
      good = record { id = i.good; boxes = r.long; few = omega (arith, number, leb-true t.value 8 u.held); below = r.below; other = r.other; costs = r.fits };
      bytes_left = subst Bytes (e.1 ∙ g.1) r.bytes_left;
    } in
    subst (λ x. Item bytes_of_word (WordFits n) bytes x left) (ap {B = Word} (λ costs. record { id = s.value; costs = costs }) e.0 ∙ g.0) made
  where
    joins : (n : ℕ) (bytes : List ℕ) (id : WordId) (one : List ℕ) (k : ℕ) (two costs left : List ℕ) → bytes ≡ bytes_of_id id ++ one → one ≡ k ∷ two → length (roads_to costs 64) ≡ k → two ≡ bytes_of_roads costs ++ left → bytes ≡ bytes_of_word (record { id = id; costs = costs }) ++ left
    joins n bytes id one k two costs left p q c r =
        p
        ∙ (ap (λ z. bytes_of_id id ++ z) (q ∙ ap₂ (λ x xs. x ∷ xs) (sym c) r)
        ∙ sym (append_assoc (bytes_of_id id) (length (roads_to costs 64) ∷ bytes_of_roads costs) left))
