-- The lines for the words of a packet tell what the box has of them.
use Rattle.std.proofs.Common.{◌≡◌, ℕ, zero, suc, ◌^◌, ◌<◌, ◌≤◌, Bool, true, false, not, ◌&&◌, cond, eqb, List, [], ◌∷◌, ◌++◌, length, get_or, take, Some, None, Option, sym, refl, ap, ◌∙◌, subst, ap₂, append_assoc, append-nil, arith, ltb-true, eqb-true}
use Rattle.messages.specs.declared.values.Word.{Word}
use Rattle.model.specs.Box.{Box, has, is_new_to, own_word}
use Rattle.model.specs.Code.{same_word}
use Rattle.wordframes.specs.Ranges.{WordInRange}
use Rattle.journal.specs.Replay.{Known}
use Rattle.linkmodel.specs.Calls.{Joined}
use Rattle.linkmodel.specs.Station.{Item, Station as Whole, can_say, is_stuck, marks_item, takes_all, takes_item, told_word}
use Rattle.messages.specs.Values.{entry_of}
use Rattle.router.specs.declared.answers.Outcome.{Outcome}
use Rattle.router.specs.declared.answers.Outcome.TheVariants.{Taken as WasTaken, Said as WasSaid, Same, Older}
use Rattle.station.specs.Hearing.{outcome_if, outcomes_in}
use Rattle.station.specs.Packets.{first_in}
use Rattle.station.specs.Ticking.{item_of, no_word}
use Rattle.node.specs.Book.{Note}
use Rattle.node.specs.Hearing.{note_for, notes_for, said_above}
use Rattle.truth.proofs.Lines.{AllWritable, Readable, after_note, after_notes, with_item}
use Rattle.truth.proofs.Owns.{own_readable}

-- the front note of a packet first
notes_front : (o : Option Outcome) (os : List (Option Outcome)) (x : Word) (xs : List Word) (t : ℕ) (ts : List ℕ) (s : Whole) (k : ℕ) → notes_for (o ∷ os) (x ∷ xs) (t ∷ ts) s (suc k) ≡ note_for o (item_of x) t s ++ notes_for os xs ts s k
unfolding notes_for
notes_front o os x xs t ts s zero = sym (append-nil (note_for o (item_of x) t s))
notes_front o os x xs t ts s (suc k) =
    ap (λ z. z ++ note_for (get_or os k None) (item_of (get_or xs k no_word)) (get_or ts k 0) s) (notes_front o os x xs t ts s k)
    ∙ append_assoc (note_for o (item_of x) t s) (notes_for os xs ts s k) (note_for (get_or os k None) (item_of (get_or xs k no_word)) (get_or ts k 0) s)

-- no outcomes, no notes
pub notes_none : (xs : List Word) (ts : List ℕ) (s : Whole) (k : ℕ) → notes_for [] xs ts s k ≡ []
unfolding notes_for
notes_none xs ts s zero = refl
notes_none xs ts s (suc k) = append-nil (notes_for [] xs ts s k) ∙ notes_none xs ts s k

-- what a box knows
abbrev pub known_by : Box → Known
known_by b = record { n = b.n; me = b.me; word = b.word }

-- a box became another, and these notes tell it
pub record Step (b c : Box) (xs : List Note) : Type 0 where
  pub n : c.n ≡ b.n
  pub me : c.me ≡ b.me
  pub cost : c.cost ≡ b.cost
  pub known : after_notes xs (known_by b) ≡ known_by c
  pub writable : AllWritable xs (known_by b)

stays : (b : Box) → Step b b []
unfolding after_notes AllWritable
stays b = record { n = refl; me = refl; cost = refl; known = refl; writable = tt }

after_both : (xs ys : List Note) (k : Known) → after_notes (xs ++ ys) k ≡ after_notes ys (after_notes xs k)
unfolding after_notes
after_both [] ys k = refl
after_both (x ∷ xs) ys k = after_both xs ys (after_note x k)

both_writable : (xs ys : List Note) (k : Known) → AllWritable xs k → AllWritable ys (after_notes xs k) → AllWritable (xs ++ ys) k
unfolding after_notes AllWritable
both_writable [] ys k v w = w
both_writable (x ∷ xs) ys k v w = (v.0, both_writable xs ys (after_note x k) v.1 w)

then : (b c d : Box) (xs ys : List Note) → Step b c xs → Step c d ys → Step b d (xs ++ ys)
then b c d xs ys p q = record {
  n = q.n ∙ p.n;
  me = q.me ∙ p.me;
  cost = q.cost ∙ p.cost;
  known = after_both xs ys (known_by b) ∙ (ap (after_notes ys) p.known ∙ q.known);
  writable = both_writable xs ys (known_by b) p.writable (subst (AllWritable ys) (sym p.known) q.writable);
}

-- that e has it changes no word
marked : (fits : Bool) (e : ℕ) (x : Item) (b c : Box) (xs : List Note) → Step b c xs → Step b (marks_item fits e x c) xs
marked true e x b c xs p = record { n = p.n; me = p.me; cost = p.cost; known = p.known; writable = p.writable }
marked false e x b c xs p = p

-- a count that is said can be said
can : (mine new may : Bool) → mine ≡ true → new ≡ true → (mine && (new && not may)) ≡ false → may ≡ true
can true true true a b e = refl
can true true false a b e = absurd cc
can true false may a b e = absurd cc
can false new may a b e = absurd cc

module _ (s : Whole) (j : Joined s) (few : s.box.n ≤ 64) (fits_two : (e : ℕ) → s.box.cost e < 2 ^ 16) (inside : s.box.me < s.box.n) where
  -- a word that comes, by what became of it
  by_outcome : (x : Word) (t : ℕ) (b : Box) (stuck new mine same : Bool) → b.n ≡ s.box.n → b.me ≡ s.box.me → b.cost ≡ s.box.cost → WordInRange s.box.n x → t < 2 ^ 64 →
      eqb b.me x.id.about ≡ mine → (mine ≡ true → new ≡ true → stuck ≡ false → suc x.id.count < 2 ^ 63) →
      Step b (cond stuck b (cond new (has x.id.about (cond mine (own_word x.id.count t b) (entry_of x)) b) b)) (note_for (cond stuck None (Some (cond new (cond mine WasSaid WasTaken) (cond same Same Older)))) (item_of x) t s)
  unfolding after_notes AllWritable
  by_outcome x t b true new mine same n me cost r tag is low = stays b
  by_outcome x t b false false mine true n me cost r tag is low = stays b
  by_outcome x t b false false mine false n me cost r tag is low = stays b
  by_outcome x t b false true true same n me cost r tag is low =
      let about : x.id.about ≡ s.box.me = sym (eqb-true b.me x.id.about is) ∙ me in
      record {
        n = refl;
        me = refl;
        cost = refl;
        known = ap₂ (λ (i : ℕ) (f : ℕ → ℕ). with_item (record { about = i; entry = record { number = suc x.id.count; tag = t; road = f } }) (known_by b)) (sym about) (sym cost);
        writable = (subst (λ (k : ℕ). Readable k (said_above (item_of x) t s)) (sym n) (own_readable s (suc x.id.count) t j few fits_two inside (omega arith) (low refl refl refl) tag), tt);
      }
  by_outcome x t b false true false same n me cost r tag is low =
      record {
        n = refl;
        me = refl;
        cost = refl;
        known = refl;
        writable = (record { word = x; is = refl; good = subst (λ (k : ℕ). WordInRange k x) (sym n) r }, tt);
      }

  one_word : (fits : Bool) (e : ℕ) (x : Word) (t : ℕ) (b : Box) → b.n ≡ s.box.n → b.me ≡ s.box.me → b.cost ≡ s.box.cost → WordInRange s.box.n x → t < 2 ^ 64 →
      Step b (marks_item fits e (item_of x) (takes_item e (item_of x) t b)) (note_for (outcome_if e x b) (item_of x) t s)
  one_word fits e x t b n me cost r tag =
      let w = told_word e b.me (item_of x) in
      marked fits e (item_of x) b (takes_item e (item_of x) t b) (note_for (outcome_if e x b) (item_of x) t s)
      (by_outcome x t b (is_stuck w b) (is_new_to w b) (eqb b.me x.id.about) (same_word (entry_of x) (b.word x.id.about)) n me cost r tag refl
      (λ m k q. ltb-true (suc x.id.count) (2 ^ 63) (can (eqb b.me x.id.about) (is_new_to w b) (can_say x.id.count) m k q)))

  pub all_words : (fits : Bool) (e k : ℕ) (xs : List Word) (ts : List ℕ) (b : Box) → b.n ≡ s.box.n → b.me ≡ s.box.me → b.cost ≡ s.box.cost → k ≤ length xs → k ≤ length ts →
      ((i : ℕ) → i < k → WordInRange s.box.n (get_or xs i no_word)) → ((i : ℕ) → get_or ts i 0 < 2 ^ 64) →
      Step b (takes_all fits e (first_in item_of k xs) (take k ts) b) (notes_for (outcomes_in fits e k xs ts b) xs ts s k)
  unfolding takes_all first_in outcomes_in notes_for
  all_words fits e zero xs ts b n me cost lx lt good tags = stays b
  all_words fits e (suc k) [] ts b n me cost lx lt good tags = absurd (omega arith)
  all_words fits e (suc k) (x ∷ xs) [] b n me cost lx lt good tags = absurd (omega arith)
  all_words fits e (suc k) (x ∷ xs) (t ∷ ts) b n me cost lx lt good tags =
      let c = marks_item fits e (item_of x) (takes_item e (item_of x) t b) in
      let p = one_word fits e x t b n me cost (good 0 (omega arith)) (tags 0) in
      let d = takes_all fits e (first_in item_of k xs) (take k ts) c in
      let q = all_words fits e k xs ts c (p.n ∙ n) (p.me ∙ me) (p.cost ∙ cost) (omega arith) (omega arith) (λ i l. good (suc i) (omega arith)) (λ i. tags (suc i)) in
      subst (Step b d) (sym (notes_front (outcome_if e x b) (outcomes_in fits e k xs ts c) x xs t ts s k)) (then b c d (note_for (outcome_if e x b) (item_of x) t s) (notes_for (outcomes_in fits e k xs ts c) xs ts s k) p q)
