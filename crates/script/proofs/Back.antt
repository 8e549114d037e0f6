-- The line of a command that can be is read as that command.
use Rattle.std.proofs.Common.{◌≡◌, ℕ, zero, suc, ◌^◌, ◌<◌, ◌≤◌, Bool, true, false, cond, not, ◌&&◌, ◌||◌, eqb, List, [], ◌∷◌, map, length, get_or, IfOk, Some, Ok, Err, string_bytes, codes, decimal, Result, String, sym, refl, ap, ◌∙◌, inl, inr, arith, lit<}
use Rattle.std.proofs.lemmas.Bool.{eq-eqb, ne_eqb, eqb-true, eqb-false, cases_Bool}
use Rattle.std.proofs.lemmas.List.{length-map, get_or-map}
use Rattle.script.specs.Line.{command_in, part_of, parts_of, number_of}
use Rattle.script.specs.Written.{spaced, line_of, CanBe}
use Rattle.script.specs.declared.command.Command.{Command}
use Rattle.script.specs.declared.command.Command.TheVariants.{Boxes, Road, Fall, Lose, Tick, Send}
use Rattle.script.specs.declared.command.Fault.TheVariants.{Form}
use Rattle.script.proofs.Spaced.{Clear, AllClear, parts_spaced, part_spaced, decimal_clear, decimal_number}

-- a word without a blank, and numbers that are written in digits
record Spelt (word : List ℕ) (ns : List ℕ) : Type 0 where
  clear : Clear word
  small : (k : ℕ) → get_or ns k 0 < 2 ^ 64

-- the line of them
abbrev spelt : List ℕ → List ℕ → List ℕ
spelt word ns = spaced word (map decimal ns)

all_clear_lem : (ns : List ℕ) → ((k : ℕ) → get_or ns k 0 < 2 ^ 64) → AllClear (map decimal ns)
all_clear_lem [] small = tt
all_clear_lem (n ∷ ns) small = (decimal_clear n (small 0), all_clear_lem ns (λ k. small (suc k)))

word_at : (word ns : List ℕ) → Spelt word ns → part_of 0 (spelt word ns) ≡ word
word_at word ns h = part_spaced 0 word (map decimal ns) (h.clear, all_clear_lem ns h.small) (omega arith)

parts_are : (word ns : List ℕ) → Spelt word ns → parts_of (spelt word ns) ≡ suc (length ns)
parts_are word ns h = parts_spaced word (map decimal ns) (h.clear, all_clear_lem ns h.small) ∙ ap suc (length-map ns decimal)

-- each number within its limit is read back
number_at : (most k : ℕ) (word ns : List ℕ) → Spelt word ns → k < length ns → get_or ns k 0 ≤ most → number_of most (part_of (suc k) (spelt word ns)) ≡ Some (get_or ns k 0)
number_at most k word ns h l b =
    let inside : suc k ≤ length (map decimal ns) = simp length-map l in
    ap (λ s. number_of most s) (part_spaced (suc k) word (map decimal ns) (h.clear, all_clear_lem ns h.small) inside ∙ get_or-map decimal ns k 0 [] l) ∙
    decimal_number most (get_or ns k 0) b (h.small k)

-- two costs that are both 0 or neither
even : (cost back : ℕ) → (cost ≡ 0 → back ≡ 0) → (back ≡ 0 → cost ≡ 0) → eqb cost 0 ≡ eqb back 0
even cost back h k = elim (cases_Bool (eqb back 0)) [
  | inl e ↦ eq-eqb cost 0 (k (eqb-true back 0 e)) ∙ sym e
  | inr e ↦ ne_eqb cost 0 (λ z. eqb-false back 0 e (h z)) ∙ sym e
]

-- so neither test of one without the other holds
uneven : {A : Type 0} (b : Bool) (x y : A) → cond ((not b && b) || (b && not b)) x y ≡ y
uneven true x y = refl
uneven false x y = refl

-- what each form asks for, by the parts of the line
as_boxes : (line : List ℕ) (n : ℕ) → part_of 0 line ≡ codes "boxes" → parts_of line ≡ 2 → number_of 64 (part_of 1 line) ≡ Some n → eqb n 0 ≡ false → command_in line ≡ Ok (Boxes n)
as_boxes line n word parts first some = rw (word, parts, first, some) refl

as_road : (line : List ℕ) (a e cost back : ℕ) → part_of 0 line ≡ codes "road" → parts_of line ≡ 5 → number_of 63 (part_of 1 line) ≡ Some a → number_of 63 (part_of 2 line) ≡ Some e → number_of 65535 (part_of 3 line) ≡ Some cost → number_of 65535 (part_of 4 line) ≡ Some back → eqb a e ≡ false → eqb cost 0 ≡ eqb back 0 → command_in line ≡ Ok (Road a e cost back)
as_road line a e cost back word parts first second third fourth apart both = rw (word, parts, first, second, third, fourth, apart, both) (uneven (eqb back 0) (Err Form) (Ok (Road a e cost back)))

as_fall : (line : List ℕ) (a : ℕ) → part_of 0 line ≡ codes "fall" → parts_of line ≡ 2 → number_of 63 (part_of 1 line) ≡ Some a → command_in line ≡ Ok (Fall a)
as_fall line a word parts first = rw (word, parts, first) refl

as_lose : (line : List ℕ) (a e n : ℕ) → part_of 0 line ≡ codes "lose" → parts_of line ≡ 4 → number_of 63 (part_of 1 line) ≡ Some a → number_of 63 (part_of 2 line) ≡ Some e → number_of 4294967295 (part_of 3 line) ≡ Some n → command_in line ≡ Ok (Lose a e n)
as_lose line a e n word parts first second third = rw (word, parts, first, second, third) refl

as_tick : (line : List ℕ) (n : ℕ) → part_of 0 line ≡ codes "tick" → parts_of line ≡ 2 → number_of 4294967295 (part_of 1 line) ≡ Some n → command_in line ≡ Ok (Tick n)
as_tick line n word parts first = rw (word, parts, first) refl

as_send : (line : List ℕ) (a e : ℕ) → part_of 0 line ≡ codes "send" → parts_of line ≡ 3 → number_of 63 (part_of 1 line) ≡ Some a → number_of 63 (part_of 2 line) ≡ Some e → command_in line ≡ Ok (Send a e)
as_send line a e word parts first second = rw (word, parts, first, second) refl

-- numbers that are all small
no_small : (k : ℕ) → get_or [] k 0 < 2 ^ 64
no_small k = omega arith

and_small : (n : ℕ) (ns : List ℕ) → n < 2 ^ 64 → ((k : ℕ) → get_or ns k 0 < 2 ^ 64) → (k : ℕ) → get_or (n ∷ ns) k 0 < 2 ^ 64
and_small n ns h small zero = h
and_small n ns h small (suc k) = small k

pub reads_back : (c : Command) → CanBe c → command_in (line_of c) ≡ Ok c
reads_back (Boxes n) h =
    let s : Spelt (codes "boxes") (n ∷ []) = record { clear = (refl, (refl, (refl, (refl, (refl, tt))))); small = and_small n [] (omega arith) no_small } in
    as_boxes (line_of (Boxes n)) n (word_at _ _ s) (parts_are _ _ s) (number_at 64 0 _ _ s (lit< tt) h.1) (ne_eqb n 0 (λ z. omega arith))
reads_back (Road a e cost back) h =
    let s : Spelt (codes "road") (a ∷ (e ∷ (cost ∷ (back ∷ [])))) = record {
      clear = (refl, (refl, (refl, (refl, tt))));
      small = and_small a (e ∷ (cost ∷ (back ∷ []))) (omega arith) (and_small e (cost ∷ (back ∷ [])) (omega arith) (and_small cost (back ∷ []) (omega arith) (and_small back [] (omega arith) no_small)));
    } in
    as_road (line_of (Road a e cost back)) a e cost back (word_at _ _ s) (parts_are _ _ s)
    (number_at 63 0 _ _ s (lit< tt) h.0) (number_at 63 1 _ _ s (lit< tt) h.1) (number_at 65535 2 _ _ s (lit< tt) h.3) (number_at 65535 3 _ _ s (lit< tt) h.4)
    (ne_eqb a e h.2) (even cost back h.5 h.6)
reads_back (Fall a) h =
    let s : Spelt (codes "fall") (a ∷ []) = record { clear = (refl, (refl, (refl, (refl, tt)))); small = and_small a [] (omega arith) no_small } in
    as_fall (line_of (Fall a)) a (word_at _ _ s) (parts_are _ _ s) (number_at 63 0 _ _ s (lit< tt) h)
reads_back (Lose a e n) h =
    let s : Spelt (codes "lose") (a ∷ (e ∷ (n ∷ []))) = record {
      clear = (refl, (refl, (refl, (refl, tt))));
      small = and_small a (e ∷ (n ∷ [])) (omega arith) (and_small e (n ∷ []) (omega arith) (and_small n [] (omega arith) no_small));
    } in
    let most : n ≤ 4294967295 = omega arith in
    as_lose (line_of (Lose a e n)) a e n (word_at _ _ s) (parts_are _ _ s)
    (number_at 63 0 _ _ s (lit< tt) h.0) (number_at 63 1 _ _ s (lit< tt) h.1) (number_at 4294967295 2 _ _ s (lit< tt) most)
reads_back (Tick n) h =
    let s : Spelt (codes "tick") (n ∷ []) = record { clear = (refl, (refl, (refl, (refl, tt)))); small = and_small n [] (omega arith) no_small } in
    as_tick (line_of (Tick n)) n (word_at _ _ s) (parts_are _ _ s) (number_at 4294967295 0 _ _ s (lit< tt) (omega arith))
reads_back (Send a e) h =
    let s : Spelt (codes "send") (a ∷ (e ∷ [])) = record { clear = (refl, (refl, (refl, (refl, tt)))); small = and_small a (e ∷ []) (omega arith) (and_small e [] (omega arith) no_small) } in
    as_send (line_of (Send a e)) a e (word_at _ _ s) (parts_are _ _ s) (number_at 63 0 _ _ s (lit< tt) h.0) (number_at 63 1 _ _ s (lit< tt) h.1)

-- so is the text that holds its line
pub written_back : {Z E : Type 0} (c : Command) (r : Result (String Z) E) → IfOk r (λ s. string_bytes s ≡ line_of c) → IfOk r (λ s. CanBe c → command_in (string_bytes s) ≡ Ok c)
written_back c (Ok s) e = λ h. ap command_in e ∙ reads_back c h
written_back c (Err x) e = tt
