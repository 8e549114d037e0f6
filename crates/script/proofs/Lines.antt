-- Laws of the parts of a line, which are those between blanks, and of the number that digits write.
use Rattle.std.proofs.Common.{◌≡◌, ℕ, zero, suc, ◌+◌, ◌-◌, ◌*◌, ◌<◌, ◌≤◌, Bool, true, false, cond, eqb, leb, List, [], ◌∷◌, length, get_or, drop, Some, None, Option, unwrap_or, sym, refl, ap, ◌∙◌, inl, inr, add-one, arith, drop-cons}
use Rattle.std.specs.List.{slice_split, onto_first}
use Rattle.std.specs.Option.{option_map}
use Rattle.std.proofs.lemmas.List.Splits.{length-slice_split}
use Rattle.std.specs.Prelude.{count_by}
use Rattle.std.proofs.lemmas.Bool.{le-leb, lt-leb, cond-true, cond-false, cond_both, cases_Bool}
use Rattle.std.proofs.lemmas.List.{drop_all}
use Rattle.std.proofs.lemmas.List.Sums.{sum_by-cons}
use Rattle.script.specs.Line.{before, behind, part_of, parts_of, digits_of, is_digit, at_most, number_of}

abbrev pub is_blank : ℕ → Bool
is_blank b = eqb b 32

-- nothing is behind the last part
part_empty : (k : ℕ) → part_of k [] ≡ []
unfolding part_of before behind
part_empty zero = refl
part_empty (suc k) = part_empty k

-- a byte that is no blank goes onto the first part
onto_none : (b : ℕ) (parts : List (List ℕ)) → 0 < length parts → get_or (onto_first b parts) 0 [] ≡ b ∷ get_or parts 0 []
onto_none b [] l = absurd (omega arith)
onto_none b (part ∷ parts) l = refl

onto_more : (b k : ℕ) (parts : List (List ℕ)) → get_or (onto_first b parts) (suc k) [] ≡ get_or parts (suc k) []
onto_more b k [] = refl
onto_more b k (part ∷ parts) = refl

-- the parts are those between blanks
pub part_split : (k : ℕ) (s : List ℕ) → part_of k s ≡ get_or (slice_split is_blank s) k []
unfolding part_of before behind
part_split zero [] = refl
part_split (suc k) [] = part_empty k
part_split zero (b ∷ s) = elim (cases_Bool (eqb b 32)) [
  | inl e ↦ rw e refl
  | inr e ↦ rw e (ap (λ t. b ∷ t) (part_split zero s) ∙ sym (onto_none b (slice_split is_blank s) (omega (arith, length-slice_split is_blank s))))
]
part_split (suc k) (b ∷ s) = elim (cases_Bool (eqb b 32)) [
  | inl e ↦ rw e (part_split k s)
  | inr e ↦ rw e (part_split (suc k) s ∙ sym (onto_more b k (slice_split is_blank s)))
]

-- what is read of a value or of the one in its place
pub unwrapped : {A B : Type 0} (f : A → B) (o : Option A) (d : A) → f (unwrap_or o d) ≡ unwrap_or (option_map f o) (f d)
unwrapped f None d = refl
unwrapped f (Some x) d = refl

-- one part more than there are blanks
pub parts_counted : (s : List ℕ) → parts_of s ≡ count_by is_blank s + 1
unfolding parts_of
parts_counted [] = refl
parts_counted (b ∷ s) = omega (arith, parts_counted s, sum_by-cons (λ x. cond (is_blank x) 1 0) b s)

pub digits_none : (n : ℕ) → digits_of n [] ≡ Some n
unfolding digits_of
digits_none n = refl

-- one digit more read
pub digits_more : (n : ℕ) (s : List ℕ) (i : ℕ) → i < length s → digits_of n (drop i s) ≡ cond (is_digit (get_or s i 0)) (digits_of (n * 10 + (get_or s i 0 - 48)) (drop (i + 1) s)) None
unfolding digits_of
digits_more n s i h = rw (add-one, drop-cons s i 0 h) refl

-- what digits write behind a number is no less, so a number past the limit is refused whatever follows
pub digits_past : (most n : ℕ) (s : List ℕ) → most < n → at_most most (digits_of n s) ≡ None
unfolding digits_of
digits_past most n [] h = cond-false (leb n most) (Some n) None (lt-leb n most h)
digits_past most n (b ∷ s) h =
    cond_both (is_digit b) (digits_of (n * 10 + (b - 48)) s) None (λ o. at_most most o ≡ None) (λ e. digits_past most (n * 10 + (b - 48)) s (omega arith)) (λ e. refl)

-- a text that isn't empty is read as its digits are
pub number_is : (most : ℕ) (s : List ℕ) → 0 < length s → number_of most s ≡ at_most most (digits_of 0 s)
number_is most [] h = absurd (omega arith)
number_is most (b ∷ s) h = refl

-- a text that isn't empty, and at whose place i the digits so far stop, is no number
pub number_stops : (most n : ℕ) (s : List ℕ) (i : ℕ) → i < length s → is_digit (get_or s i 0) ≡ false → digits_of 0 s ≡ digits_of n (drop i s) → number_of most s ≡ None
number_stops most n s i h no_digit so_far =
    number_is most s (omega arith) ∙
    ap (λ o. at_most most o) (so_far ∙ digits_more n s i h ∙ cond-false (is_digit (get_or s i 0)) (digits_of (n * 10 + (get_or s i 0 - 48)) (drop (i + 1) s)) None no_digit)

-- the digits so far, and one more
pub digits_on : (n : ℕ) (s : List ℕ) (i : ℕ) → i < length s → is_digit (get_or s i 0) ≡ true → digits_of 0 s ≡ digits_of n (drop i s) → digits_of 0 s ≡ digits_of (n * 10 + (get_or s i 0 - 48)) (drop (i + 1) s)
digits_on n s i h digit so_far = so_far ∙ digits_more n s i h ∙ cond-true (is_digit (get_or s i 0)) (digits_of (n * 10 + (get_or s i 0 - 48)) (drop (i + 1) s)) None digit

-- a text whose digits are past the limit at some place is no number
pub number_past : (most n : ℕ) (s : List ℕ) (i : ℕ) → 0 < length s → most < n → digits_of 0 s ≡ digits_of n (drop i s) → number_of most s ≡ None
number_past most n s i h past so_far = number_is most s h ∙ ap (λ o. at_most most o) so_far ∙ digits_past most n (drop i s) past

-- a text whose digits are read to the end is their number
pub number_ends : (most n : ℕ) (s : List ℕ) (i : ℕ) → 0 < length s → length s ≤ i → n ≤ most → digits_of 0 s ≡ digits_of n (drop i s) → number_of most s ≡ Some n
number_ends most n s i h end fits so_far =
    number_is most s h ∙ ap (λ o. at_most most o) (so_far ∙ ap (λ t. digits_of n t) (drop_all i s end) ∙ digits_none n) ∙ cond-true (leb n most) (Some n) None (le-leb n most fits)
