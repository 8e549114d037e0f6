-- Laws of words with one blank between two: each part of the line is its word, and the number that digits write is read back.
use Rattle.std.proofs.Common.{◌≡◌, ℕ, zero, suc, ◌+◌, ◌-◌, ◌*◌, ◌/◌, ◌%◌, ◌^◌, ◌<◌, ◌≤◌, false, eqb, leb, List, [], ◌∷◌, ◌++◌, length, get_or, Some, None, decimal, sym, refl, ap, ◌∙◌, arith}
use Rattle.std.proofs.lemmas.Bool.{ne_eqb, le-leb, cond-true, cond-false, and_from}
use Rattle.std.proofs.lemmas.List.{append_assoc, append-nil, length-append}
use Rattle.std.proofs.lemmas.Fmt.{decimal_by_steps}
use Rattle.script.specs.Line.{before, behind, part_of, parts_of, digits_of, is_digit, at_most, number_of}
use Rattle.script.specs.Written.{spaced}
use Rattle.script.proofs.Lines.{number_is, digits_none}

-- no byte is a blank
abbrev pub Clear : List ℕ → Type 0
Clear [] = Unit {0}
Clear (b ∷ bs) = (eqb b 32 ≡ false) × Clear bs

abbrev pub AllClear : List (List ℕ) → Type 0
AllClear [] = Unit {0}
AllClear (w ∷ ws) = Clear w × AllClear ws

pub clear_append : (xs ys : List ℕ) → Clear xs → Clear ys → Clear (xs ++ ys)
clear_append [] ys h k = k
clear_append (x ∷ xs) ys h k = (h.0, clear_append xs ys h.1 k)

-- a word alone
before_clear : (xs : List ℕ) → Clear xs → before xs ≡ xs
unfolding before
before_clear [] h = refl
before_clear (x ∷ xs) h = cond-false (eqb x 32) [] (x ∷ before xs) h.0 ∙ ap (λ t. x ∷ t) (before_clear xs h.1)

parts_clear : (xs : List ℕ) → Clear xs → parts_of xs ≡ 1
unfolding parts_of
parts_clear [] h = refl
parts_clear (x ∷ xs) h = let none = cond-false {A = ℕ} (eqb x 32) 1 0 h.0 in omega (arith, none, parts_clear xs h.1)

-- a word with a blank behind it
before_blank : (xs ys : List ℕ) → Clear xs → before (xs ++ (32 ∷ ys)) ≡ xs
unfolding before
before_blank [] ys h = refl
before_blank (x ∷ xs) ys h = cond-false (eqb x 32) [] (x ∷ before (xs ++ (32 ∷ ys))) h.0 ∙ ap (λ t. x ∷ t) (before_blank xs ys h.1)

behind_blank : (xs ys : List ℕ) → Clear xs → behind (xs ++ (32 ∷ ys)) ≡ ys
unfolding behind
behind_blank [] ys h = refl
behind_blank (x ∷ xs) ys h = cond-false (eqb x 32) (xs ++ (32 ∷ ys)) (behind (xs ++ (32 ∷ ys))) h.0 ∙ behind_blank xs ys h.1

parts_blank : (xs ys : List ℕ) → Clear xs → parts_of (xs ++ (32 ∷ ys)) ≡ parts_of ys + 1
unfolding parts_of
parts_blank [] ys h = refl
parts_blank (x ∷ xs) ys h = let none = cond-false {A = ℕ} (eqb x 32) 1 0 h.0 in omega (arith, none, parts_blank xs ys h.1)

-- as many parts as words
pub parts_spaced : (w : List ℕ) (ws : List (List ℕ)) → AllClear (w ∷ ws) → parts_of (spaced w ws) ≡ suc (length ws)
parts_spaced w [] h = parts_clear w h.0
parts_spaced w (v ∷ ws) h = omega (arith, parts_blank w (spaced v ws) h.0, parts_spaced v ws h.1)

-- each part is its word
pub part_spaced : (k : ℕ) (w : List ℕ) (ws : List (List ℕ)) → AllClear (w ∷ ws) → k ≤ length ws → part_of k (spaced w ws) ≡ get_or (w ∷ ws) k []
unfolding part_of
part_spaced zero w [] h l = before_clear w h.0
part_spaced zero w (v ∷ ws) h l = before_blank w (spaced v ws) h.0
part_spaced (suc k) w [] h l = absurd (omega arith)
part_spaced (suc k) w (v ∷ ws) h l = ap (λ s. part_of k s) (behind_blank w (spaced v ws) h.0) ∙ part_spaced k v ws h.1 (omega arith)

-- digits without a blank, that go from no number to n
pub record Writes (n : ℕ) (ds : List ℕ) : Type 0 where
  pub clear : Clear ds
  pub some : 0 < length ds
  pub reads : (rest : List ℕ) → digits_of 0 (ds ++ rest) ≡ digits_of n rest

-- a digit read behind a number
digit_on : (n d : ℕ) (rest : List ℕ) → d < 10 → digits_of n ((48 + d) ∷ rest) ≡ digits_of (n * 10 + d) rest
unfolding digits_of
digit_on n d rest h =
    let low = le-leb 48 (48 + d) (omega arith) in
    let high = le-leb (48 + d) 57 (omega arith) in
    let back : (48 + d) - 48 ≡ d = omega arith in
    cond-true (is_digit (48 + d)) (digits_of (n * 10 + ((48 + d) - 48)) rest) None (and_from (leb 48 (48 + d)) (leb (48 + d) 57) low high) ∙
    ap (λ m. digits_of (n * 10 + m) rest) back

one_digit : (n : ℕ) → n < 10 → Writes n ((48 + n) ∷ [])
one_digit n h = record {
  clear = (ne_eqb (48 + n) 32 (λ e. omega arith), tt);
  some = omega arith;
  reads = λ rest. let e : 0 * 10 + n ≡ n = omega arith in digit_on 0 n rest h ∙ ap (λ m. digits_of m rest) e;
}

digit_more : (n : ℕ) (ds : List ℕ) → 10 ≤ n → Writes (n / 10) ds → Writes n (ds ++ ((48 + n % 10) ∷ []))
digit_more n ds h w =
    let d : n % 10 < 10 = omega arith in
    record {
      clear = clear_append ds ((48 + n % 10) ∷ []) w.clear (ne_eqb (48 + n % 10) 32 (λ e. omega arith), tt);
      some = simp length-append (omega arith);
      reads = λ rest. let e : n / 10 * 10 + n % 10 ≡ n = omega arith in
          ap (λ t. digits_of 0 t) (append_assoc ds ((48 + n % 10) ∷ []) rest) ∙ w.reads ((48 + n % 10) ∷ rest) ∙ digit_on (n / 10) (n % 10) rest d ∙ ap (λ m. digits_of m rest) e;
    }

pub decimal_writes : (n : ℕ) → n < 2 ^ 64 → Writes n (decimal n)
decimal_writes n h = decimal_by_steps Writes one_digit digit_more n h

pub decimal_clear : (n : ℕ) → n < 2 ^ 64 → Clear (decimal n)
decimal_clear n h = (decimal_writes n h).clear

-- a number within the limit is read back
pub decimal_number : (most n : ℕ) → n ≤ most → n < 2 ^ 64 → number_of most (decimal n) ≡ Some n
decimal_number most n h k =
    let w = decimal_writes n k in
    number_is most (decimal n) w.some ∙
    ap (λ o. at_most most o) (ap (λ t. digits_of 0 t) (sym (append-nil (decimal n))) ∙ w.reads [] ∙ digits_none n) ∙
    cond-true (leb n most) (Some n) None (le-leb n most h)
