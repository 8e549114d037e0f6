-- One tag is one item of one subject, whoever has it: there is a book of all tags that were drawn, and each item is what the book has for its tag.
use Rattle.std.proofs.Common.{◌≡◌, ℕ, ◌<◌, true, false, eqb, List, [], ◌∷◌, sym, refl, ap, ◌∙◌, arith}
use Rattle.std.proofs.lemmas.Bool.{eq-eqb, ne_eqb, both_ways, or_left, or_right, cond-true, cond-false}
use Rattle.model.specs.Words.{is_in}
use Rattle.model.specs.Flood.{Item, Setup, Net, Act, row, unspoken, spoken, net}
use Rattle.model.specs.Spread.{OneTagFor}
use Rattle.model.proofs.Acts.{Does, always}
use Rattle.model.proofs.Kept.{Kept, kept_more, kept_turn, kept_put, kept_tell, kept_back, kept_start}

-- a line of the book: whose subject, and what was said
record Line (P : Type 0) : Type 0 where
  about : ℕ
  item : Item P

-- what was said of i is in the book under its tag
abbrev Known : {P : Type 0} → (ℕ → Line P) → List ℕ → ℕ → Item P → Type 0
Known b ts i x = 0 < x.number → (is_in x.tag ts ≡ true) × (b x.tag ≡ record { about = i; item = x })

-- a tag that was drawn is none that wasn't
drawn_apart : (t u : ℕ) (ts : List ℕ) → is_in t ts ≡ true → is_in u ts ≡ false → eqb t u ≡ false
drawn_apart t u ts p q = ne_eqb t u (λ e. both_ways (is_in u ts) q (rw e at p))

-- a new line leaves the others as they are
known_more : {P : Type 0} (b : ℕ → Line P) (ts : List ℕ) (t : ℕ) (l : Line P) → is_in t ts ≡ false → (i : ℕ) (x : Item P) → Known b ts i x → Known (row t l b) (t ∷ ts) i x
unfolding is_in
known_more b ts t l new i x k pos =
    let apart : eqb x.tag t ≡ false = drawn_apart x.tag t ts (k pos).0 new in
    (or_right (eqb t x.tag) (is_in x.tag ts) (k pos).0, cond-false (eqb x.tag t) l (b x.tag) apart ∙ (k pos).1)

known_new : {P : Type 0} (b : ℕ → Line P) (ts : List ℕ) (i : ℕ) (x : Item P) → Known (row x.tag (record { about = i; item = x }) b) (x.tag ∷ ts) i x
unfolding is_in
known_new b ts i x pos = (or_left (eqb x.tag x.tag) (is_in x.tag ts) (eq-eqb x.tag x.tag refl), cond-true (eqb x.tag x.tag) (record { about = i; item = x }) (b x.tag) (eq-eqb x.tag x.tag refl))

-- there is a book
abbrev Booked : {P : Type 0} → Net P → Type 0
Booked {P} w = (b : ℕ → Line P) × Kept (Known b w.drawn) w

booked : {P : Type 0} (s : Setup P) (es : List (Act P)) → Booked (net s es)
booked {P} s = always s (λ es. Booked) (first, start) step
  where
    first : ℕ → Line P
    first t = record { about = 0; item = unspoken s }

    nothing : (b : ℕ → Line P) (ts : List ℕ) (i : ℕ) → Known b ts i (unspoken s)
    nothing b ts i pos = absurd (omega arith)

    start : Kept (Known first (net s []).drawn) (net s [])
    start = kept_start (Known first (net s []).drawn) s (nothing first (net s []).drawn)

    step : (e : Act P) (es : List (Act P)) → Booked (net s es) → Does s e (net s es) Booked
    step e es (b, k) =
        let w : Net P = net s es in
        record {
          stays = (b, k);
          turns = λ a l sp p _ _. (b, kept_turn (Known b w.drawn) w a l sp p k);
          speaks = λ a i number t _ new _.
              let x : Item P = spoken a i number t w in
              let l : Line P = record { about = i; item = x } in
              (row t l b, kept_put (Known (row t l b) (t ∷ w.drawn)) w a i x (t ∷ []) (known_new b w.drawn i x) (kept_more (Known b w.drawn) (Known (row t l b) (t ∷ w.drawn)) w (known_more b w.drawn t l new) k));
          tells = λ a c i _ _ _. (b, kept_tell (Known b w.drawn) w a c i k);
          takes = λ m x there _. (b, kept_put (Known b w.drawn) w x.to x.about x.item [] (k.flight m x there) k);
          falls = λ a to _ _. (b, kept_back (Known b w.drawn) s w a to (nothing b w.drawn) k);
        }

pub one_tag_for_lem : (P : Type 0) → OneTagFor P
one_tag_for_lem P s es a e i j hi hj same =
    let (b, k) = booked s es in
    let w : Net P = net s es in
    let lines : record { about = i; item = w.holds a i } ≡ record { about = j; item = w.holds e j } = sym (k.holds a i hi).1 ∙ (ap b same ∙ (k.holds e j hj).1) in
    (ap (λ (l : Line P). l.about) lines, ap (λ (l : Line P). l.item) lines)
