-- A packet of words carries a list of them.
use Rattle.std.proofs.Common.{◌≡◌, ℕ, zero, suc, ◌<◌, ◌≤◌, Bool, true, cond, eqb, List, [], ◌∷◌, ◌++◌, length, get_or, take, replicate, Some, Option, refl, ap, ◌∙◌, ap₂, suc-le-suc, zero-le, le_of_suc-le-suc, not-suc-le-zero, arith}
use Rattle.std.specs.Array.{AllOfLen}
use Rattle.messages.specs.declared.values.Word.{Word}
use Rattle.messages.specs.declared.values.WordId.{WordId}
use Rattle.model.specs.Box.{Box, tells}
use Rattle.model.specs.Words.{unsaid}
use Rattle.linkmodel.specs.Station.{Item, Station, items_of, wire_to}
use Rattle.linkmodel.specs.Links.{who_on}
use Rattle.station.specs.Packets.{first_in, no_id}
use Rattle.station.proofs.Scans.{taken_at}
use Rattle.station.specs.Ticking.{Carries, is_telling, item_of, no_word, told_on, told_to, words_in}

abbrev pub no_item : Item
no_item = record { about = 0; entry = unsaid }

-- all zeros
pub no_id_lem : (x : WordId) → (x.about ≡ 0) × ((x.count ≡ 0) × (x.tag ≡ 0)) → x ≡ no_id
no_id_lem x h = λ k. record { about = h.0 k; count = h.1.0 k; tag = h.1.1 k }

zeros : (n : ℕ) (xs : List ℕ) → length xs ≡ n → ((i : ℕ) → i < n → get_or xs i 0 ≡ 0) → xs ≡ replicate n 0
zeros zero [] l h = refl
zeros zero (x ∷ xs) l h = absurd (omega arith)
zeros (suc n) [] l h = absurd (omega arith)
zeros (suc n) (x ∷ xs) l h = ap₂ (λ (y : ℕ) (ys : List ℕ). y ∷ ys) (h 0 (suc-le-suc zero-le)) (zeros n xs (omega arith) (λ i q. h (suc i) (suc-le-suc q)))

pub no_word_lem : (x : Word) → ((x.id.about ≡ 0) × ((x.id.count ≡ 0) × (x.id.tag ≡ 0))) × AllOfLen (λ (y : ℕ). y ≡ 0) x.costs 64 → x ≡ no_word
no_word_lem x h = λ k. record { id = no_id_lem x.id h.0 k; costs = zeros 64 x.costs h.1.long (λ i q. h.1.at i 0 q) k }

-- four blanks
pub four_blank : {A : Type 0} (x d : A) → x ≡ d → (k : ℕ) → get_or (x ∷ x ∷ x ∷ x ∷ []) k d ≡ d
four_blank x d e zero = e
four_blank x d e (suc zero) = e
four_blank x d e (suc (suc zero)) = e
four_blank x d e (suc (suc (suc zero))) = e
four_blank x d e (suc (suc (suc (suc k)))) = refl

pub carries_none : (d : ℕ) (xs : List Word) → ((k : ℕ) → get_or xs k no_word ≡ no_word) → Carries (record { drawn = d; count = 0; items = xs }) d []
unfolding first_in
carries_none d xs h = record { drawn = refl; count = refl; items = refl; rest = λ k l m. h k }

-- by what stands at each place
pub words_by : (xs : List Word) (ys : List Item) → length ys ≤ length xs → ((j : ℕ) → j < length ys → item_of (get_or xs j no_word) ≡ get_or ys j no_item) → words_in (length ys) xs ≡ ys
unfolding first_in
words_by xs [] l h = refl
words_by [] (y ∷ ys) l h = absurd (not-suc-le-zero l)
words_by (x ∷ xs) (y ∷ ys) l h = ap₂ (λ (a : Item) (b : List Item). a ∷ b) (h 0 (suc-le-suc zero-le)) (words_by xs ys (le_of_suc-le-suc l) (λ j q. h (suc j) (suc-le-suc q)))

pub items_length : (ps : List ℕ) (b : Box) → length (items_of ps b) ≡ length ps
unfolding items_of
items_length [] b = refl
items_length (p ∷ ps) b = ap suc (items_length ps b)

pub item_at : (ps : List ℕ) (b : Box) (j : ℕ) → j < length ps → get_or (items_of ps b) j no_item ≡ record { about = get_or ps j 0; entry = b.word (get_or ps j 0) }
unfolding items_of
item_at [] b j l = absurd (not-suc-le-zero l)
item_at (p ∷ ps) b zero l = refl
item_at (p ∷ ps) b (suc j) l = item_at ps b j (le_of_suc-le-suc l)

-- zeros after a list aren't seen within it
at_padded : (ps zs : List ℕ) (j : ℕ) → j < length ps → get_or (ps ++ zs) j 0 ≡ get_or ps j 0
at_padded [] zs j l = absurd (not-suc-le-zero l)
at_padded (p ∷ ps) zs zero l = refl
at_padded (p ∷ ps) zs (suc j) l = at_padded ps zs j (le_of_suc-le-suc l)

-- so that one of the first n, where zeros come after, is one of the list
pub named_at : (n : ℕ) (xs ps zs : List ℕ) (j : ℕ) → xs ≡ ps ++ zs → j < length ps → j < length (take n xs) → get_or (take n xs) j 0 ≡ get_or ps j 0
named_at n xs ps zs j e l h = taken_at 0 n xs j h ∙ ap (λ (qs : List ℕ). get_or qs j 0) e ∙ at_padded ps zs j l

-- what is told over a wire whose neighbour is known
pub told_to_lem : (w e : ℕ) (s : Station) → is_telling s.links ≡ true → who_on (s.links.wire w) ≡ Some e → eqb (wire_to e s.links) w ≡ true → told_on w s ≡ items_of (tells e s.box) s.box
told_to_lem w e s t o l =
    ap (λ (b : Bool). cond b (told_to (who_on (s.links.wire w)) w s) []) t ∙ ap (λ (x : Option ℕ). told_to x w s) o ∙ ap (λ (b : Bool). cond b (items_of (tells e s.box) s.box) []) l
