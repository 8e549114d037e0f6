-- A fitting seen or word over an open road shows what it is of.
use Rattle.std.proofs.Common.{◌≡◌, ℕ, ◌<◌, Bool, true, false, cond, not, ◌&&◌, ◌||◌, eqb, List, [], ◌∷◌, ◌++◌, length, sym, refl, ◌∙◌, subst, arith, lt-ltb, eq-eqb, ne_eqb, eqb-true}
use Rattle.model.specs.Words.{Entry, newer, is_in}
use Rattle.model.specs.Code.{same_word}
use Rattle.model.specs.Box.{Box, is_open, has, own_word, is_new_to, takes, sees, tells}
use Rattle.model.proofs.Tests.{of_cond, cond-true, cond-false, or_right}
use Rattle.linkmodel.proofs.Bools.{true_not_false, and_left, and_both}
use Rattle.linkmodel.specs.Station.{Item, Sight, told_word, can_say, is_stuck, takes_item, marks_item, takes_all, sees_all, seens_for, items_of}
use Rattle.linkmodel.specs.Telling.{SeenShows, WordShows, TakenShows, RoundTrip}
use Rattle.linkmodel.proofs.Wires.{row_at}
use Rattle.linkmodel.proofs.Newer.{newer_self, newer_upto, newer_next, newer_neither, same_not_older, neither_same, after_same}
use Rattle.linkmodel.proofs.Fitting.{grows_on, item_grows, mark_grows, words_grow}
use Rattle.linkmodel.proofs.Staying.{words_kept, seens_kept}

pub sees_sets : (e i c t : ℕ) (b : Box) → 0 < b.cost e → c ≡ (b.word i).number → t ≡ (b.word i).tag → (sees e i c t b).shown e i ≡ true
sees_sets e i c t b p q r =
    or_right (b.shown e i) (eqb e e && (eqb i i && (is_open e b && (eqb c (b.word i).number && eqb t (b.word i).tag))))
    (and_both (eqb e e) (eqb i i && (is_open e b && (eqb c (b.word i).number && eqb t (b.word i).tag))) (eq-eqb e e refl)
    (and_both (eqb i i) (is_open e b && (eqb c (b.word i).number && eqb t (b.word i).tag)) (eq-eqb i i refl)
    (and_both (is_open e b) (eqb c (b.word i).number && eqb t (b.word i).tag) (lt-ltb 0 (b.cost e) p)
    (and_both (eqb c (b.word i).number) (eqb t (b.word i).tag) (eq-eqb c (b.word i).number q) (eq-eqb t (b.word i).tag r)))))

pub seens_set : (e : ℕ) (xs : List Sight) (x : Sight) (ys : List Sight) (b : Box) → 0 < b.cost e → x.number ≡ (b.word x.about).number → x.tag ≡ (b.word x.about).tag → (sees_all e (xs ++ (x ∷ ys)) b).shown e x.about ≡ true
unfolding sees_all
seens_set e [] x ys b p q r = seens_kept e ys (sees e x.about x.number x.tag b) e x.about (sees_sets e x.about x.number x.tag b p q r)
seens_set e (y ∷ xs) x ys b p q r = seens_set e xs x ys (sees e y.about y.number y.tag b) p q r

pub seen_shows_lem : SeenShows
seen_shows_lem s e xs x ys p q r =
    subst (λ (b : Box). b.shown e x.about ≡ true) (sym (cond-true (eqb (s.links.last e) (s.links.last e)) (sees_all e (xs ++ (x ∷ ys)) s.box) s.box (eq-eqb (s.links.last e) (s.links.last e) refl)))
    (seens_set e xs x ys s.box p q r)

-- a word that comes changes neither the roads nor whose box it is
abbrev Place : Box → Box → Type 0
Place b c = (c.cost ≡ b.cost) × (c.me ≡ b.me)

item_place : (e : ℕ) (x : Item) (t : ℕ) (b : Box) → Place b (takes_item e x t b)
item_place e x t b =
    of_cond (Place b) (is_stuck (told_word e b.me x) b) b (takes (told_word e b.me x) t b) (λ _. (refl, refl))
    (λ _. of_cond (Place b) (is_new_to (told_word e b.me x) b) (has x.about (cond (eqb b.me x.about) (own_word x.entry.number t b) x.entry) b) b (λ _. (refl, refl)) (λ _. (refl, refl)))

mark_place : (fits : Bool) (e : ℕ) (x : Item) (b : Box) → Place b (marks_item fits e x b)
mark_place fits e x b = of_cond (Place b) fits (sees e x.about x.entry.number x.entry.tag b) b (λ _. (refl, refl)) (λ _. (refl, refl))

-- after a word came over an open road, the box has no older one
pub item_taken : (e : ℕ) (x : Item) (t : ℕ) (b : Box) → 0 < b.cost e → (x.about ≡ b.me → newer x.entry (b.word x.about) ≡ false) → newer x.entry ((takes_item e x t b).word x.about) ≡ false
item_taken e x t b p o =
    of_cond (λ (y : Box). newer x.entry (y.word x.about) ≡ false) (is_stuck (told_word e b.me x) b) b (takes (told_word e b.me x) t b)
    (λ z. o (sym (eqb-true b.me x.about (and_left (eqb b.me x.about) (is_new_to (told_word e b.me x) b && not (can_say x.entry.number)) z))))
    (λ _. of_cond (λ (y : Box). newer x.entry (y.word x.about) ≡ false) (is_new_to (told_word e b.me x) b) (has x.about new b) b
    (λ _. subst (λ (y : Entry). newer x.entry y ≡ false) (sym (row_at x.about new b.word))
    (of_cond (λ (y : Entry). newer x.entry y ≡ false) (eqb b.me x.about) (own_word x.entry.number t b) x.entry (λ _. newer_next x.entry (own_word x.entry.number t b) refl) (λ _. newer_self x.entry)))
    (λ z. shut (is_open e b) (newer x.entry (b.word x.about)) z (lt-ltb 0 (b.cost e) p)))
  where
    new : Entry
    new = cond (eqb b.me x.about) (own_word x.entry.number t b) x.entry

    shut : (c d : Bool) → (c && d) ≡ false → c ≡ true → d ≡ false
    shut true d q r = q
    shut false d q r = true_not_false false r refl

-- the word marks its teller if it is the one that the box has in the end
pub word_set : (fits : Bool) → fits ≡ true → (e : ℕ) (x : Item) (ys : List Item) (t : ℕ) (vs : List ℕ) (b : Box) → 0 < b.cost e → (x.about ≡ b.me → newer x.entry (b.word x.about) ≡ false) →
    same_word x.entry ((takes_all fits e ys vs (marks_item fits e x (takes_item e x t b))).word x.about) ≡ true → (takes_all fits e ys vs (marks_item fits e x (takes_item e x t b))).shown e x.about ≡ true
word_set fits y e x ys t vs b p o w =
    let c : Box = takes_item e x t b in
    let m : Box = marks_item fits e x c in
    let d : Box = takes_all fits e ys vs m in
    let i : ℕ = x.about in
    let xc : newer x.entry (c.word i) ≡ false = item_taken e x t b p o in
    let cm : newer (c.word i) (m.word i) ≡ false = mark_grows fits e x c i in
    let md : newer (m.word i) (d.word i) ≡ false = words_grow fits e ys vs m i in
    let dx : newer (d.word i) x.entry ≡ false = same_not_older x.entry (d.word i) w in
    let cx : newer (c.word i) x.entry ≡ false = newer_upto (c.word i) (d.word i) x.entry (newer_upto (c.word i) (m.word i) (d.word i) cm md) dx in
    let dm : newer (d.word i) (m.word i) ≡ false = newer_upto (d.word i) x.entry (m.word i) dx (newer_upto x.entry (c.word i) (m.word i) xc cm) in
    let same = newer_neither x.entry (c.word i) xc cx in
    let open' : 0 < c.cost e = subst (λ (f : ℕ → ℕ). 0 < f e) (sym (item_place e x t b).0) p in
    let set : m.shown e i ≡ true = subst (λ (z : Box). z.shown e i ≡ true) (sym (cond-true fits (sees e i x.entry.number x.entry.tag c) c y)) (sees_sets e i x.entry.number x.entry.tag c open' same.0 same.1) in
    words_kept fits e ys vs m e i set dm

pub words_set : (fits : Bool) → fits ≡ true → (e : ℕ) (xs : List Item) (x : Item) (ys : List Item) (us : List ℕ) (t : ℕ) (vs : List ℕ) (b : Box) → 0 < b.cost e → length us ≡ length xs →
    (x.about ≡ b.me → newer x.entry (b.word x.about) ≡ false) → same_word x.entry ((takes_all fits e (xs ++ (x ∷ ys)) (us ++ (t ∷ vs)) b).word x.about) ≡ true →
    (takes_all fits e (xs ++ (x ∷ ys)) (us ++ (t ∷ vs)) b).shown e x.about ≡ true
unfolding takes_all
words_set fits y e [] x ys [] t vs b p l o w = word_set fits y e x ys t vs b p o w
words_set fits y e [] x ys (u ∷ us) t vs b p l o w = absurd (omega arith)
words_set fits y e (z ∷ xs) x ys [] t vs b p l o w = absurd (omega arith)
words_set fits y e (z ∷ xs) x ys (u ∷ us) t vs b p l o w =
    let c : Box = takes_item e z u b in
    let m : Box = marks_item fits e z c in
    words_set fits y e xs x ys us t vs m (subst (λ (f : ℕ → ℕ). 0 < f e) (sym ((mark_place fits e z c).0 ∙ (item_place e z u b).0)) p) (omega arith)
    (λ q. newer_upto x.entry (b.word x.about) (m.word x.about) (o (q ∙ ((mark_place fits e z c).1 ∙ (item_place e z u b).1))) (grows_on b c m (item_grows e z u b) (mark_grows fits e z c) x.about)) w

pub word_shows_lem : WordShows
word_shows_lem s e xs x ys us t vs p l o w = words_set (eqb (s.links.last e) (s.links.last e)) (eq-eqb (s.links.last e) (s.links.last e) refl) e xs x ys us t vs s.box p l o w

-- a word of another box that isn't older is what the box has then
pub item_same : (e : ℕ) (x : Item) (t : ℕ) (b : Box) → 0 < b.cost e → (x.about ≡ b.me → ⊥) → newer (b.word x.about) x.entry ≡ false → newer ((takes_item e x t b).word x.about) x.entry ≡ false
item_same e x t b p o q =
    of_cond (λ (y : Box). newer (y.word x.about) x.entry ≡ false) (is_stuck (told_word e b.me x) b) b (takes (told_word e b.me x) t b) (λ _. q)
    (λ _. of_cond (λ (y : Box). newer (y.word x.about) x.entry ≡ false) (is_new_to (told_word e b.me x) b) (has x.about new b) b
    (λ _. subst (λ (y : Entry). newer y x.entry ≡ false) (sym (row_at x.about new b.word ∙ cond-false (eqb b.me x.about) (own_word x.entry.number t b) x.entry (ne_eqb b.me x.about (λ z. o (sym z))))) (newer_self x.entry))
    (λ _. q))
  where
    new : Entry
    new = cond (eqb b.me x.about) (own_word x.entry.number t b) x.entry

mark_word : (fits : Bool) (e : ℕ) (x : Item) (b : Box) → (marks_item fits e x b).word ≡ b.word
mark_word fits e x b = of_cond (λ (y : Box). y.word ≡ b.word) fits (sees e x.about x.entry.number x.entry.tag b) b (λ _. refl) (λ _. refl)

pub taken_shows_lem : TakenShows
unfolding takes_all
taken_shows_lem s e x t p o q =
    let fits : Bool = eqb (s.links.last e) (s.links.last e) in
    let c : Box = takes_item e x t s.box in
    let o' : x.about ≡ s.box.me → newer x.entry (s.box.word x.about) ≡ false = λ z. absurd (o z) in
    let same : same_word x.entry ((marks_item fits e x c).word x.about) ≡ true =
    subst (λ (f : ℕ → Entry). same_word x.entry (f x.about) ≡ true) (sym (mark_word fits e x c)) (neither_same x.entry (c.word x.about) (item_taken e x t s.box p o') (item_same e x t s.box p o q)) in
    (same, word_shows_lem s e [] x [] [] t [] p refl o' same)

-- seens of what was told show it, where all three have the same word
trip : (e i : ℕ) (is : List ℕ) (b c d : Box) → is_in i is ≡ true → same_word (b.word i) (c.word i) ≡ true → same_word (b.word i) (d.word i) ≡ true → 0 < d.cost e → (sees_all e (seens_for (items_of is b) c) d).shown e i ≡ true
unfolding is_in seens_for items_of sees_all
trip e i [] b c d h p q o = true_not_false false h refl
trip e i (j ∷ js) b c d h p q o = go (eqb j i) refl (λ f z w. trip e i js b c f z p w)
  where
    go : (y : Bool) → eqb j i ≡ y → ((f : Box) → is_in i js ≡ true → same_word (b.word i) (f.word i) ≡ true → 0 < f.cost e → (sees_all e (seens_for (items_of js b) c) f).shown e i ≡ true) →
        (sees_all e (cond (same_word (b.word j) (c.word j)) (record { about = j; number = (b.word j).number; tag = (b.word j).tag } ∷ seens_for (items_of js b) c) (seens_for (items_of js b) c)) d).shown e i ≡ true
    go true z ih =
        let ji : j ≡ i = eqb-true j i z in
        let same = after_same (b.word i).number (b.word i).tag (d.word i).number (d.word i).tag q in
        let hit : (sees e j (b.word j).number (b.word j).tag d).shown e i ≡ true =
        subst (λ (k : ℕ). (sees e k (b.word k).number (b.word k).tag d).shown e i ≡ true) (sym ji) (sees_sets e i (b.word i).number (b.word i).tag d o same.0 same.1) in
        subst (λ (l : List Sight). (sees_all e l d).shown e i ≡ true)
        (sym (cond-true (same_word (b.word j) (c.word j)) (record { about = j; number = (b.word j).number; tag = (b.word j).tag } ∷ seens_for (items_of js b) c) (seens_for (items_of js b) c) (subst (λ (k : ℕ). same_word (b.word k) (c.word k) ≡ true) (sym ji) p)))
        (seens_kept e (seens_for (items_of js b) c) (sees e j (b.word j).number (b.word j).tag d) e i hit)
    go false z ih =
        let rest : is_in i js ≡ true = subst (λ (y : Bool). (y || is_in i js) ≡ true) z h in
        of_cond (λ (l : List Sight). (sees_all e l d).shown e i ≡ true) (same_word (b.word j) (c.word j)) (record { about = j; number = (b.word j).number; tag = (b.word j).tag } ∷ seens_for (items_of js b) c) (seens_for (items_of js b) c)
        (λ _. ih (sees e j (b.word j).number (b.word j).tag d) rest q o) (λ _. ih d rest q o)

pub round_trip : RoundTrip
round_trip s c r e i h p q o l =
    subst (λ (b : Box). b.shown e i ≡ true)
    (sym (cond-true (eqb c.links.drawn (r.links.last e)) (sees_all e (seens_for (items_of (tells e s.box) s.box) c.box) r.box) r.box (eq-eqb c.links.drawn (r.links.last e) (sym l))))
    (trip e i (tells e s.box) s.box c.box r.box h p q o)
