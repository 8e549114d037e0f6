-- What a packet leaves: whoever takes one has nothing older than what was told, and the frame that comes is what its box takes.
use Rattle.std.proofs.Common.{◌≡◌, ℕ, ◌<◌, ◌≤◌, Bool, true, false, cond, not, ◌&&◌, ◌||◌, T, eqb, List, [], ◌∷◌, length, sym, refl, ◌∙◌, subst, arith, lt-ltb, eqb-true}
use Rattle.model.specs.Words.{Entry, Word, newer, is_in}
use Rattle.model.specs.Box.{Box, is_open, has, own_word, is_new_to, takes, sees}
use Rattle.model.proofs.Tests.{of_cond, cond-false, left_t, right_t}
use Rattle.linkmodel.proofs.Bools.{true_not_false}
use Rattle.linkmodel.specs.Station.{Item, told_word, is_stuck, takes_item, marks_item, takes_all, items_of}
use Rattle.linkmodel.specs.Calls.{none_stuck}
use Rattle.linkmodel.proofs.Wires.{row_at}
use Rattle.linkmodel.proofs.Newer.{newer_self, newer_next, newer_upto}
use Rattle.linkmodel.proofs.Fitting.{mark_grows, words_grow}

not_t : (b : Bool) → T (not b) → b ≡ false
not_t true h = absurd h
not_t false h = refl

second_fails : (b c : Bool) → (b && c) ≡ false → b ≡ true → c ≡ false
second_fails true c h e = h
second_fails false c h e = true_not_false false e refl

-- one word
item_told : (e : ℕ) (x : Item) (t : ℕ) (b : Box) → 0 < b.cost e → is_stuck (told_word e b.me x) b ≡ false → newer x.entry ((takes_item e x t b).word x.about) ≡ false
item_told e x t b p q =
    subst (λ (y : Box). newer x.entry (y.word x.about) ≡ false) (sym (cond-false (is_stuck w b) b (takes w t b) q))
    (of_cond (λ (y : Box). newer x.entry (y.word x.about) ≡ false) (is_new_to w b) (has x.about new b) b
    (λ _. subst (λ (y : Entry). newer x.entry y ≡ false) (sym (row_at x.about new b.word))
    (of_cond (λ (y : Entry). newer x.entry y ≡ false) (eqb b.me x.about) (own_word x.entry.number t b) x.entry (λ _. newer_next x.entry (own_word x.entry.number t b) refl) (λ _. newer_self x.entry)))
    (λ z. second_fails (is_open e b) (newer x.entry (b.word x.about)) z (lt-ltb 0 (b.cost e) p)))
  where
    w : Word
    w = told_word e b.me x

    new : Entry
    new = cond (eqb b.me x.about) (own_word x.entry.number t b) x.entry

-- the roads stay
item_roads : (e : ℕ) (x : Item) (t : ℕ) (b : Box) → (takes_item e x t b).cost ≡ b.cost
item_roads e x t b =
    of_cond (λ (y : Box). y.cost ≡ b.cost) (is_stuck (told_word e b.me x) b) b (takes (told_word e b.me x) t b) (λ _. refl)
    (λ _. of_cond (λ (y : Box). y.cost ≡ b.cost) (is_new_to (told_word e b.me x) b) (has x.about (cond (eqb b.me x.about) (own_word x.entry.number t b) x.entry) b) b (λ _. refl) (λ _. refl))

mark_roads : (fits : Bool) (e : ℕ) (x : Item) (b : Box) → (marks_item fits e x b).cost ≡ b.cost
mark_roads fits e x b = of_cond (λ (y : Box). y.cost ≡ b.cost) fits (sees e x.about x.entry.number x.entry.tag b) b (λ _. refl) (λ _. refl)

-- a packet of what c has of each of is
pub packet_told : (fits : Bool) (e i : ℕ) (c : Box) (is ts : List ℕ) (b : Box) → is_in i is ≡ true → 0 < b.cost e → length (items_of is c) ≤ length ts → T (none_stuck fits e (items_of is c) ts b) →
    newer (c.word i) ((takes_all fits e (items_of is c) ts b).word i) ≡ false
unfolding items_of takes_all none_stuck is_in
packet_told fits e i c [] ts b h p l q = true_not_false false h refl
packet_told fits e i c (j ∷ js) [] b h p l q = absurd (omega arith)
packet_told fits e i c (j ∷ js) (t ∷ ts) b h p l q = go (eqb j i) refl (λ k. packet_told fits e i c js ts m k open' (omega arith) (right_t (not (is_stuck (told_word e b.me x) b)) (none_stuck fits e (items_of js c) ts m) q))
  where
    x : Item
    x = record { about = j; entry = c.word j }

    m : Box
    m = marks_item fits e x (takes_item e x t b)

    open' : 0 < m.cost e
    open' = subst (λ (f : ℕ → ℕ). 0 < f e) (sym (mark_roads fits e x (takes_item e x t b) ∙ item_roads e x t b)) p

    go : (y : Bool) → eqb j i ≡ y → (is_in i js ≡ true → newer (c.word i) ((takes_all fits e (items_of js c) ts m).word i) ≡ false) → newer (c.word i) ((takes_all fits e (items_of js c) ts m).word i) ≡ false
    go true z ih =
        let u : newer (c.word j) ((takes_item e x t b).word j) ≡ false = item_told e x t b p (not_t (is_stuck (told_word e b.me x) b) (left_t (not (is_stuck (told_word e b.me x) b)) (none_stuck fits e (items_of js c) ts m) q)) in
        let v : newer ((takes_item e x t b).word j) (m.word j) ≡ false = mark_grows fits e x (takes_item e x t b) j in
        let g : newer (m.word j) ((takes_all fits e (items_of js c) ts m).word j) ≡ false = words_grow fits e (items_of js c) ts m j in
        subst (λ (k : ℕ). newer (c.word k) ((takes_all fits e (items_of js c) ts m).word k) ≡ false) (eqb-true j i z)
        (newer_upto (c.word j) (m.word j) ((takes_all fits e (items_of js c) ts m).word j) (newer_upto (c.word j) ((takes_item e x t b).word j) (m.word j) u v) g)
    go false z ih = ih (subst (λ (y : Bool). (y || is_in i js) ≡ true) z h)
