-- What is shown stays shown while the word stays, over each thing that a box does.
use Rattle.std.proofs.Common.{◌≡◌, ℕ, ◌<◌, Bool, true, false, cond, not, ◌&&◌, eqb, ltb, List, [], ◌∷◌, sym, refl, subst, arith, lt-ltb, eq-eqb, eqb-true}
use Rattle.model.specs.Words.{Entry, Word, newer}
use Rattle.model.specs.Box.{Box, is_open, has, own_word, says_now, is_new_to, takes, sees, must_say}
use Rattle.model.proofs.Tests.{of_cond, cond-true, or_left}
use Rattle.linkmodel.proofs.Bools.{true_not_false, and_right, and_both, not_is}
use Rattle.linkmodel.specs.Links.{Links, lowest_to, road_cost, passes, fell}
use Rattle.linkmodel.specs.Relinked.{relinked}
use Rattle.linkmodel.specs.Station.{Station, Item, Bundle, Sight, Seens, told_word, can_say, is_stuck, takes_item, marks_item, takes_all, sees_all, says_if_owed, heard_words, heard_seens, falls, ticks}
use Rattle.linkmodel.specs.Telling.{KeepsShown}
use Rattle.linkmodel.proofs.Newer.{newer_upto, newer_over, newer_above, same_not_older}
use Rattle.linkmodel.proofs.Fitting.{Grows, grows_on, item_grows, mark_grows, words_grow}

-- what is shown stays so where the word got no newer
abbrev pub Kept : Box → Box → Type 0
Kept b c = (e i : ℕ) → b.shown e i ≡ true → newer (c.word i) (b.word i) ≡ false → c.shown e i ≡ true

pub kept_self : (b : Box) → Kept b b
kept_self b e i h q = h

pub kept_on : (a b c : Box) → Grows a b → Grows b c → Kept a b → Kept b c → Kept a c
kept_on a b c p q k l e i h n = l e i (k e i h (newer_upto (b.word i) (c.word i) (a.word i) (q i) n)) (newer_upto (c.word i) (a.word i) (b.word i) n (p i))

pub has_kept : (i : ℕ) (x : Entry) (b : Box) → newer x (b.word i) ≡ true → Kept b (has i x b)
has_kept i x b p e j h = go (eqb j i) refl
  where
    go : (c : Bool) → eqb j i ≡ c → newer (cond (eqb j i) x (b.word j)) (b.word j) ≡ false → (not (eqb j i) && b.shown e j) ≡ true
    go true z q = true_not_false (newer x (b.word j)) (subst (λ (y : ℕ). newer x (b.word y) ≡ true) (sym (eqb-true j i z)) p) (subst (λ (y : Entry). newer y (b.word j) ≡ false) (cond-true (eqb j i) x (b.word j) z) q)
    go false z q = and_both (not (eqb j i)) (b.shown e j) (not_is (eqb j i) z) h

pub takes_kept : (x : Word) (t : ℕ) (b : Box) → Kept b (takes x t b)
takes_kept x t b =
    of_cond (Kept b) (is_new_to x b) (has x.about (cond (eqb b.me x.about) (own_word x.entry.number t b) x.entry) b) b
    (λ e. has_kept x.about (cond (eqb b.me x.about) (own_word x.entry.number t b) x.entry) b
    (of_cond (λ (y : Entry). newer y (b.word x.about) ≡ true) (eqb b.me x.about) (own_word x.entry.number t b) x.entry
    (λ _. newer_over x.entry (b.word x.about) (own_word x.entry.number t b) (and_right (is_open x.from b) (newer x.entry (b.word x.about)) e) refl)
    (λ _. and_right (is_open x.from b) (newer x.entry (b.word x.about)) e)))
    (λ _. kept_self b)

pub item_kept : (e : ℕ) (x : Item) (t : ℕ) (b : Box) → Kept b (takes_item e x t b)
item_kept e x t b = of_cond (Kept b) (is_stuck (told_word e b.me x) b) b (takes (told_word e b.me x) t b) (λ _. kept_self b) (λ _. takes_kept (told_word e b.me x) t b)

-- a seen clears nothing
pub sees_kept : (e i c t : ℕ) (b : Box) (f j : ℕ) → b.shown f j ≡ true → (sees e i c t b).shown f j ≡ true
sees_kept e i c t b f j h = or_left (b.shown f j) (eqb f e && (eqb j i && (is_open e b && (eqb c (b.word i).number && eqb t (b.word i).tag)))) h

pub mark_kept : (fits : Bool) (e : ℕ) (x : Item) (b : Box) → Kept b (marks_item fits e x b)
mark_kept fits e x b =
    of_cond (Kept b) fits (sees e x.about x.entry.number x.entry.tag b) b (λ _ f j h q. sees_kept e x.about x.entry.number x.entry.tag b f j h) (λ _. kept_self b)

pub words_kept : (fits : Bool) (e : ℕ) (xs : List Item) (ts : List ℕ) (b : Box) → Kept b (takes_all fits e xs ts b)
unfolding takes_all
words_kept fits e [] ts b = kept_self b
words_kept fits e (x ∷ xs) [] b = kept_self b
words_kept fits e (x ∷ xs) (t ∷ ts) b =
    let c = takes_item e x t b in
    let m = marks_item fits e x c in
    kept_on b m (takes_all fits e xs ts m) (grows_on b c m (item_grows e x t b) (mark_grows fits e x c)) (words_grow fits e xs ts m)
    (kept_on b c m (item_grows e x t b) (mark_grows fits e x c) (item_kept e x t b) (mark_kept fits e x c)) (words_kept fits e xs ts m)

pub seens_kept : (e : ℕ) (xs : List Sight) (b : Box) (f j : ℕ) → b.shown f j ≡ true → (sees_all e xs b).shown f j ≡ true
unfolding sees_all
seens_kept e [] b f j h = h
seens_kept e (x ∷ xs) b f j h = seens_kept e xs (sees e x.about x.number x.tag b) f j (sees_kept e x.about x.number x.tag b f j h)

pub owed_kept : (t : ℕ) (b : Box) → Kept b (says_if_owed t b)
owed_kept t b =
    of_cond (Kept b) (must_say b && can_say (b.word b.me).number) (says_now t b) b
    (λ _. has_kept b.me (own_word (b.word b.me).number t b) b (newer_above (b.word b.me) (own_word (b.word b.me).number t b) refl)) (λ _. kept_self b)

-- over changed links it stays where the road was and is open, under the same number
pub relinked_kept : (before after : Links) (b : Box) (e i : ℕ) → b.shown e i ≡ true → 0 < road_cost e before → 0 < road_cost e after → after.last e ≡ before.last e → (relinked before after b).shown e i ≡ true
relinked_kept before after b e i h p q l =
    and_both (eqb (before.last e) (after.last e)) (ltb 0 (road_cost e before) && (ltb 0 (road_cost e after) && b.shown e i)) (eq-eqb (before.last e) (after.last e) (sym l))
    (and_both (ltb 0 (road_cost e before)) (ltb 0 (road_cost e after) && b.shown e i) (lt-ltb 0 (road_cost e before) p) (and_both (ltb 0 (road_cost e after)) (b.shown e i) (lt-ltb 0 (road_cost e after) q) h))

-- what is shown stays so over each thing that a whole box does: over nothing,
pub keeps_self : (s : Station) → KeepsShown s s
keeps_self s e i h p q l w = h

-- over changed links, by a hello or by new costs,
pub keeps_hello : (s : Station) (after : Links) → KeepsShown s (record { links = after; box = relinked s.links after s.box })
keeps_hello s after e i h p q l w = relinked_kept s.links after s.box e i h p q l

-- over a tick,
pub keeps_ticks : (t : ℕ) (s : Station) → KeepsShown s (ticks t s)
keeps_ticks t s e i h p q l w =
    owed_kept t (relinked s.links (passes s.links) s.box) e i (relinked_kept s.links (passes s.links) s.box e i h p q l) (same_not_older (s.box.word i) ((ticks t s).box.word i) w)

-- over a packet of words,
pub keeps_words : (e : ℕ) (p : Bundle) (ts : List ℕ) (s : Station) → KeepsShown s (heard_words e p ts s)
keeps_words g p ts s e i h a b l w =
    words_kept (eqb p.drawn (s.links.last g)) g p.items ts s.box e i h (same_not_older (s.box.word i) ((heard_words g p ts s).box.word i) w)

-- over one of seens,
pub keeps_seens : (e : ℕ) (p : Seens) (s : Station) → KeepsShown s (heard_seens e p s)
keeps_seens g p s e i h a b l w =
    of_cond (λ (y : Box). y.shown e i ≡ true) (eqb p.drawn (s.links.last g)) (sees_all g p.items s.box) s.box (λ _. seens_kept g p.items s.box e i h) (λ _. h)

-- no road is open after a fall
fell_shut : (d : ℕ) (s : Links) (e : ℕ) → road_cost e (fell d s) ≡ 0
unfolding lowest_to
fell_shut d s e = refl

-- and over a fall
pub keeps_falls : (d : ℕ) (s : Station) → KeepsShown s (falls d s)
keeps_falls d s e i h a b l w = let z : road_cost e (fell d s.links) ≡ 0 = fell_shut d s.links e in absurd (omega arith)
