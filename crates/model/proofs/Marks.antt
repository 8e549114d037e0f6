-- What a box counts as shown after each of its calls: no more than it may, and all that it must.
use Rattle.std.proofs.Common.{◌≡◌, ℕ, suc, ◌<◌, Bool, true, false, cond, not, ◌&&◌, ◌||◌, eqb, ltb, ◌⊎◌, sym, refl, ap, ◌∙◌, subst, inl, inr, arith}
use Rattle.std.proofs.lemmas.Bool.{eqb-true, eq-eqb, ne_eqb, lt-ltb, not-true, and_parts, and_from, and_left, or_cases, cond-true, cond-false, or_left, or_right}
use Rattle.std.proofs.lemmas.Bool.Decides.{nat_tests}
use Rattle.model.specs.Words.{Entry, Word, newer}
use Rattle.model.specs.Code.{same_word}
use Rattle.model.specs.Box.{Box, is_open, road_is, has, own_word, is_new_to, takes, sees, hears}
use Rattle.model.proofs.Tests.{of_cond, and_second}

pub same_self : (x : Entry) → same_word x x ≡ true
same_self x = and_from (eqb x.number x.number) (eqb x.tag x.tag) (eq-eqb x.number x.number refl) (eq-eqb x.tag x.tag refl)

-- what is newer is another word
newer_other : (x y : Entry) → newer x y ≡ true → same_word y x ≡ true → ⊥
newer_other x y h g = go x.number y.number x.tag y.tag h g
  where
    go : (m k t u : ℕ) → (ltb k m || (eqb k m && ltb u t)) ≡ true → (eqb k m && eqb u t) ≡ true → ⊥
    go m k t u h g = grind (arith, nat_tests)

-- and so is what is said above it
above_other : (x y z : Entry) → newer x y ≡ true → z.number ≡ suc x.number → same_word y z ≡ true → ⊥
above_other x y z h p g = go x.number y.number z.number x.tag y.tag z.tag h p g
  where
    go : (m k j t u v : ℕ) → (ltb k m || (eqb k m && ltb u t)) ≡ true → j ≡ suc m → (eqb k j && eqb u v) ≡ true → ⊥
    go m k j t u v h p g = grind (arith, nat_tests)

-- when a road opens nothing is shown over it
pub opens_blank : (s : Box) (e c i : ℕ) → is_open e s ≡ false → (road_is e c s).shown e i ≡ false
opens_blank s e c i h =
    ap (λ (b : Bool). cond b (λ j. is_open e s && (ltb 0 c && s.shown e j)) (s.shown e) i) (eq-eqb e e refl) ∙ and_left (is_open e s) (ltb 0 c && s.shown e i) h

-- after a change of a road no more is shown
pub road_mark : (s : Box) (e c f i : ℕ) → (road_is e c s).shown f i ≡ true → s.shown f i ≡ true
road_mark s e c f i h = go (eqb f e) refl h
  where
    go : (b : Bool) → eqb f e ≡ b → cond b (λ j. is_open e s && (ltb 0 c && s.shown e j)) (s.shown f) i ≡ true → s.shown f i ≡ true
    go true p q = ap (λ (k : ℕ). s.shown k i) (eqb-true f e p) ∙ (and_parts (ltb 0 c) (s.shown e i) (and_parts (is_open e s) (ltb 0 c && s.shown e i) q).1).1
    go false p q = q

-- and all that was over another road, or over this one if it was and stays open
pub road_keeps : (s : Box) (e c f i : ℕ) → s.shown f i ≡ true → (f ≡ e → (0 < c) × (0 < s.cost e)) → (road_is e c s).shown f i ≡ true
road_keeps s e c f i h g = go (eqb f e) refl
  where
    go : (b : Bool) → eqb f e ≡ b → cond b (λ j. is_open e s && (ltb 0 c && s.shown e j)) (s.shown f) i ≡ true
    go true p =
        let r = g (eqb-true f e p) in
        and_from (is_open e s) (ltb 0 c && s.shown e i) (lt-ltb 0 (s.cost e) r.1) (and_from (ltb 0 c) (s.shown e i) (lt-ltb 0 c r.0) (ap (λ (k : ℕ). s.shown k i) (sym (eqb-true f e p)) ∙ h))
    go false p = h

-- what is shown after it has another word of j was shown, and of the same word
pub has_mark : (s : Box) (j : ℕ) (y : Entry) (e i : ℕ) → (has j y s).shown e i ≡ true → (s.shown e i ≡ true) × ((has j y s).word i ≡ s.word i)
has_mark s j y e i h = let p = and_parts (not (eqb i j)) (s.shown e i) h in (p.1, cond-false (eqb i j) y (s.word i) (not-true (eqb i j) p.0))

pub has_keeps : (s : Box) (j : ℕ) (y : Entry) (e i : ℕ) → s.shown e i ≡ true → (i ≡ j → ⊥) → (has j y s).shown e i ≡ true
has_keeps s j y e i h g = and_from (not (eqb i j)) (s.shown e i) (ap not (ne_eqb i j g)) h

-- what it takes of a word that is new to it
abbrev taken : Word → ℕ → Box → Box
taken x t s = has x.about (cond (eqb s.me x.about) (own_word x.entry.number t s) x.entry) s

pub takes_mark : (s : Box) (x : Word) (t e i : ℕ) → (takes x t s).shown e i ≡ true → (s.shown e i ≡ true) × ((takes x t s).word i ≡ s.word i)
takes_mark s x t e i h =
    of_cond (λ (v : Box). v.shown e i ≡ true → (s.shown e i ≡ true) × (v.word i ≡ s.word i)) (is_new_to x s) (taken x t s) s
    (λ _. has_mark s x.about (cond (eqb s.me x.about) (own_word x.entry.number t s) x.entry) e i) (λ _ g. (g, refl)) h

-- a word that is taken isn't the one that was had
taken_other : (s : Box) (x : Word) (t : ℕ) → is_new_to x s ≡ true → same_word (s.word x.about) (cond (eqb s.me x.about) (own_word x.entry.number t s) x.entry) ≡ true → ⊥
taken_other s x t h g =
    let n : newer x.entry (s.word x.about) ≡ true = and_second (is_open x.from s) (newer x.entry (s.word x.about)) h in
    of_cond (λ (y : Entry). same_word (s.word x.about) y ≡ true → ⊥) (eqb s.me x.about) (own_word x.entry.number t s) x.entry
    (λ _. above_other x.entry (s.word x.about) (own_word x.entry.number t s) n refl) (λ _. newer_other x.entry (s.word x.about) n) g

pub takes_keeps : (s : Box) (x : Word) (t e i : ℕ) → s.shown e i ≡ true → same_word (s.word i) ((takes x t s).word i) ≡ true → (takes x t s).shown e i ≡ true
takes_keeps s x t e i h g =
    of_cond (λ (v : Box). same_word (s.word i) (v.word i) ≡ true → v.shown e i ≡ true) (is_new_to x s) (taken x t s) s
    (λ new same. has_keeps s x.about (cond (eqb s.me x.about) (own_word x.entry.number t s) x.entry) e i h
    (λ at. taken_other s x t new
    (subst (λ (k : ℕ). same_word (s.word k) (cond (eqb s.me x.about) (own_word x.entry.number t s) x.entry) ≡ true) at
    (subst (λ (y : Entry). same_word (s.word i) y ≡ true) (cond-true (eqb i x.about) (cond (eqb s.me x.about) (own_word x.entry.number t s) x.entry) (s.word i) (eq-eqb i x.about at)) same))))
    (λ _ _. h) g

-- a box that takes a word keeps its roads
pub takes_cost : (s : Box) (x : Word) (t : ℕ) → (takes x t s).cost ≡ s.cost
takes_cost s x t = of_cond (λ (v : Box). v.cost ≡ s.cost) (is_new_to x s) (taken x t s) s (λ _. refl) (λ _. refl)

-- a mark for e of i is one only for these
seen_for : (e f i j c t : ℕ) (o : Bool) (g : ℕ → Entry) → (eqb f e && (eqb j i && (o && (eqb c (g i).number && eqb t (g i).tag)))) ≡ true → (eqb e f && (eqb i j && (eqb c (g j).number && eqb t (g j).tag))) ≡ true
seen_for e f i j c t o g h =
    let p = and_parts (eqb f e) (eqb j i && (o && (eqb c (g i).number && eqb t (g i).tag))) h in
    let q = and_parts (eqb j i) (o && (eqb c (g i).number && eqb t (g i).tag)) p.1 in
    let r : (eqb c (g i).number && eqb t (g i).tag) ≡ true = and_second o (eqb c (g i).number && eqb t (g i).tag) q.1 in
    let ji : j ≡ i = eqb-true j i q.0 in
    and_from (eqb e f) (eqb i j && (eqb c (g j).number && eqb t (g j).tag)) (eq-eqb e f (sym (eqb-true f e p.0)))
    (and_from (eqb i j) (eqb c (g j).number && eqb t (g j).tag) (eq-eqb i j (sym ji)) (subst (λ (k : ℕ). (eqb c (g k).number && eqb t (g k).tag) ≡ true) (sym ji) r))

pub sees_mark : (s : Box) (k j c t e i : ℕ) → (sees k j c t s).shown e i ≡ true → (s.shown e i || (eqb k e && (eqb j i && (eqb c (s.word i).number && eqb t (s.word i).tag)))) ≡ true
sees_mark s k j c t e i h =
    go (or_cases (s.shown e i) (eqb e k && (eqb i j && (is_open k s && (eqb c (s.word j).number && eqb t (s.word j).tag)))) h)
  where
    go : (s.shown e i ≡ true) ⊎ ((eqb e k && (eqb i j && (is_open k s && (eqb c (s.word j).number && eqb t (s.word j).tag)))) ≡ true) →
        (s.shown e i || (eqb k e && (eqb j i && (eqb c (s.word i).number && eqb t (s.word i).tag)))) ≡ true
    go (inl a) = or_left (s.shown e i) (eqb k e && (eqb j i && (eqb c (s.word i).number && eqb t (s.word i).tag))) a
    go (inr b) = or_right (s.shown e i) (eqb k e && (eqb j i && (eqb c (s.word i).number && eqb t (s.word i).tag))) (seen_for k e j i c t (is_open k s) s.word b)

-- a mark for the very word that it has, over an open road, is made
pub sees_shows : (s : Box) (e i c t : ℕ) → 0 < s.cost e → (eqb c (s.word i).number && eqb t (s.word i).tag) ≡ true → (sees e i c t s).shown e i ≡ true
sees_shows s e i c t o h =
    or_right (s.shown e i) (eqb e e && (eqb i i && (is_open e s && (eqb c (s.word i).number && eqb t (s.word i).tag))))
    (and_from (eqb e e) (eqb i i && (is_open e s && (eqb c (s.word i).number && eqb t (s.word i).tag))) (eq-eqb e e refl)
    (and_from (eqb i i) (is_open e s && (eqb c (s.word i).number && eqb t (s.word i).tag)) (eq-eqb i i refl)
    (and_from (is_open e s) (eqb c (s.word i).number && eqb t (s.word i).tag) (lt-ltb 0 (s.cost e) o) h)))

pub sees_keeps : (s : Box) (k j c t e i : ℕ) → s.shown e i ≡ true → (sees k j c t s).shown e i ≡ true
sees_keeps s k j c t e i h = or_left (s.shown e i) (eqb e k && (eqb i j && (is_open k s && (eqb c (s.word j).number && eqb t (s.word j).tag)))) h

pub hears_mark : (s : Box) (x : Word) (t e i : ℕ) → (hears x t s).shown e i ≡ true →
    ((s.shown e i && same_word ((takes x t s).word i) (s.word i)) || (eqb x.from e && (eqb x.about i && same_word x.entry ((takes x t s).word i)))) ≡ true
hears_mark s x t e i h =
    go (or_cases ((takes x t s).shown e i) (eqb x.from e && (eqb x.about i && same_word x.entry ((takes x t s).word i))) (sees_mark (takes x t s) x.from x.about x.entry.number x.entry.tag e i h))
  where
    old : Bool
    old = s.shown e i && same_word ((takes x t s).word i) (s.word i)

    new : Bool
    new = eqb x.from e && (eqb x.about i && same_word x.entry ((takes x t s).word i))

    go : ((takes x t s).shown e i ≡ true) ⊎ (new ≡ true) → (old || new) ≡ true
    go (inl a) =
        let p = takes_mark s x t e i a in
        or_left old new (and_from (s.shown e i) (same_word ((takes x t s).word i) (s.word i)) p.0 (ap (λ (y : Entry). same_word y (s.word i)) p.1 ∙ same_self (s.word i)))
    go (inr b) = or_right old new b

-- the word itself, told by a neighbour over an open road
pub hears_shows : (s : Box) (x : Word) (t : ℕ) → 0 < s.cost x.from → same_word x.entry ((takes x t s).word x.about) ≡ true → (hears x t s).shown x.from x.about ≡ true
hears_shows s x t o h = sees_shows (takes x t s) x.from x.about x.entry.number x.entry.tag (subst (λ (f : ℕ → ℕ). 0 < f x.from) (sym (takes_cost s x t)) o) h

pub hears_keeps : (s : Box) (x : Word) (t e i : ℕ) → s.shown e i ≡ true → same_word (s.word i) ((takes x t s).word i) ≡ true → (hears x t s).shown e i ≡ true
hears_keeps s x t e i h g = sees_keeps (takes x t s) x.from x.about x.entry.number x.entry.tag e i (takes_keeps s x t e i h g)
