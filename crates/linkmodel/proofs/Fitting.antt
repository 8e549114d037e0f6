-- One box beside the others: its words only grow, and what it has as shown by a box of which it has the present number isn't newer there, over each thing that the box does.
use Rattle.std.proofs.Common.{◌≡◌, ℕ, Bool, true, false, cond, not, ◌&&◌, ◌||◌, eqb, ltb, List, [], ◌∷◌, sym, refl, ◌∙◌, subst, eqb-true}
use Rattle.model.specs.Words.{Entry, Word, newer}
use Rattle.model.specs.Box.{Box, is_open, has, own_word, says_now, is_new_to, takes, sees, must_say}
use Rattle.linkmodel.proofs.Newer.{after}
use Rattle.model.proofs.Tests.{of_cond}
use Rattle.linkmodel.proofs.Bools.{true_not_false, and_left, and_right, not-was}
use Rattle.linkmodel.specs.Links.{Links, road_cost}
use Rattle.linkmodel.specs.Relinked.{relinked}
use Rattle.linkmodel.specs.Station.{Item, Sight, told_word, can_say, is_stuck, takes_item, marks_item, takes_all, sees_all, says_if_owed}
use Rattle.linkmodel.proofs.Newer.{newer_self, newer_upto, newer_asym, newer_suc, newer_next}

-- all of a list
abbrev pub Every : {A : Type 0} → (A → Type 0) → List A → Type 0
Every P [] = Unit {0}
Every P (x ∷ xs) = P x × Every P xs

pub every_map : {A : Type 0} (P Q : A → Type 0) (xs : List A) → ((x : A) → P x → Q x) → Every P xs → Every Q xs
every_map P Q [] f h = tt
every_map P Q (x ∷ xs) f h = (f x h.0, every_map P Q xs f h.1)

-- no word of b is newer than that of c
abbrev pub Grows : Box → Box → Type 0
Grows b c = (i : ℕ) → newer (b.word i) (c.word i) ≡ false

-- d f: the present number of f; v f j: its word of j; last f: the number that this box last heard of f
abbrev pub Fitting : (ℕ → ℕ) → (ℕ → ℕ → Entry) → (ℕ → ℕ) → Box → Type 0
Fitting d v last b = (f j : ℕ) → b.shown f j ≡ true → last f ≡ d f → newer (b.word j) (v f j) ≡ false

-- an item isn't newer than what f has
abbrev pub OldItem : (ℕ → Entry) → Item → Type 0
OldItem v x = newer x.entry (v x.about) ≡ false

abbrev pub OldSight : (ℕ → Entry) → Sight → Type 0
OldSight v x = after x.number x.tag (v x.about).number (v x.about).tag ≡ false

pub grows_self : (b : Box) → Grows b b
grows_self b i = newer_self (b.word i)

pub grows_on : (a b c : Box) → Grows a b → Grows b c → Grows a c
grows_on a b c p q i = newer_upto (a.word i) (b.word i) (c.word i) (p i) (q i)

-- a new word clears its column
pub has_fits : (d : ℕ → ℕ) (v : ℕ → ℕ → Entry) (last : ℕ → ℕ) (i : ℕ) (x : Entry) (b : Box) → Fitting d v last b → Fitting d v last (has i x b)
has_fits d v last i x b k f j h c =
    of_cond (λ (y : Entry). newer y (v f j) ≡ false) (eqb j i) x (b.word j)
    (λ e. true_not_false (eqb j i) e (not-was (eqb j i) (and_left (not (eqb j i)) (b.shown f j) h)))
    (λ _. k f j (and_right (not (eqb j i)) (b.shown f j) h) c)

pub has_grows : (i : ℕ) (x : Entry) (b : Box) → newer (b.word i) x ≡ false → Grows b (has i x b)
has_grows i x b h j =
    of_cond (λ (y : Entry). newer (b.word j) y ≡ false) (eqb j i) x (b.word j)
    (λ e. subst (λ (z : ℕ). newer (b.word z) x ≡ false) (sym (eqb-true j i e)) h)
    (λ _. newer_self (b.word j))

pub takes_fits : (d : ℕ → ℕ) (v : ℕ → ℕ → Entry) (last : ℕ → ℕ) (x : Word) (t : ℕ) (b : Box) → Fitting d v last b → Fitting d v last (takes x t b)
takes_fits d v last x t b k =
    of_cond (Fitting d v last) (is_new_to x b) (has x.about (cond (eqb b.me x.about) (own_word x.entry.number t b) x.entry) b) b
    (λ _. has_fits d v last x.about (cond (eqb b.me x.about) (own_word x.entry.number t b) x.entry) b k) (λ _. k)

pub takes_grows : (x : Word) (t : ℕ) (b : Box) → Grows b (takes x t b)
takes_grows x t b =
    of_cond (Grows b) (is_new_to x b) (has x.about (cond (eqb b.me x.about) (own_word x.entry.number t b) x.entry) b) b
    (λ e. has_grows x.about (cond (eqb b.me x.about) (own_word x.entry.number t b) x.entry) b
    (of_cond (λ (y : Entry). newer (b.word x.about) y ≡ false) (eqb b.me x.about) (own_word x.entry.number t b) x.entry
    (λ _. newer_suc x.entry (b.word x.about) (own_word x.entry.number t b) (and_right (is_open x.from b) (newer x.entry (b.word x.about)) e) refl)
    (λ _. newer_asym x.entry (b.word x.about) (and_right (is_open x.from b) (newer x.entry (b.word x.about)) e))))
    (λ _. grows_self b)

pub item_fits : (d : ℕ → ℕ) (v : ℕ → ℕ → Entry) (last : ℕ → ℕ) (e : ℕ) (x : Item) (t : ℕ) (b : Box) → Fitting d v last b → Fitting d v last (takes_item e x t b)
item_fits d v last e x t b k =
    of_cond (Fitting d v last) (is_stuck (told_word e b.me x) b) b (takes (told_word e b.me x) t b) (λ _. k) (λ _. takes_fits d v last (told_word e b.me x) t b k)

pub item_grows : (e : ℕ) (x : Item) (t : ℕ) (b : Box) → Grows b (takes_item e x t b)
item_grows e x t b = of_cond (Grows b) (is_stuck (told_word e b.me x) b) b (takes (told_word e b.me x) t b) (λ _. grows_self b) (λ _. takes_grows (told_word e b.me x) t b)

-- a test of two parts passed
or_either : {A : Type 0} (p q : Bool) → (p || q) ≡ true → (p ≡ true → A) → (q ≡ true → A) → A
or_either true q e f g = f refl
or_either false q e f g = g e

-- a seen of what e has no older
pub sees_fits : (d : ℕ → ℕ) (v : ℕ → ℕ → Entry) (last : ℕ → ℕ) (e i c t : ℕ) (b : Box) → (last e ≡ d e → after c t (v e i).number (v e i).tag ≡ false) → Fitting d v last b → Fitting d v last (sees e i c t b)
sees_fits d v last e i c t b o k f j h l =
    or_either (b.shown f j) (eqb f e && (eqb j i && (is_open e b && (eqb c (b.word i).number && eqb t (b.word i).tag)))) h (λ s. k f j s l) new
  where
    new : (eqb f e && (eqb j i && (is_open e b && (eqb c (b.word i).number && eqb t (b.word i).tag)))) ≡ true → newer (b.word j) (v f j) ≡ false
    new s =
        let s1 = and_right (eqb f e) (eqb j i && (is_open e b && (eqb c (b.word i).number && eqb t (b.word i).tag))) s in
        let s2 = and_right (eqb j i) (is_open e b && (eqb c (b.word i).number && eqb t (b.word i).tag)) s1 in
        let s3 = and_right (is_open e b) (eqb c (b.word i).number && eqb t (b.word i).tag) s2 in
        let fe : f ≡ e = eqb-true f e (and_left (eqb f e) (eqb j i && (is_open e b && (eqb c (b.word i).number && eqb t (b.word i).tag))) s) in
        let ji : j ≡ i = eqb-true j i (and_left (eqb j i) (is_open e b && (eqb c (b.word i).number && eqb t (b.word i).tag)) s1) in
        let cn : c ≡ (b.word i).number = eqb-true c (b.word i).number (and_left (eqb c (b.word i).number) (eqb t (b.word i).tag) s3) in
        let tn : t ≡ (b.word i).tag = eqb-true t (b.word i).tag (and_right (eqb c (b.word i).number) (eqb t (b.word i).tag) s3) in
        let old : after c t (v e i).number (v e i).tag ≡ false = o (subst (λ (z : ℕ). last z ≡ d z) fe l) in
        let now : newer (b.word i) (v e i) ≡ false =
        subst (λ (z : ℕ). after (b.word i).number z (v e i).number (v e i).tag ≡ false) tn (subst (λ (z : ℕ). after z t (v e i).number (v e i).tag ≡ false) cn old) in
        subst (λ (z : ℕ). newer (b.word j) (v z j) ≡ false) (sym fe) (subst (λ (z : ℕ). newer (b.word z) (v e z) ≡ false) (sym ji) now)

pub mark_fits : (d : ℕ → ℕ) (v : ℕ → ℕ → Entry) (last : ℕ → ℕ) (fits : Bool) (e : ℕ) (x : Item) (b : Box) → (fits ≡ true → last e ≡ d e → OldItem (v e) x) → Fitting d v last b → Fitting d v last (marks_item fits e x b)
mark_fits d v last fits e x b o k =
    of_cond (Fitting d v last) fits (sees e x.about x.entry.number x.entry.tag b) b (λ y. sees_fits d v last e x.about x.entry.number x.entry.tag b (o y) k) (λ _. k)

pub mark_grows : (fits : Bool) (e : ℕ) (x : Item) (b : Box) → Grows b (marks_item fits e x b)
mark_grows fits e x b = of_cond (Grows b) fits (sees e x.about x.entry.number x.entry.tag b) b (λ _. grows_self b) (λ _. grows_self b)

-- a packet of words
pub words_fit : (d : ℕ → ℕ) (v : ℕ → ℕ → Entry) (last : ℕ → ℕ) (fits : Bool) (e : ℕ) (xs : List Item) (ts : List ℕ) (b : Box) →
    (fits ≡ true → last e ≡ d e → Every (OldItem (v e)) xs) → Fitting d v last b → Fitting d v last (takes_all fits e xs ts b)
unfolding takes_all
words_fit d v last fits e [] ts b o k = k
words_fit d v last fits e (x ∷ xs) [] b o k = k
words_fit d v last fits e (x ∷ xs) (t ∷ ts) b o k =
    words_fit d v last fits e xs ts (marks_item fits e x (takes_item e x t b)) (λ y l. (o y l).1)
    (mark_fits d v last fits e x (takes_item e x t b) (λ y l. (o y l).0) (item_fits d v last e x t b k))

pub words_grow : (fits : Bool) (e : ℕ) (xs : List Item) (ts : List ℕ) (b : Box) → Grows b (takes_all fits e xs ts b)
unfolding takes_all
words_grow fits e [] ts b = grows_self b
words_grow fits e (x ∷ xs) [] b = grows_self b
words_grow fits e (x ∷ xs) (t ∷ ts) b =
    let c = takes_item e x t b in
    let m = marks_item fits e x c in
    grows_on b m (takes_all fits e xs ts m) (grows_on b c m (item_grows e x t b) (mark_grows fits e x c)) (words_grow fits e xs ts m)

-- a packet of seens
pub seens_fit : (d : ℕ → ℕ) (v : ℕ → ℕ → Entry) (last : ℕ → ℕ) (e : ℕ) (xs : List Sight) (b : Box) → (last e ≡ d e → Every (OldSight (v e)) xs) → Fitting d v last b → Fitting d v last (sees_all e xs b)
unfolding sees_all
seens_fit d v last e [] b o k = k
seens_fit d v last e (x ∷ xs) b o k = seens_fit d v last e xs (sees e x.about x.number x.tag b) (λ l. (o l).1) (sees_fits d v last e x.about x.number x.tag b (λ l. (o l).0) k)

pub seens_same : (e : ℕ) (xs : List Sight) (b : Box) (i : ℕ) → (sees_all e xs b).word i ≡ b.word i
unfolding sees_all
seens_same e [] b i = refl
seens_same e (x ∷ xs) b i = seens_same e xs (sees e x.about x.number x.tag b) i

pub seens_grow : (e : ℕ) (xs : List Sight) (b : Box) → Grows b (sees_all e xs b)
seens_grow e xs b i = rw (seens_same e xs b i) (newer_self (b.word i))

-- changed links keep only what was shown under the same number
pub relinked_fits : (d : ℕ → ℕ) (v : ℕ → ℕ → Entry) (before after : Links) (b : Box) → Fitting d v before.last b → Fitting d v after.last (relinked before after b)
relinked_fits d v before after b k f j h l =
    let e : before.last f ≡ after.last f = eqb-true (before.last f) (after.last f) (and_left (eqb (before.last f) (after.last f)) (ltb 0 (road_cost f before) && (ltb 0 (road_cost f after) && b.shown f j)) h) in
    let h1 = and_right (eqb (before.last f) (after.last f)) (ltb 0 (road_cost f before) && (ltb 0 (road_cost f after) && b.shown f j)) h in
    let h2 = and_right (ltb 0 (road_cost f before)) (ltb 0 (road_cost f after) && b.shown f j) h1 in
    k f j (and_right (ltb 0 (road_cost f after)) (b.shown f j) h2) (e ∙ l)

-- what is said at a tick
pub owed_fits : (d : ℕ → ℕ) (v : ℕ → ℕ → Entry) (last : ℕ → ℕ) (t : ℕ) (b : Box) → Fitting d v last b → Fitting d v last (says_if_owed t b)
owed_fits d v last t b k =
    of_cond (Fitting d v last) (must_say b && can_say (b.word b.me).number) (says_now t b) b (λ _. has_fits d v last b.me (own_word (b.word b.me).number t b) b k) (λ _. k)

pub owed_grows : (t : ℕ) (b : Box) → Grows b (says_if_owed t b)
owed_grows t b =
    of_cond (Grows b) (must_say b && can_say (b.word b.me).number) (says_now t b) b
    (λ _. has_grows b.me (own_word (b.word b.me).number t b) b (newer_next (b.word b.me) (own_word (b.word b.me).number t b) refl)) (λ _. grows_self b)
