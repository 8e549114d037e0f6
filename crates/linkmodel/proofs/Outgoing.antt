-- What a box sends carries its own numbers, and no word newer than it has.
use Rattle.std.proofs.Common.{◌≡◌, ℕ, zero, suc, ◌%◌, cond, eqb, ltb, List, [], ◌∷◌, ◌++◌, refl}
use Rattle.model.specs.Words.{newer}
use Rattle.model.specs.Code.{same_word}
use Rattle.model.specs.Box.{Box, tells}
use Rattle.model.proofs.Tests.{of_cond}
use Rattle.linkmodel.specs.Links.{wires, road_cost, hello_for, sends_hello}
use Rattle.linkmodel.specs.Station.{Station, Item, Bundle, Sight, Frame, Greets, Tells, Shows, Out, tells_every, seens_for, news_for, seens_out, words_out, answers, hellos_on, items_of, tells_on, tick_out}
use Rattle.linkmodel.proofs.Newer.{newer_self, after_level}
use Rattle.linkmodel.proofs.Fitting.{Every, OldItem, OldSight}

-- a frame as s sends it
abbrev pub Sendable : Station → Frame → Type 0
Sendable s (Greets h) = (h.from ≡ s.links.me) × (h.drawn ≡ s.links.drawn)
Sendable s (Tells p) = (p.drawn ≡ s.links.drawn) × Every (OldItem s.box.word) p.items
Sendable s (Shows p) = (p.drawn ≡ s.links.drawn) × Every (OldSight s.box.word) p.items

abbrev pub Sendables : Station → List Out → Type 0
Sendables s outs = Every (λ (o : Out). Sendable s o.frame) outs

pub every_append : {A : Type 0} (P : A → Type 0) (xs ys : List A) → Every P xs → Every P ys → Every P (xs ++ ys)
every_append P [] ys h k = k
every_append P (x ∷ xs) ys h k = (h.0, every_append P xs ys h.1 k)

-- what is answered to a packet of words
seens_old : (xs : List Item) (b : Box) → Every (OldSight b.word) (seens_for xs b)
unfolding seens_for
seens_old [] b = tt
seens_old (x ∷ xs) b =
    of_cond (Every (OldSight b.word)) (same_word x.entry (b.word x.about)) (record { about = x.about; number = x.entry.number; tag = x.entry.tag } ∷ seens_for xs b) (seens_for xs b)
    (λ e. (after_level x.entry.number x.entry.tag (b.word x.about).number (b.word x.about).tag e, seens_old xs b)) (λ _. seens_old xs b)

news_old : (xs : List Item) (b : Box) → Every (OldItem b.word) (news_for xs b)
unfolding news_for
news_old [] b = tt
news_old (x ∷ xs) b =
    of_cond (Every (OldItem b.word)) (newer (b.word x.about) x.entry) (record { about = x.about; entry = b.word x.about } ∷ news_for xs b) (news_for xs b)
    (λ _. (newer_self (b.word x.about), news_old xs b)) (λ _. news_old xs b)

items_old : (is : List ℕ) (b : Box) → Every (OldItem b.word) (items_of is b)
unfolding items_of
items_old [] b = tt
items_old (i ∷ is) b = (newer_self (b.word i), items_old is b)

-- a packet that goes out
seens_out_lem : (s : Station) (e : ℕ) (xs : List Sight) → Every (OldSight s.box.word) xs → Sendables s (seens_out e xs s.links)
seens_out_lem s e [] h = tt
seens_out_lem s e (x ∷ xs) h = ((refl, h), tt)

words_out_lem : (s : Station) (e : ℕ) (xs : List Item) → Every (OldItem s.box.word) xs → Sendables s (words_out e xs s.links)
words_out_lem s e [] h = tt
words_out_lem s e (x ∷ xs) h = ((refl, h), tt)

pub answers_out : (e : ℕ) (p : Bundle) (s : Station) → Sendables s (answers e p s)
answers_out e p s =
    every_append (λ (o : Out). Sendable s o.frame) (seens_out e (seens_for p.items s.box) s.links) (words_out e (news_for p.items s.box) s.links)
    (seens_out_lem s e (seens_for p.items s.box) (seens_old p.items s.box)) (words_out_lem s e (news_for p.items s.box) (news_old p.items s.box))

-- what goes out at a tick
hellos_out_lem : (s : Station) (k : ℕ) → Sendables s (hellos_on s.links k)
unfolding hellos_on
hellos_out_lem s zero = tt
hellos_out_lem s (suc k) =
    every_append (λ (o : Out). Sendable s o.frame) (hellos_on s.links k) (cond (sends_hello k s.links) (record { on = k; frame = Greets (hello_for k s.links) } ∷ []) []) (hellos_out_lem s k)
    (of_cond (Sendables s) (sends_hello k s.links) (record { on = k; frame = Greets (hello_for k s.links) } ∷ []) [] (λ _. ((refl, refl), tt)) (λ _. tt))

tells_out : (s : Station) (k : ℕ) → Sendables s (tells_on s k)
unfolding tells_on
tells_out s zero = tt
tells_out s (suc k) =
    every_append (λ (o : Out). Sendable s o.frame) (tells_on s k) (cond (ltb 0 (road_cost k s.links)) (words_out k (items_of (tells k s.box) s.box) s.links) []) (tells_out s k)
    (of_cond (Sendables s) (ltb 0 (road_cost k s.links)) (words_out k (items_of (tells k s.box) s.box) s.links) []
    (λ _. words_out_lem s k (items_of (tells k s.box) s.box) (items_old (tells k s.box) s.box)) (λ _. tt))

pub ticks_out : (s : Station) → Sendables s (tick_out s)
ticks_out s =
    every_append (λ (o : Out). Sendable s o.frame) (hellos_on s.links wires) (cond (eqb (s.links.tick % tells_every) 0) (tells_on s s.links.n) []) (hellos_out_lem s wires)
    (of_cond (Sendables s) (eqb (s.links.tick % tells_every) 0) (tells_on s s.links.n) [] (λ _. tells_out s s.links.n) (λ _. tt))
