-- Whatever happens, with tags that were never drawn before, every box stands after it, and the words on their way are those that boxes sent.
use Rattle.std.proofs.Common.{◌≡◌, ℕ, zero, suc, ◌<◌, Bool, true, false, cond, not, ◌&&◌, eqb, ltb, List, [], ◌∷◌, sym, refl, ap, ◌∙◌, subst, ap₂}
use borrow.Author.Tests.{clash}
use Rattle.std.proofs.lemmas.Bool.{eqb-true, eqb-false, ne_eqb, ltb-true}
use Rattle.model.specs.Words.{Entry, Word, World, Ev, Road, Says, Sends, Comes, Falls, unsaid, is_in, at2, with_knows, says, comes, comes_nth, sends, step, world}
use Rattle.model.specs.Box.{Box, is_open, road_is, says_now, hears, forgets, word_for}
use Rattle.model.specs.Boxes.{Boxes, does, arrives, does_event, boxes, Fresh, EveryBoxStands}
use Rattle.model.proofs.Tests.{of_cond, both_cond, and_first}
use Rattle.model.proofs.Sizes.{world_n}
use Rattle.model.proofs.Events.{with_real, of_comes}
use Rattle.model.proofs.Rows.{Like, stands_of, like_road, like_says, like_falls, like_others, like_else, like_hears}
use Rattle.model.proofs.BoxCode.{like_open}

-- these boxes are the routers of this world
record Alike (n : ℕ) (b : Boxes) (w : World) : Type 0 where
  at : (a : ℕ) → a < n → Like n a w (b.at a)
  sent : b.sent ≡ w.flight

-- one box does something, and the others are as they were
one_does : (n a : ℕ) (f : Box → Box) (b : Boxes) (w v : World) → (a < n → Like n a w (b.at a) → Like n a v (f (b.at a))) → ((p : ℕ) → p < n → (p ≡ a → ⊥) → Like n p w (b.at p) → Like n p v (b.at p)) → v.flight ≡ w.flight →
    Alike n b w → Alike n (does a f b) v
one_does n a f b w v here there same k = record {
  at = λ p l. of_cond (Like n p v) (eqb p a) (f (b.at a)) (b.at p)
      (λ e. let q : p ≡ a = eqb-true p a e in subst (λ (i : ℕ). Like n i v (f (b.at a))) (sym q) (here (subst (λ i. i < n) q l) (k.at a (subst (λ i. i < n) q l))))
      (λ e. there p l (eqb-false p a e) (k.at p l));
  sent = k.sent ∙ sym same;
}

-- a word comes, of those that were sent
one_arrives : (n i t : ℕ) (xs : List Word) (b : Boxes) (w : World) → w.n ≡ n → is_in t w.drawn ≡ false → Alike n b w → Alike n (arrives i t xs b) (comes_nth i t xs w)
unfolding arrives comes_nth
one_arrives n i t [] b w m f k = k
one_arrives n zero t (x ∷ xs) b w m f k =
    one_does n x.to (hears x t) b w (comes x t w) (λ l q. like_hears n x.to l w m (b.at x.to) x t refl f q) (λ p l other q. like_else n p l w m (b.at p) x t (λ e. other (sym e)) q)
    (of_comes (λ (u : World). u.flight ≡ w.flight) x t w refl (λ _ _ _. refl)) k
one_arrives n (suc i) t (x ∷ xs) b w m f k = one_arrives n i t xs b w m f k

-- a tag that the event draws was never drawn
abbrev FreshFor : Ev → World → Type 0
FreshFor (Road a e c) w = Unit {0}
FreshFor (Says a t) w = is_in t w.drawn ≡ false
FreshFor (Sends a e i) w = Unit {0}
FreshFor (Comes i t) w = is_in t w.drawn ≡ false
FreshFor (Falls a) w = Unit {0}

-- the test of what is sent is the same
sends_test : (n a e : ℕ) (c : Bool) (b : Boxes) (w : World) → w.n ≡ n → Alike n b w → (ltb a n && (ltb e n && (c && is_open e (b.at a)))) ≡ (ltb a n && (ltb e n && (c && ltb 0 (w.real a e))))
sends_test n a e c b w m k = go (ltb a n) refl
  where
    go : (d : Bool) → ltb a n ≡ d → (d && (ltb e n && (c && is_open e (b.at a)))) ≡ (d && (ltb e n && (c && ltb 0 (w.real a e))))
    go true h = ap (λ (o : Bool). ltb e n && (c && o)) (like_open n a w (b.at a) e (k.at a (ltb-true a n h)))
    go false h = refl

abbrev is_comes : Ev → Bool
is_comes (Road a e c) = false
is_comes (Says a t) = false
is_comes (Sends a e i) = false
is_comes (Comes i t) = true
is_comes (Falls a) = false

no_comes : (e : Ev) → is_comes e ≡ false → (i t : ℕ) → e ≡ Comes i t → ⊥
no_comes e f i t h = clash (sym f ∙ ap is_comes h)

-- a word more is sent
one_sends : (n a e i : ℕ) (b : Boxes) (w : World) → a < n → Alike n b w → Alike n (record { at = b.at; sent = word_for e i (b.at a) ∷ b.sent }) (sends a e i w)
one_sends n a e i b w l k = record {
  at = λ p h. let q = k.at p h in record { size = q.size; self = q.self; real = q.real; knows = q.knows };
  sent = let q = k.at a l in ap₂ {C = List Word} (λ (x : Word) (l : List Word). x ∷ l) (ap₂ {C = Word} (λ (j : ℕ) (y : Entry). record { from = j; to = e; about = i; entry = y }) q.self (sym (q.knows i))) k.sent;
}

-- one event
one_step : (n : ℕ) (b : Boxes) (w : World) (e : Ev) → w.n ≡ n → FreshFor e w → Alike n b w → Alike n (does_event n e b) (step e w)
one_step n b w (Road a e c) m f k =
    one_does n a (road_is e c) b w (step (Road a e c) w) (λ l q. like_road n a l w m (b.at a) e c q) (λ p l other q. like_others n p l w m (b.at p) (Road a e c) (ne_eqb p a other) (no_comes (Road a e c) refl) q)
    (of_cond (λ (u : World). u.flight ≡ w.flight) (ltb a w.n && (ltb e w.n && not (eqb a e))) (with_real (at2 a e c w.real) w) w (λ _. refl) (λ _. refl)) k
one_step n b w (Says a t) m f k =
    one_does n a (says_now t) b w (step (Says a t) w) (λ l q. like_says n a l w m (b.at a) t f q) (λ p l other q. like_others n p l w m (b.at p) (Says a t) (ne_eqb p a other) (no_comes (Says a t) refl) q)
    (of_cond (λ (u : World). u.flight ≡ w.flight) (ltb a w.n && not (is_in t w.drawn)) (says a t w) w (λ _. refl) (λ _. refl)) k
one_step n b w (Sends a e i) m f k =
    both_cond (Alike n) (ltb a n && (ltb e n && (ltb i n && is_open e (b.at a)))) (ltb a w.n && (ltb e w.n && (ltb i w.n && ltb 0 (w.real a e)))) (record { at = b.at; sent = word_for e i (b.at a) ∷ b.sent }) b (sends a e i w) w
    (sends_test n a e (ltb i n) b w m k ∙ ap (λ (j : ℕ). ltb a j && (ltb e j && (ltb i j && ltb 0 (w.real a e)))) (sym m))
    (λ h. one_sends n a e i b w (ltb-true a n (and_first (ltb a n) (ltb e n && (ltb i n && is_open e (b.at a))) h)) k) (λ _. k)
one_step n b w (Comes i t) m f k = subst (λ (l : List Word). Alike n (arrives i t l b) (comes_nth i t w.flight w)) (sym k.sent) (one_arrives n i t w.flight b w m f k)
one_step n b w (Falls a) m f k =
    one_does n a forgets b w (step (Falls a) w) (λ l q. like_falls n a l w m (b.at a) q) (λ p l other q. like_others n p l w m (b.at p) (Falls a) (ne_eqb p a other) (no_comes (Falls a) refl) q)
    (of_cond (λ (u : World). u.flight ≡ w.flight) (ltb a w.n) (with_knows (λ p q. cond (eqb p a) unsaid (w.knows p q)) [] w) w (λ _. refl) (λ _. refl)) k

-- the tags of the first event, and of those before it
fresh_parts : (n : ℕ) (e : Ev) (es : List Ev) → Fresh n (e ∷ es) → FreshFor e (world n es) × Fresh n es
unfolding Fresh
fresh_parts n (Road a e c) es f = (tt, f)
fresh_parts n (Says a t) es f = f
fresh_parts n (Sends a e i) es f = (tt, f)
fresh_parts n (Comes k t) es f = f
fresh_parts n (Falls a) es f = (tt, f)

all_alike : (n : ℕ) (es : List Ev) → Fresh n es → Alike n (boxes n es) (world n es)
unfolding boxes world
all_alike n [] f = record { at = λ a l. record { size = refl; self = refl; real = λ e. refl; knows = λ i. refl }; sent = refl }
all_alike n (e ∷ es) f = let p = fresh_parts n e es f in one_step n (boxes n es) (world n es) e (world_n n es) p.0 (all_alike n es p.1)

pub every_box_stands_lem : EveryBoxStands
every_box_stands_lem n es f = let k = all_alike n es f in (λ a l. stands_of n a ((boxes n es).at a) es l (k.at a l), k.sent)
