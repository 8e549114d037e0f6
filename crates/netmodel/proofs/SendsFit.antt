-- What a box sends fits into frames, if its words and numbers do and what it answers fitted.
use Rattle.std.proofs.Common.{◌≡◌, ℕ, zero, suc, ◌+◌, ◌%◌, ◌<◌, ◌≤◌, Bool, true, cond, not, ◌&&◌, ◌||◌, eqb, ltb, List, [], ◌∷◌, ◌++◌, length, sym, refl, subst, arith, ltb-true}
use Rattle.std.proofs.lemmas.Bool.Decides.{nat_tests}
use Rattle.model.specs.Words.{newer}
use Rattle.model.specs.Code.{pick, same_word}
use Rattle.model.specs.Box.{Box, tells}
use Rattle.model.proofs.Tests.{of_cond}
use Rattle.linkmodel.proofs.Bools.{and_left}
use Rattle.linkmodel.specs.Links.{Links, wires, road_cost, hello_for, sends_hello}
use Rattle.linkmodel.specs.Station.{Station, Item, Bundle, Sight, Greets, Out, tells_every, seens_for, news_for, seens_out, words_out, answers, hellos_on, items_of, tells_on, tick_out}
use Rattle.netmodel.specs.Fits.{ItemFits, SightFits, Each, FrameFits}
use Rattle.netmodel.proofs.InRange.{LinksFit, BoxFits}

-- all of two lists
pub each_append : {A : Type 0} (P : A → Type 0) (xs ys : List A) → Each P xs → Each P ys → Each P (xs ++ ys)
unfolding Each
each_append P [] ys h k = k
each_append P (x ∷ xs) ys h k = (h.0, each_append P xs ys h.1 k)

-- of one thing
pub each_one : {A : Type 0} (P : A → Type 0) (x : A) → P x → Each P (x ∷ [])
unfolding Each
each_one P x h = (h, tt)

-- and of nothing
pub each_none : {A : Type 0} (P : A → Type 0) → Each P []
unfolding Each
each_none P = tt

-- all that goes out fits
abbrev pub SendsFit : ℕ → List Out → Type 0
SendsFit n outs = Each (λ (o : Out). FrameFits n o.frame) outs

-- seens of words that fit
seens_fit : (n : ℕ) (xs : List Item) (b : Box) → Each (ItemFits n) xs → Each (SightFits n) (seens_for xs b) × (length (seens_for xs b) ≤ length xs)
unfolding seens_for Each
seens_fit n [] b o = (tt, omega arith)
seens_fit n (x ∷ xs) b o =
    let r = seens_fit n xs b o.1 in
    of_cond (λ (l : List Sight). Each (SightFits n) l × (length l ≤ suc (length xs))) (same_word x.entry (b.word x.about)) (record { about = x.about; number = x.entry.number; tag = x.entry.tag } ∷ seens_for xs b) (seens_for xs b)
    (λ _. ((record { box = o.0.box; some_count = o.0.some_count; count = o.0.count; tag = o.0.tag }, r.0), omega (arith, r.1))) (λ _. (r.0, omega (arith, r.1)))

-- what is newer than something was said
newer_some : (c d : ℕ) (t : Bool) → 0 < d → (ltb d c || (eqb d c && t)) ≡ true → 0 < c
newer_some c d t p h = grind (arith, nat_tests)

-- words that are newer than those
news_fit : (n a : ℕ) (xs : List Item) (b : Box) → BoxFits n a b → Each (ItemFits n) xs → Each (ItemFits n) (news_for xs b) × (length (news_for xs b) ≤ length xs)
unfolding news_for Each
news_fit n a [] b k o = (tt, omega arith)
news_fit n a (x ∷ xs) b k o =
    let r = news_fit n a xs b k o.1 in
    of_cond (λ (l : List Item). Each (ItemFits n) l × (length l ≤ suc (length xs))) (newer (b.word x.about) x.entry) (record { about = x.about; entry = b.word x.about } ∷ news_for xs b) (news_for xs b)
    (λ e. ((k.words x.about (newer_some (b.word x.about).number x.entry.number (ltb x.entry.tag (b.word x.about).tag) o.0.some_count e), r.0), omega (arith, r.1)))
    (λ _. (r.0, omega (arith, r.1)))

-- a packet that goes out
seens_out_fit : (n a e : ℕ) (xs : List Sight) (s : Links) → LinksFit n a s → length xs ≤ 4 → Each (SightFits n) xs → SendsFit n (seens_out e xs s)
unfolding Each
seens_out_fit n a e [] s k l h = tt
seens_out_fit n a e (x ∷ xs) s k l h = ((k.drawn, (omega arith, l, h)), tt)

words_out_fit : (n a e : ℕ) (xs : List Item) (s : Links) → LinksFit n a s → length xs ≤ 4 → Each (ItemFits n) xs → SendsFit n (words_out e xs s)
unfolding Each
words_out_fit n a e [] s k l h = tt
words_out_fit n a e (x ∷ xs) s k l h = ((k.drawn, (omega arith, l, h)), tt)

-- what is answered to a packet that fits
pub answers_fit : (n a e : ℕ) (p : Bundle) (s : Station) → LinksFit n a s.links → BoxFits n a s.box → length p.items ≤ 4 → Each (ItemFits n) p.items → SendsFit n (answers e p s)
answers_fit n a e p s k b l o =
    let q = seens_fit n p.items s.box o in
    let r = news_fit n a p.items s.box b o in
    each_append (λ (x : Out). FrameFits n x.frame) (seens_out e (seens_for p.items s.box) s.links) (words_out e (news_for p.items s.box) s.links)
    (seens_out_fit n a e (seens_for p.items s.box) s.links k (omega (arith, q.1)) q.0)
    (words_out_fit n a e (news_for p.items s.box) s.links k (omega (arith, r.1)) r.0)

-- what is picked passes and is no more than as much
picked : (m k : ℕ) (f : ℕ → Bool) (i : ℕ) → Each (λ (j : ℕ). f j ≡ true) (pick m k f i) × (length (pick m k f i) ≤ k)
unfolding pick Each
picked zero k f i = (tt, omega arith)
picked (suc m) zero f i = (tt, omega arith)
picked (suc m) (suc k) f i =
    of_cond (λ (l : List ℕ). Each (λ (j : ℕ). f j ≡ true) l × (length l ≤ suc k)) (f i) (i ∷ pick m k f (i + 1)) (pick m (suc k) f (i + 1))
    (λ e. ((e, (picked m k f (i + 1)).0), omega (arith, (picked m k f (i + 1)).1))) (λ _. picked m (suc k) f (i + 1))

-- the words that are told
items_fit : (n a e : ℕ) (is : List ℕ) (b : Box) → BoxFits n a b → Each (λ (j : ℕ). (ltb 0 (b.word j).number && not (b.shown e j)) ≡ true) is → Each (ItemFits n) (items_of is b) × (length (items_of is b) ≡ length is)
unfolding items_of Each
items_fit n a e [] b k h = (tt, refl)
items_fit n a e (i ∷ is) b k h =
    let r = items_fit n a e is b k h.1 in
    ((k.words i (ltb-true 0 (b.word i).number (and_left (ltb 0 (b.word i).number) (not (b.shown e i)) h.0)), r.0), omega (arith, r.1))

-- what is told over each open road
tells_fit : (n a : ℕ) (s : Station) (m : ℕ) → LinksFit n a s.links → BoxFits n a s.box → SendsFit n (tells_on s m)
unfolding tells_on
tells_fit n a s zero k b = each_none (λ (x : Out). FrameFits n x.frame)
tells_fit n a s (suc m) k b =
    let p = picked s.box.n 4 (λ i. ltb 0 (s.box.word i).number && not (s.box.shown m i)) 0 in
    let r = items_fit n a m (tells m s.box) s.box b p.0 in
    each_append (λ (x : Out). FrameFits n x.frame) (tells_on s m) (cond (ltb 0 (road_cost m s.links)) (words_out m (items_of (tells m s.box) s.box) s.links) []) (tells_fit n a s m k b)
    (of_cond (SendsFit n) (ltb 0 (road_cost m s.links)) (words_out m (items_of (tells m s.box) s.box) s.links) []
    (λ _. words_out_fit n a m (items_of (tells m s.box) s.box) s.links k (omega (arith, p.1, r.1)) r.0) (λ _. each_none (λ (x : Out). FrameFits n x.frame)))

-- the hellos of a tick
hellos_fit : (n a : ℕ) (s : Links) (m : ℕ) → a < n → LinksFit n a s → SendsFit n (hellos_on s m)
unfolding hellos_on
hellos_fit n a s zero l k = each_none (λ (x : Out). FrameFits n x.frame)
hellos_fit n a s (suc m) l k =
    each_append (λ (x : Out). FrameFits n x.frame) (hellos_on s m) (cond (sends_hello m s) (record { on = m; frame = Greets (hello_for m s) } ∷ []) []) (hellos_fit n a s m l k)
    (of_cond (SendsFit n) (sends_hello m s) (record { on = m; frame = Greets (hello_for m s) } ∷ []) []
    (λ _. each_one (λ (x : Out). FrameFits n x.frame) (record { on = m; frame = Greets (hello_for m s) }) (subst (λ (z : ℕ). z < n) (sym k.number) l, k.drawn, k.heard m))
    (λ _. each_none (λ (x : Out). FrameFits n x.frame)))

-- and all that goes out at a tick
pub tick_out_fit : (n a : ℕ) (s : Station) → a < n → LinksFit n a s.links → BoxFits n a s.box → SendsFit n (tick_out s)
tick_out_fit n a s l k b =
    each_append (λ (x : Out). FrameFits n x.frame) (hellos_on s.links wires) (cond (eqb (s.links.tick % tells_every) 0) (tells_on s s.links.n) []) (hellos_fit n a s.links wires l k)
    (of_cond (SendsFit n) (eqb (s.links.tick % tells_every) 0) (tells_on s s.links.n) [] (λ _. tells_fit n a s s.links.n k b) (λ _. each_none (λ (x : Out). FrameFits n x.frame)))
