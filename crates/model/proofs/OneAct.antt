-- What one act of flooding does: what stays as it is, which copies are told, what is new, and, of an act by rule, what it changes in what is held of one subject.
use Rattle.std.proofs.Common.{◌≡◌, ℕ, zero, suc, ◌<◌, Bool, true, false, not, ◌&&◌, ◌||◌, eqb, ltb, ◌⊎◌, List, [], ◌∷◌, sym, refl, ◌∙◌, subst, inl, inr}
use Rattle.std.proofs.lemmas.Bool.{eq-eqb, eqb-true, ltb-true, eqb-false, and_from, and_left, and_right, not_from_false, lt-ltb, and_parts, not-true}
use Rattle.model.specs.Words.{is_in}
use Rattle.model.specs.Flood.{Item, fresher, Copy, Setup, Net, Act, Turns, Speaks, Tells, Gets, Back, puts, spoken, gets, gets_nth, act, net}
use Rattle.model.specs.Spread.{owes, is_news, news_nth, is_new}
use Rattle.model.proofs.Tests.{true_not_false, and_first, and_second, of_cond}
use Rattle.model.proofs.Tallies.{Among}
use Rattle.model.proofs.Acts.{Puts, puts_here, gets_cases, telling, by_act}

-- links, who speaks, and what it would say are as they were
pub record Keeps {P : Type 0} (w v : Net P) : Type 0 where
  pub same_link : v.link ≡ w.link
  pub same_speaks : v.speaks ≡ w.speaks
  pub same_would : v.would ≡ w.would

pub keeps_self : {P : Type 0} (w : Net P) → Keeps w w
keeps_self w = record { same_link = refl; same_speaks = refl; same_would = refl }

pub keeps_trans : {P : Type 0} {u v w : Net P} → Keeps u v → Keeps v w → Keeps u w
keeps_trans p q = record { same_link = q.same_link ∙ p.same_link; same_speaks = q.same_speaks ∙ p.same_speaks; same_would = q.same_would ∙ p.same_would }

-- what a copy holds that is told now
pub record Sent {P : Type 0} (s : Setup P) (w : Net P) (x : Copy P) : Type 0 where
  pub from_in : x.from < s.boxes
  pub to_in : x.to < s.boxes
  pub is : x.item ≡ w.holds x.from x.about

-- a copy about i that is fresher than what is held where it comes
pub record Arrives {P : Type 0} (i : ℕ) (w : Net P) (x : Copy P) : Type 0 where
  pub there : Among x w.flight
  pub about_it : x.about ≡ i
  pub fresh : fresher x.item (w.holds x.to i) ≡ true

-- what box a says of i above a number
pub record Said {P : Type 0} (i : ℕ) (w : Net P) (a n : ℕ) (y : Item P) : Type 0 where
  pub number_is : y.number ≡ suc n
  pub body_is : y.body ≡ w.would a i

-- what an act by rule does to what is held of i: nothing; or a box that doesn't speak for i takes a copy; or one that does says anew above a copy; or one that owed says
pub data Effect {P : Type 0} (s : Setup P) (i : ℕ) (w v : Net P) (new : Bool) : Type 0 where
  Stays : new ≡ false → ((a : ℕ) → v.holds a i ≡ w.holds a i) → Effect s i w v new
  Takes : (x : Copy P) → new ≡ true → Arrives i w x → w.speaks x.to i ≡ false → Puts w v x.to i x.item → Effect s i w v new
  Answers : (x : Copy P) (y : Item P) → new ≡ true → Arrives i w x → w.speaks x.to i ≡ true → Said i w x.to x.item.number y → Puts w v x.to i y → Effect s i w v new
  Says : (a : ℕ) (y : Item P) → new ≡ true → a < s.boxes → owes s w a i ≡ true → Said i w a (w.holds a i).number y → Puts w v a i y → Effect s i w v new

-- a copy about i that comes, and is fresher than what is held there, is new
pub copy_new : {P : Type 0} (w : Net P) (i t : ℕ) (x : Copy P) → x.about ≡ i → w.link x.to x.from ≡ true → is_in t w.drawn ≡ false → fresher x.item (w.holds x.to x.about) ≡ true → is_news w i t x ≡ true
copy_new w i t x e l d f =
    and_from (eqb x.about i) (w.link x.to x.from && (not (is_in t w.drawn) && fresher x.item (w.holds x.to x.about))) (eq-eqb x.about i e)
    (and_from (w.link x.to x.from) (not (is_in t w.drawn) && fresher x.item (w.holds x.to x.about)) l
    (and_from (not (is_in t w.drawn)) (fresher x.item (w.holds x.to x.about)) (not_from_false (is_in t w.drawn) d) f))

-- and so is what a box says that owed it
pub saying_new : {P : Type 0} (s : Setup P) (a i t : ℕ) (w : Net P) → a < s.boxes → i < s.subjects → is_in t w.drawn ≡ false → owes s w a i ≡ true → is_new s i (Speaks a i t) w ≡ true
saying_new s a i t w l m d o =
    and_from (eqb i i) (ltb a s.boxes && (ltb i s.subjects && (not (is_in t w.drawn) && owes s w a i))) (eq-eqb i i refl)
    (and_from (ltb a s.boxes) (ltb i s.subjects && (not (is_in t w.drawn) && owes s w a i)) (lt-ltb a s.boxes l)
    (and_from (ltb i s.subjects) (not (is_in t w.drawn) && owes s w a i) (lt-ltb i s.subjects m)
    (and_from (not (is_in t w.drawn)) (owes s w a i) (not_from_false (is_in t w.drawn) d) o)))

-- a copy about another subject comes
gets_else : {P : Type 0} (x : Copy P) (t : ℕ) (w : Net P) (i : ℕ) → (i ≡ x.about → ⊥) → (b : ℕ) → (gets x t w).holds b i ≡ w.holds b i
gets_else {P} x t w i u b =
    gets_cases (λ (v : Net P). v.holds b i ≡ w.holds b i) x t w
    (λ p q r h. (puts_here x.to x.about (spoken x.to x.about x.item.number t w) (t ∷ []) w).other b i u)
    (λ p q r h. (puts_here x.to x.about x.item [] w).other b i u)
    (λ p. refl)

-- a copy about i comes
gets_same : {P : Type 0} (s : Setup P) (x : Copy P) (t : ℕ) (w : Net P) → Among x w.flight → Effect s x.about w (gets x t w) (is_news w x.about t x)
gets_same {P} s x t w m =
    gets_cases (λ (v : Net P). Effect s x.about w v (is_news w x.about t x)) x t w
    (λ p q r h. Answers x (spoken x.to x.about x.item.number t w) (copy_new w x.about t x refl p q r) (come r) h (record { number_is = refl; body_is = refl }) (puts_here x.to x.about (spoken x.to x.about x.item.number t w) (t ∷ []) w))
    (λ p q r h. Takes x (copy_new w x.about t x refl p q r) (come r) h (puts_here x.to x.about x.item [] w))
    (λ p. Stays (and_right (eqb x.about x.about) (w.link x.to x.from && (not (is_in t w.drawn) && f)) p) (λ a. refl))
  where
    f : Bool
    f = fresher x.item (w.holds x.to x.about)

    come : f ≡ true → Arrives x.about w x
    come r = record { there = m; about_it = refl; fresh = r }

gets_effect : {P : Type 0} (s : Setup P) (i : ℕ) (x : Copy P) (t : ℕ) (w : Net P) → Among x w.flight → Effect s i w (gets x t w) (is_news w i t x)
gets_effect s i x t w m = go (eqb x.about i) refl
  where
    go : (b : Bool) → eqb x.about i ≡ b → Effect s i w (gets x t w) (is_news w i t x)
    go true e = subst (λ j. Effect s j w (gets x t w) (is_news w j t x)) (eqb-true x.about i e) (gets_same s x t w m)
    go false e = Stays (and_left (eqb x.about i) (w.link x.to x.from && (not (is_in t w.drawn) && fresher x.item (w.holds x.to x.about))) e) (gets_else x t w i (λ q. eqb-false x.about i e (sym q)))

nth_effect : {P : Type 0} (s : Setup P) (i k t : ℕ) (xs : List (Copy P)) (w : Net P) → ((x : Copy P) → Among x xs → Among x w.flight) → Effect s i w (gets_nth k t xs w) (news_nth w i k t xs)
unfolding gets_nth news_nth
nth_effect s i k t [] w h = Stays refl (λ a. refl)
nth_effect s i zero t (x ∷ xs) w h = gets_effect s i x t w (h x (inl refl))
nth_effect s i (suc k) t (x ∷ xs) w h = nth_effect s i k t xs w (λ y m. h y (inr m))

-- the act is one that a run by rule may have in this state
abbrev pub Ruled : {P : Type 0} → Setup P → ℕ → Act P → Net P → Type 0
Ruled s i (Turns a l sp p) w = ⊥
Ruled s i (Speaks a j t) w = j ≡ i → owes s w a i ≡ true
Ruled s i (Tells a e j) w = Unit {0}
Ruled s i (Gets k t) w = Unit {0}
Ruled s i (Back a to) w = ⊥

speaks_same : {P : Type 0} (s : Setup P) (a i t : ℕ) (w : Net P) → owes s w a i ≡ true → Effect s i w (act s (Speaks a i t) w) (is_new s i (Speaks a i t) w)
speaks_same {P} s a i t w o =
    of_cond (λ (v : Net P). Effect s i w v (is_new s i (Speaks a i t) w)) (p && (q && (r && u))) (puts a i (spoken a i (w.holds a i).number t w) (t ∷ []) w) w
    (λ h. let x = and_parts p (q && (r && u)) h in let y = and_parts q (r && u) x.1 in let l = ltb-true a s.boxes x.0 in
    Says a (spoken a i (w.holds a i).number t w) (saying_new s a i t w l (ltb-true i s.subjects y.0) (not-true (is_in t w.drawn) (and_second r u y.1)) o) l o
    (record { number_is = refl; body_is = refl }) (puts_here a i (spoken a i (w.holds a i).number t w) (t ∷ []) w))
    (λ h. Stays (and_right (eqb i i) (p && (q && (u && owes s w a i))) (old p q r u (owes s w a i) h speaker)) (λ b. refl))
  where
    p : Bool
    p = ltb a s.boxes

    q : Bool
    q = ltb i s.subjects

    r : Bool
    r = w.speaks a i

    u : Bool
    u = not (is_in t w.drawn)

    speaker : r ≡ true
    speaker = and_first r (not (s.same (w.holds a i).body (w.would a i) && (s.mute (w.would a i) || ltb 0 (w.holds a i).number))) o

    old : (p q r u o : Bool) → (p && (q && (r && u))) ≡ false → r ≡ true → (p && (q && (u && o))) ≡ false
    old true true true u o h e = and_left u o h
    old true true false u o h e = true_not_false false e refl
    old true false r u o h e = refl
    old false q r u o h e = refl

speaks_effect : {P : Type 0} (s : Setup P) (i a j t : ℕ) (w : Net P) → (j ≡ i → owes s w a i ≡ true) → Effect s i w (act s (Speaks a j t) w) (is_new s i (Speaks a j t) w)
speaks_effect {P} s i a j t w o = go (eqb j i) refl
  where
    go : (b : Bool) → eqb j i ≡ b → Effect s i w (act s (Speaks a j t) w) (is_new s i (Speaks a j t) w)
    go true e = subst (λ k. Effect s i w (act s (Speaks a k t) w) (is_new s i (Speaks a k t) w)) (sym (eqb-true j i e)) (speaks_same s a i t w (o (eqb-true j i e)))
    go false e = Stays (and_left (eqb j i) (ltb a s.boxes && (ltb j s.subjects && (not (is_in t w.drawn) && owes s w a j))) e)
        (λ b. of_cond (λ (v : Net P). v.holds b i ≡ w.holds b i) (ltb a s.boxes && (ltb j s.subjects && (w.speaks a j && not (is_in t w.drawn))))
        (puts a j (spoken a j (w.holds a j).number t w) (t ∷ []) w) w (λ h. (puts_here a j (spoken a j (w.holds a j).number t w) (t ∷ []) w).other b i (λ q. eqb-false j i e (sym q))) (λ h. refl))

-- what an act by rule does to what is held of i
pub effect : {P : Type 0} (s : Setup P) (i : ℕ) (f : Act P) (w : Net P) → Ruled s i f w → Effect s i w (act s f w) (is_new s i f w)
effect s i (Turns a l sp p) w r = absurd r
effect s i (Speaks a j t) w r = speaks_effect s i a j t w r
effect {P} s i (Tells a e j) w r = Stays refl (λ b. of_cond (λ (v : Net P). v.holds b i ≡ w.holds b i) (ltb a s.boxes && (ltb e s.boxes && (ltb j s.subjects && w.link a e))) (telling a e j w) w (λ h. refl) (λ h. refl))
effect s i (Gets k t) w r = nth_effect s i k t w.flight w (λ x m. m)
effect s i (Back a to) w r = absurd r

-- links, who speaks and what it would say stay, unless a box turns
pub keeps : {P : Type 0} (s : Setup P) (i : ℕ) (f : Act P) (w : Net P) → Ruled s i f w → Keeps w (act s f w)
keeps {P} s i f w r = by_act s f w (Keeps w) (record {
  stays = keeps_self w;
  turns = λ a l sp p e _. absurd (subst (λ (g : Act P). Ruled s i g w) e r);
  speaks = λ a j number t _ _ _. record { same_link = refl; same_speaks = refl; same_would = refl };
  tells = λ a e j _ _ _. record { same_link = refl; same_speaks = refl; same_would = refl };
  takes = λ k x _ _. record { same_link = refl; same_speaks = refl; same_would = refl };
  falls = λ a to _ _. record { same_link = refl; same_speaks = refl; same_would = refl };
})

-- a copy that is on its way after an act was so before, or was told now
pub flies : {P : Type 0} (s : Setup P) (f : Act P) (w : Net P) (x : Copy P) → Among x (act s f w).flight → Among x w.flight ⊎ Sent s w x
flies {P} s f w x = by_act s f w (λ (v : Net P). Among x v.flight → Among x w.flight ⊎ Sent s w x) (record {
  stays = inl;
  turns = λ a l sp p _ _. inl;
  speaks = λ a j number t _ _ _. inl;
  tells = λ a e j l m _. told a e j l m;
  takes = λ k y _ _. inl;
  falls = λ a to _ _. inl;
})
  where
    told : (a e j : ℕ) → a < s.boxes → e < s.boxes → (x ≡ record { from = a; to = e; about = j; item = w.holds a j }) ⊎ Among x w.flight → Among x w.flight ⊎ Sent s w x
    told a e j l m (inl q) = inr (subst (λ (y : Copy P). Sent s w y) (sym q) (record { from_in = l; to_in = m; is = refl }))
    told a e j l m (inr k) = inl k

-- every copy that was ever told goes to one of the boxes
pub goes_inside : {P : Type 0} (s : Setup P) (es : List (Act P)) (x : Copy P) → Among x (net s es).flight → x.to < s.boxes
unfolding net
goes_inside s [] x m = absurd m
goes_inside s (e ∷ es) x m = go (goes_inside s es x) (flies s e (net s es) x m)
  where
    go : (Among x (net s es).flight → x.to < s.boxes) → Among x (net s es).flight ⊎ Sent s (net s es) x → x.to < s.boxes
    go r (inl m) = r m
    go r (inr t) = t.to_in
