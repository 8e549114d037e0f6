-- A fair stretch of words in which nothing is new begins and ends at rest, since about each router the net that mirrors the world does.
use Rattle.std.proofs.Common.{◌≡◌, ℕ, zero, suc, ◌<◌, true, List, [], ◌∷◌, ◌++◌, map, sym, refl, ap, ◌∙◌, subst, ap₂, inl, inr, append_assoc, arith}
use Rattle.std.proofs.lemmas.Bool.{not-true, ltb-true}
use Rattle.model.specs.Words.{Word, Ev, Says, Comes, is_in, world}
use Rattle.model.specs.Promise.{own_true, Even, Rest, new_words}
use Rattle.model.specs.Code.{nth_is}
use Rattle.model.specs.Settling.{SaysIn, ComesIn, Fair, Stretch}
use Rattle.model.specs.Flood.{Item, fresher, Copy, Act, net}
use Rattle.model.specs.Spread.{owes, copy_is, news, SpeaksIn, BroughtIn, FairFor, StretchFor}
use Rattle.model.specs.Roads.{item_of, copy_of, act_of, acts_of, Mirrors}
use Rattle.model.proofs.Sizes.{world_n}
use Rattle.model.proofs.RoadsInstance.{roads, roads_are, mirrored}
use Rattle.model.proofs.Settles.{rest_before, rest_after}
use Rattle.model.proofs.WordsByRule.{even_kept}
use Rattle.model.proofs.EventActs.{acts, owes_own, owes_who, mirrors_after, rule_for, news_le}
use Rattle.model.proofs.WordsRest.{calm_rest_lem, settled_calm}

-- the acts of a run in two parts
acts_cut : (n : ℕ) (gs fs es : List Ev) → acts n (gs ++ fs) es ≡ acts n gs (fs ++ es) ++ acts n fs es
acts_cut n [] fs es = refl
acts_cut n (g ∷ gs) fs es = ap₂ {C = List (Act (ℕ → ℕ))} (λ (l : List Ev) (xs : List (Act (ℕ → ℕ))). act_of (world n l) g ∷ xs) (append_assoc gs fs es) (acts_cut n gs fs es)

nth_copy : (k : ℕ) (x : Word) (xs : List Word) → nth_is k x xs → copy_is k (copy_of x) (map copy_of xs)
unfolding nth_is copy_is
nth_copy k x [] h = absurd h
nth_copy zero x (y ∷ ys) h = ap copy_of h
nth_copy (suc k) x (y ∷ ys) h = nth_copy k x ys h

module _ (n : ℕ) (fs es : List Ev) where
  mirror : (es : List Ev) → Mirrors (world n es) (net (roads n) (acts_of n es))
  mirror = mirrored n (roads n) (roads_are n)

  after : (fs es : List Ev) → Mirrors (world n (fs ++ es)) (net (roads n) (acts n fs es ++ acts_of n es))
  after = mirrors_after n (roads n) (roads_are n) mirror

  says_in_lem : (a : ℕ) → SaysIn n a fs es → SpeaksIn (roads n) a a (acts n fs es) (acts_of n es)
  says_in_lem a x = record {
    later = acts n x.later ((Says a x.tag ∷ x.before) ++ es);
    before = acts n x.before es;
    tag = x.tag;
    split = ap (λ (l : List Ev). acts n l es) x.split ∙ acts_cut n x.later (Says a x.tag ∷ x.before) es;
    drawn_once = ap (λ (ts : List ℕ). is_in x.tag ts) (after x.before es).drawn ∙ x.drawn_once;
  }

  comes_in_lem : (a e i : ℕ) → ComesIn n a e i fs es → BroughtIn (roads n) a e i (acts n fs es) (acts_of n es)
  comes_in_lem a e i x = record {
    later = acts n x.later ((Comes x.which x.tag ∷ x.before) ++ es);
    before = acts n x.before es;
    which = x.which;
    tag = x.tag;
    copy = copy_of x.word;
    split = ap (λ (l : List Ev). acts n l es) x.split ∙ acts_cut n x.later (Comes x.which x.tag ∷ x.before) es;
    drawn_once = ap (λ (ts : List ℕ). is_in x.tag ts) (after x.before es).drawn ∙ x.drawn_once;
    there = subst (λ (l : List (Copy (ℕ → ℕ))). copy_is x.which (copy_of x.word) l) (sym (after x.before es).flight) (nth_copy x.which x.word (world n (x.before ++ es)).flight x.there);
    is_from = x.is_from;
    is_to = x.is_to;
    is_about = x.is_about;
    not_older = ap (λ (y : Item (ℕ → ℕ)). fresher y (item_of x.word.entry)) ((mirror es).holds a i) ∙ x.not_older;
  }

  -- fair among routers is fair about each of them
  fair_for_lem : Fair n fs es → (i : ℕ) → i < n → FairFor (roads n) i (acts n fs es) (acts_of n es)
  fair_for_lem f i l = record {
    says = λ a m ow.
        let q : a ≡ i = owes_who n (roads n) (roads_are n) (world n es) (net (roads n) (acts_of n es)) (mirror es) a i ow in
        let own : owes (roads n) (net (roads n) (acts_of n es)) a a ≡ true = subst (λ (j : ℕ). owes (roads n) (net (roads n) (acts_of n es)) a j ≡ true) (sym q) ow in
        subst (λ (j : ℕ). SpeaksIn (roads n) a j (acts n fs es) (acts_of n es)) q
        (says_in_lem a (f.says a m (not-true (own_true a (world n es)) (sym (owes_own n (roads n) (roads_are n) (world n es) (net (roads n) (acts_of n es)) (world_n n es) (mirror es) a) ∙ own))));
    brings = λ a e m k p q new. comes_in_lem a e i (f.brings a e i m k l (ltb-true 0 ((world n es).real a e) (sym ((mirror es).link a e) ∙ p)) (ltb-true 0 ((world n es).real e a) (sym ((mirror es).link e a) ∙ q))
        (ap₂ (λ (x y : Item (ℕ → ℕ)). fresher x y) (sym ((mirror es).holds a i)) (sym ((mirror es).holds e i)) ∙ new));
  }

  stretch_for_lem : Stretch n fs es → new_words n fs es ≡ 0 → (i : ℕ) → i < n → StretchFor (roads n) i (acts n fs es) (acts_of n es)
  stretch_for_lem (h, inl p) z i l = absurd (let u : ⊥ = omega arith in u)
  stretch_for_lem (h, inr f) z i l = (rule_for n (roads n) (roads_are n) mirror i fs es h, inr (fair_for_lem f i l))

  pub quiet_stretch : Even (world n es) → Stretch n fs es → new_words n fs es ≡ 0 → Rest (world n es) × Rest (world n (fs ++ es))
  quiet_stretch v st z = (
    calm_rest_lem (world n es) v (λ i l. let m = inside es i l in
        settled_calm n (roads n) (roads_are n) mirror (world n es) (net (roads n) (acts_of n es)) (world_n n es) (mirror es) i m (rest_before (roads n) i (acts n fs es) (acts_of n es) m (stretch_for_lem st z i m) (none i))),
    calm_rest_lem (world n (fs ++ es)) (even_kept n fs es st.0 v) (λ i l. let m = inside (fs ++ es) i l in
        settled_calm n (roads n) (roads_are n) mirror (world n (fs ++ es)) (net (roads n) (acts n fs es ++ acts_of n es)) (world_n n (fs ++ es)) (after fs es) i m (rest_after (roads n) i (acts n fs es) (acts_of n es) m (stretch_for_lem st z i m) (none i))),
  )
    where
      inside : (gs : List Ev) (i : ℕ) → i < (world n gs).n → i < n
      inside gs i l = subst (λ k. i < k) (world_n n gs) l

      none : (i : ℕ) → news (roads n) i (acts n fs es) (acts_of n es) ≡ 0
      none i = let k = news_le n (roads n) (roads_are n) mirror i fs es in omega arith
