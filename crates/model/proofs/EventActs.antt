-- What a world of routers does, as the net that mirrors it: who owes, what goes by rule, and what is new.
use Rattle.std.proofs.Common.{◌≡◌, ℕ, zero, suc, ◌<◌, ◌≤◌, Bool, true, not, ◌&&◌, ◌||◌, T, eqb, ltb, List, [], ◌∷◌, ◌++◌, map, length, sym, refl, ap, ◌∙◌, subst, ap₂, arith, eqb→eq, ltb→lt}
use lib.Dec.{eqb_refl}
use Rattle.std.proofs.lemmas.Bool.{eq-eqb}
use Rattle.model.specs.Words.{Word, World, Ev, Road, Says, Sends, Comes, Falls, world, is_in}
use Rattle.model.specs.Promise
use Rattle.model.specs.Promise.{all_below, own_true, by_rule, goes, new_nth, new_words}
use Rattle.model.specs.Flood.{Copy, Setup, Net, Act, Turns, Speaks, Tells, Gets, Back, net}
use Rattle.model.specs.Spread.{owes, by_rule_for, is_new, is_news, news_nth, news}
use Rattle.model.specs.Roads.{copy_of, act_of, acts_of, OfRoads, Mirrors}
use Rattle.model.proofs.Tests.{t_true, true_t, both_t, left_t, right_t, or_t_right, t_since}
use Rattle.model.proofs.Below.{below_split}
use Rattle.model.proofs.Sizes.{world_n}
use Rattle.model.proofs.WordsByRule.{AllBelow}
use Rattle.model.proofs.Counts.{one_mono}

-- the acts of fs, after es
abbrev pub acts : ℕ → List Ev → List Ev → List (Act (ℕ → ℕ))
acts n [] es = []
acts n (f ∷ fs) es = act_of (world n (fs ++ es)) f ∷ acts n fs es

-- and with those of es they are all acts
acts_join : (n : ℕ) (fs es : List Ev) → acts_of n (fs ++ es) ≡ acts n fs es ++ acts_of n es
unfolding acts_of
acts_join n [] es = refl
acts_join n (f ∷ fs) es = ap (λ (xs : List (Act (ℕ → ℕ))). act_of (world n (fs ++ es)) f ∷ xs) (acts_join n fs es)

module _ (n : ℕ) (s : Setup (ℕ → ℕ)) (o : OfRoads n s) where
  -- who speaks for a subject is the router of that number, and it owes when its word isn't so
  owes_is : (w : World) (v : Net (ℕ → ℕ)) → w.n ≡ n → Mirrors w v → (a i : ℕ) → owes s v a i ≡ (eqb a i && not (all_below n (λ x. eqb ((w.knows a i).road x) (w.real a x) && (eqb (w.real a x) 0 || ltb 0 (w.knows a i).number))))
  owes_is w v q m a i = rw (m.speaks a i, m.holds a i, m.would a i, o.same (w.knows a i).road (w.real a), o.mute (w.real a)) (sym (ap (λ (c : Bool). eqb a i && not c) (below_split n (λ x. eqb ((w.knows a i).road x) (w.real a x)) (λ x. eqb (w.real a x) 0) (ltb 0 (w.knows a i).number))))

  -- at its own number, that is the test of its own word
  pub owes_own : (w : World) (v : Net (ℕ → ℕ)) → w.n ≡ n → Mirrors w v → (a : ℕ) → owes s v a a ≡ not (own_true a w)
  owes_own w v q m a = owes_is w v q m a a ∙ ap (λ (c : Bool). c && not (all_below n (λ x. eqb ((w.knows a a).road x) (w.real a x) && (eqb (w.real a x) 0 || ltb 0 (w.knows a a).number)))) (eq-eqb a a refl)
      ∙ ap (λ k. not (all_below k (λ x. eqb ((w.knows a a).road x) (w.real a x) && (eqb (w.real a x) 0 || ltb 0 (w.knows a a).number)))) (sym q)

  -- only the router of that number owes
  pub owes_who : (w : World) (v : Net (ℕ → ℕ)) → Mirrors w v → (a i : ℕ) → owes s v a i ≡ true → a ≡ i
  owes_who w v m a i h = eqb→eq a i (subst T (m.speaks a i) (left_t (v.speaks a i) (not (s.same (v.holds a i).body (v.would a i) && (s.mute (v.would a i) || ltb 0 (v.holds a i).number))) (true_t (owes s v a i) h)))

  -- a copy is news about i where its word is new and about i
  news_is : (w : World) (v : Net (ℕ → ℕ)) → Mirrors w v → (i t : ℕ) (x : Word) → is_news v i t (copy_of x) ≡ (eqb x.about i && Promise.is_new w t x)
  news_is w v m i t x = rw (m.link x.to x.from, m.drawn, m.holds x.to x.about)

  nth_goes : (w : World) (v : Net (ℕ → ℕ)) → Mirrors w v → (i k t : ℕ) (xs : List Word) → T (news_nth v i k t (map copy_of xs)) → T (new_nth w k t xs)
  unfolding news_nth new_nth
  nth_goes w v m i k t [] h = absurd h
  nth_goes w v m i zero t (x ∷ xs) h = right_t (eqb x.about i) (Promise.is_new w t x) (subst T (news_is w v m i t x) h)
  nth_goes w v m i (suc k) t (x ∷ xs) h = nth_goes w v m i k t xs h

  nth_some : (w : World) (v : Net (ℕ → ℕ)) → Mirrors w v → (k t : ℕ) (xs : List Word) → AllBelow n xs → T (new_nth w k t xs) → (i : ℕ) × (i < n) × T (news_nth v i k t (map copy_of xs))
  unfolding news_nth new_nth
  nth_some w v m k t [] b h = absurd h
  nth_some w v m zero t (x ∷ xs) b h = (x.about, b.0, subst T (sym (news_is w v m x.about t x)) (both_t (eqb x.about x.about) (Promise.is_new w t x) (eqb_refl x.about) h))
  nth_some w v m (suc k) t (x ∷ xs) b h = nth_some w v m k t xs b.1 h

  -- what is new when a router says a word
  says_is : (w : World) (v : Net (ℕ → ℕ)) → w.n ≡ n → Mirrors w v → (i a t : ℕ) → is_new s i (Speaks a a t) v ≡ (eqb a i && (ltb a w.n && (ltb a w.n && (not (is_in t w.drawn) && not (own_true a w)))))
  says_is w v q m i a t = let e = owes_own w v q m a in rw (e, o.boxes, o.subjects, m.drawn, q)

  -- what is new about some subject in the net is a new word
  new_goes : (w : World) (v : Net (ℕ → ℕ)) → w.n ≡ n → Mirrors w v → (i : ℕ) (f : Ev) → T (is_new s i (act_of w f) v) → T (goes f w)
  new_goes w v q m i (Road a e c) h = absurd h
  new_goes w v q m i (Says a t) h = right_t (ltb a w.n) (ltb a w.n && (not (is_in t w.drawn) && not (own_true a w))) (right_t (eqb a i) (ltb a w.n && (ltb a w.n && (not (is_in t w.drawn) && not (own_true a w)))) (subst T (says_is w v q m i a t) h))
  new_goes w v q m i (Sends a e j) h = absurd h
  new_goes w v q m i (Comes k t) h = nth_goes w v m i k t w.flight (subst (λ (xs : List (Copy (ℕ → ℕ))). T (news_nth v i k t xs)) m.flight h)
  new_goes w v q m i (Falls a) h = absurd h

  -- a new word is new about some router
  pub goes_new : (w : World) (v : Net (ℕ → ℕ)) → w.n ≡ n → Mirrors w v → AllBelow n w.flight → (f : Ev) → T (goes f w) → (i : ℕ) × (i < n) × T (is_new s i (act_of w f) v)
  goes_new w v q m b (Road a e c) h = absurd h
  goes_new w v q m b (Says a t) h =
      let l = left_t (ltb a w.n) (not (is_in t w.drawn) && not (own_true a w)) h in
      (a, subst (λ k. a < k) q (ltb→lt a w.n l), subst T (sym (says_is w v q m a a t)) (both_t (eqb a a) (ltb a w.n && (ltb a w.n && (not (is_in t w.drawn) && not (own_true a w)))) (eqb_refl a) (both_t (ltb a w.n) (ltb a w.n && (not (is_in t w.drawn) && not (own_true a w))) l h)))
  goes_new w v q m b (Sends a e j) h = absurd h
  goes_new w v q m b (Comes k t) h =
      let r = nth_some w v m k t w.flight b h in
      (r.0, r.1, subst (λ (xs : List (Copy (ℕ → ℕ))). T (news_nth v r.0 k t xs)) (sym m.flight) r.2)
  goes_new w v q m b (Falls a) h = absurd h

module _ (n : ℕ) (s : Setup (ℕ → ℕ)) (o : OfRoads n s) (mir : (es : List Ev) → Mirrors (world n es) (net s (acts_of n es))) where
  -- the net mirrors the world after fs too
  pub mirrors_after : (fs es : List Ev) → Mirrors (world n (fs ++ es)) (net s (acts n fs es ++ acts_of n es))
  mirrors_after fs es = subst (λ (xs : List (Act (ℕ → ℕ))). Mirrors (world n (fs ++ es)) (net s xs)) (acts_join n fs es) (mir (fs ++ es))

  -- what is new about one router is new
  pub news_le : (i : ℕ) (fs es : List Ev) → news s i (acts n fs es) (acts_of n es) ≤ new_words n fs es
  unfolding news new_words
  news_le i [] es = omega arith
  news_le i (f ∷ fs) es =
      let w = world n (fs ++ es) in let v = net s (acts n fs es ++ acts_of n es) in
      let k = news_le i fs es in
      let h = one_mono (is_new s i (act_of w f) v) (goes f w) (new_goes n s o w v (world_n n (fs ++ es)) (mirrors_after fs es) i f) in
      omega arith

  -- events by rule are acts by rule
  pub rule_for : (i : ℕ) (fs es : List Ev) → T (by_rule n fs es) → T (by_rule_for s i (acts n fs es) (acts_of n es))
  unfolding by_rule by_rule_for
  rule_for i [] es h = tt
  rule_for i (Road a e c ∷ fs) es h = absurd h
  rule_for i (Says a t ∷ fs) es h = both_t (not (eqb a i) || owes s (net s (acts n fs es ++ acts_of n es)) a a) (by_rule_for s i (acts n fs es) (acts_of n es))
      (or_t_right (not (eqb a i)) (owes s (net s (acts n fs es ++ acts_of n es)) a a) (subst T (sym (owes_own n s o (world n (fs ++ es)) (net s (acts n fs es ++ acts_of n es)) (world_n n (fs ++ es)) (mirrors_after fs es) a)) (left_t (not (own_true a (world n (fs ++ es)))) (by_rule n fs es) h)))
      (rule_for i fs es (right_t (not (own_true a (world n (fs ++ es)))) (by_rule n fs es) h))
  rule_for i (Sends a e j ∷ fs) es h = rule_for i fs es h
  rule_for i (Comes k t ∷ fs) es h = rule_for i fs es h
  rule_for i (Falls a ∷ fs) es h = absurd h

  -- acts by rule about every subject are the acts of events by rule
  pub rule_from : (es : List Ev) (gs : List (Act (ℕ → ℕ))) → ((j : ℕ) → T (by_rule_for s j gs (acts_of n es))) → (fs : List Ev) × (acts n fs es ≡ gs) × T (by_rule n fs es) × (length fs ≡ length gs)
  unfolding by_rule by_rule_for
  rule_from es [] h = ([], refl, tt, refl)
  rule_from es (Turns a l sp p ∷ gs) h = absurd (h 0)
  rule_from es (Speaks a i t ∷ gs) h = go (rule_from es gs (λ j. right_t (not (eqb i j) || owes s (net s (gs ++ acts_of n es)) a i) (by_rule_for s j gs (acts_of n es)) (h j)))
    where
      owed : T (owes s (net s (gs ++ acts_of n es)) a i)
      owed = t_since (eqb i i) (owes s (net s (gs ++ acts_of n es)) a i) (left_t (not (eqb i i) || owes s (net s (gs ++ acts_of n es)) a i) (by_rule_for s i gs (acts_of n es)) (h i)) (eqb_refl i)

      go : (fs : List Ev) × (acts n fs es ≡ gs) × T (by_rule n fs es) × (length fs ≡ length gs) → (fs : List Ev) × (acts n fs es ≡ Speaks a i t ∷ gs) × T (by_rule n fs es) × (length fs ≡ suc (length gs))
      go (fs, e, r, k) =
          let m = mirrors_after fs es in
          let w' = subst (λ (xs : List (Act (ℕ → ℕ))). T (owes s (net s (xs ++ acts_of n es)) a i)) (sym e) owed in
          let q = owes_who n s o (world n (fs ++ es)) (net s (acts n fs es ++ acts_of n es)) m a i (t_true (owes s (net s (acts n fs es ++ acts_of n es)) a i) w') in
          let u = subst (λ k. T (owes s (net s (acts n fs es ++ acts_of n es)) a k)) (sym q) w' in (
            Says a t ∷ fs,
            ap₂ {C = List (Act (ℕ → ℕ))} (λ (k : ℕ) (xs : List (Act (ℕ → ℕ))). Speaks a k t ∷ xs) q e,
            both_t (not (own_true a (world n (fs ++ es)))) (by_rule n fs es) (subst T (owes_own n s o (world n (fs ++ es)) (net s (acts n fs es ++ acts_of n es)) (world_n n (fs ++ es)) m a) u) r,
            ap suc k,
          )
  rule_from es (Tells a e i ∷ gs) h =
      let r = rule_from es gs h in (Sends a e i ∷ r.0, ap {B = List (Act (ℕ → ℕ))} (λ (xs : List (Act (ℕ → ℕ))). Tells a e i ∷ xs) r.1, r.2, ap suc r.3)
  rule_from es (Gets k t ∷ gs) h =
      let r = rule_from es gs h in (Comes k t ∷ r.0, ap {B = List (Act (ℕ → ℕ))} (λ (xs : List (Act (ℕ → ℕ))). Gets k t ∷ xs) r.1, r.2, ap suc r.3)
  rule_from es (Back a to ∷ gs) h = absurd (h 0)
