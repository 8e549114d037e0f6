-- However copies go by rule, only so many acts are new to somebody.
use Rattle.std.proofs.Common.{◌≡◌, ℕ, zero, suc, ◌+◌, ◌*◌, ◌<◌, ◌≤◌, Bool, true, false, cond, not, ◌&&◌, ◌||◌, T, eqb, ltb, ◌⊎◌, List, [], ◌∷◌, ◌++◌, length, sym, refl, ap, ◌∙◌, subst, inl, inr, mul_assoc, arith}
use native.Mathlib.Decide.{ℕ_discrete}
use Rattle.std.proofs.lemmas.Bool.{eq-eqb}
use Rattle.model.specs.Flood.{Item, fresher, Copy, Setup, Net, Act, act, net}
use Rattle.model.specs.Spread.{Lone, owes, by_rule_for, is_new, news, about_in, most_news, EndsFor}
use Rattle.model.proofs.Tests.{true_not_false, and_first}
use Rattle.model.proofs.Tallies.{tally, tally_lt, tally_le, Among, sum, sum_le, sum_fall, sum_trade, sum_lone}
use Rattle.model.proofs.Fresh.{not_both, number_fresher, fresher_self, fresher_trans}
use Rattle.model.proofs.Acts.{Puts}
use Rattle.model.proofs.OneAct.{Keeps, Sent, Arrives, Effect, Stays, Takes, Answers, Says, Ruled, effect, keeps, flies, goes_inside}
use Rattle.model.proofs.ByRule.{rule_last}
use Rattle.model.proofs.Weight.{above, weight, weight_takes, weight_hears, weight_says, weight_start}

-- the weight of box a in a state
abbrev heavy : {P : Type 0} → Setup P → ℕ → List (Item P) → List (Item P) → Net P → ℕ → ℕ
heavy s i old said w a = weight s old said (w.speaks a i) (w.holds a i) (w.would a i)

-- what holds all along: who has what of subject i, what is on its way, and that who speaks has the freshest of what was said
record Along {P : Type 0} (s : Setup P) (i : ℕ) (old said : List (Item P)) (w : Net P) : Type 0 where
  lone : Lone s w i
  held : (a : ℕ) → a < s.boxes → Among (w.holds a i) said ⊎ Among (w.holds a i) old
  inside : (x : Copy P) → Among x w.flight → x.to < s.boxes
  flying : (x : Copy P) → Among x w.flight → x.about ≡ i → Among x.item said ⊎ Among x.item old
  top : (b : ℕ) → b < s.boxes → w.speaks b i ≡ true → (z : Item P) → Among z said → fresher z (w.holds b i) ≡ false

-- the state after, with what was said then
record Later {P : Type 0} (s : Setup P) (i : ℕ) (old said : List (Item P)) (w v : Net P) (k : ℕ) : Type 0 where
  now : List (Item P)
  along : Along s i old now v
  lighter : sum s.boxes (heavy s i old now v) + k ≤ sum s.boxes (heavy s i old said w)

module _ {P : Type 0} (s : Setup P) (i : ℕ) (old said : List (Item P)) (w v : Net P) (here : Along s i old said w) (kept : Keeps w v) (fly : (x : Copy P) → Among x v.flight → Among x w.flight ⊎ Sent s w x) where
  speaks_at : (a : ℕ) → v.speaks a i ≡ w.speaks a i
  speaks_at a = ap (λ f. f a i) kept.same_speaks

  would_at : (a : ℕ) → v.would a i ≡ w.would a i
  would_at a = ap (λ f. f a i) kept.same_would

  -- what was around still is, if no less was said
  widen : (more : List (Item P)) → ((z : Item P) → Among z said → Among z more) → (z : Item P) → Among z said ⊎ Among z old → Among z more ⊎ Among z old
  widen more grow z (inl m) = inl (grow z m)
  widen more grow z (inr m) = inr m

  -- what holds after, if no less was said, and of what is held and who has the freshest it is known
  after : (more : List (Item P)) → ((z : Item P) → Among z said → Among z more) → ((a : ℕ) → a < s.boxes → Among (v.holds a i) more ⊎ Among (v.holds a i) old) →
      ((b : ℕ) → b < s.boxes → w.speaks b i ≡ true → (z : Item P) → Among z more → fresher z (v.holds b i) ≡ false) → Along s i old more v
  after more grow hold best = record {
    lone = λ a e m n p q. here.lone a e m n (sym (speaks_at a) ∙ p) (sym (speaks_at e) ∙ q);
    held = hold;
    inside = λ x m. within x (fly x m);
    flying = λ x m e. aloft x e (fly x m);
    top = λ b m p. best b m (sym (speaks_at b) ∙ p);
  }
    where
      within : (x : Copy P) → Among x w.flight ⊎ Sent s w x → x.to < s.boxes
      within x (inl m) = here.inside x m
      within x (inr t) = t.to_in

      aloft : (x : Copy P) → x.about ≡ i → Among x w.flight ⊎ Sent s w x → Among x.item more ⊎ Among x.item old
      aloft x e (inl m) = widen more grow x.item (here.flying x m e)
      aloft x e (inr t) = subst (λ (z : Item P). Among z more ⊎ Among z old) (sym (t.is ∙ ap (λ j. w.holds x.from j) e)) (widen more grow (w.holds x.from i) (here.held x.from t.from_in))

  -- the weight of a box that has what it had
  alike : (a : ℕ) → v.holds a i ≡ w.holds a i → (l : List (Item P)) → heavy s i old l v a ≡ weight s old l (w.speaks a i) (w.holds a i) (w.would a i)
  alike a e l = ap (λ b. weight s old l b (v.holds a i) (v.would a i)) (speaks_at a) ∙ ap (λ x. weight s old l (w.speaks a i) x (v.would a i)) e ∙ ap (λ p. weight s old l (w.speaks a i) (w.holds a i) p) (would_at a)

  -- the weight of a box that has something else
  other : (a : ℕ) (y : Item P) → v.holds a i ≡ y → (l : List (Item P)) → heavy s i old l v a ≡ weight s old l (w.speaks a i) y (w.would a i)
  other a y e l = ap (λ b. weight s old l b (v.holds a i) (v.would a i)) (speaks_at a) ∙ ap (λ x. weight s old l (w.speaks a i) x (v.would a i)) e ∙ ap (λ p. weight s old l (w.speaks a i) y p) (would_at a)

  -- nothing changed about i
  stays : ((a : ℕ) → v.holds a i ≡ w.holds a i) → Later s i old said w v 0
  stays h = record {
    now = said;
    along = after said (λ z m. m) (λ a m. subst (λ (z : Item P). Among z said ⊎ Among z old) (sym (h a)) (here.held a m)) (λ b m p z q. subst (λ (x : Item P). fresher z x ≡ false) (sym (h b)) (here.top b m p z q));
    lighter = let d : sum s.boxes (heavy s i old said v) ≤ sum s.boxes (heavy s i old said w) = sum_le s.boxes (heavy s i old said v) (heavy s i old said w) (λ a m. let e : heavy s i old said v a ≡ heavy s i old said w a = alike a (h a) said in omega arith) in omega arith;
  }

  -- a box that doesn't speak for i takes a copy
  takes : (x : Copy P) → Arrives i w x → w.speaks x.to i ≡ false → Puts w v x.to i x.item → Later s i old said w v 1
  takes x come mute put = record {
    now = said;
    along = after said (λ z m. m) (λ a m. hold a m (ℕ_discrete a x.to)) best;
    lighter = sum_fall s.boxes x.to 1 (heavy s i old said v) (heavy s i old said w) (here.inside x come.there) less (λ a m u. let e : heavy s i old said v a ≡ heavy s i old said w a = alike a (put.there a u) said in omega arith);
  }
    where
      around : Among x.item said ⊎ Among x.item old
      around = here.flying x come.there come.about_it

      hold : (a : ℕ) → a < s.boxes → Dec (a ≡ x.to) → Among (v.holds a i) said ⊎ Among (v.holds a i) old
      hold a m (yes e) = subst (λ (z : Item P). Among z said ⊎ Among z old) (sym (ap (λ b. v.holds b i) e ∙ put.here)) around
      hold a m (no u) = subst (λ (z : Item P). Among z said ⊎ Among z old) (sym (put.there a u)) (here.held a m)

      best : (b : ℕ) → b < s.boxes → w.speaks b i ≡ true → (z : Item P) → Among z said → fresher z (v.holds b i) ≡ false
      best b m p z q = subst (λ (y : Item P). fresher z y ≡ false) (sym (put.there b (λ e. true_not_false (w.speaks b i) p (ap (λ c. w.speaks c i) e ∙ mute)))) (here.top b m p z q)

      less : heavy s i old said v x.to + 1 ≤ heavy s i old said w x.to
      less = subst (λ k. k + 1 ≤ heavy s i old said w x.to) (sym (other x.to x.item put.here said)) (weight_takes s old said (w.speaks x.to i) (w.holds x.to i) x.item (w.would x.to i) mute come.fresh around)

  -- who speaks for i says an item, because it owed one or above an older one
  says : (b : ℕ) (y : Item P) → b < s.boxes → w.speaks b i ≡ true → fresher y (w.holds b i) ≡ true → y.body ≡ w.would b i → 0 < y.number →
      tally (above y) old + 1 ≤ tally (above (w.holds b i)) old + cond (owes s w b i) 1 0 → Puts w v b i y → Later s i old said w v 1
  says b y l sp fr bd pos less put = record {
    now = y ∷ said;
    along = after (y ∷ said) (λ z m. inr m) (λ a m. hold a m (ℕ_discrete a b)) best;
    lighter = let d : sum s.boxes (heavy s i old (y ∷ said) v) + s.boxes + 1 ≤ sum s.boxes (heavy s i old said w) + s.boxes = sum_trade s.boxes b s.boxes (heavy s i old (y ∷ said) v) (heavy s i old said w) l falls hears in omega arith;
  }
    where
      hold : (a : ℕ) → a < s.boxes → Dec (a ≡ b) → Among (v.holds a i) (y ∷ said) ⊎ Among (v.holds a i) old
      hold a m (yes e) = inl (inl (ap (λ c. v.holds c i) e ∙ put.here))
      hold a m (no u) = subst (λ (z : Item P). Among z (y ∷ said) ⊎ Among z old) (sym (put.there a u)) (widen (y ∷ said) (λ z k. inr k) (w.holds a i) (here.held a m))

      older : (z : Item P) (c : Bool) → fresher z y ≡ c → fresher z (w.holds b i) ≡ false → fresher z y ≡ false
      older z true p q = true_not_false (fresher z (w.holds b i)) (fresher_trans z y (w.holds b i) p fr) q
      older z false p q = p

      best_own : (z : Item P) → Among z (y ∷ said) → fresher z y ≡ false
      best_own z (inl e) = subst (λ (x : Item P). fresher x y ≡ false) (sym e) (fresher_self y)
      best_own z (inr m) = older z (fresher z y) refl (here.top b l sp z m)

      best : (a : ℕ) → a < s.boxes → w.speaks a i ≡ true → (z : Item P) → Among z (y ∷ said) → fresher z (v.holds a i) ≡ false
      best a m p z q = subst (λ (x : Item P). fresher z x ≡ false) (sym (ap (λ c. v.holds c i) (here.lone a b m l p sp) ∙ put.here)) (best_own z q)

      falls : heavy s i old (y ∷ said) v b + s.boxes ≤ heavy s i old said w b
      falls = subst (λ k. k + s.boxes ≤ heavy s i old said w b) (sym (other b y put.here (y ∷ said))) (weight_says s old said (w.speaks b i) (w.holds b i) y (w.would b i) sp fr bd pos less)

      hears : (a : ℕ) → a < s.boxes → (a ≡ b → ⊥) → heavy s i old (y ∷ said) v a ≤ heavy s i old said w a + 1
      hears a m u = subst (λ k. k ≤ heavy s i old said w a + 1) (sym (alike a (put.there a u) (y ∷ said))) (weight_hears s old said (w.speaks a i) (w.holds a i) y (w.would a i))

  -- whatever an act by rule does, what is new lowers the weight
  moves : (new : Bool) → Effect s i w v new → Later s i old said w v (cond new 1 0)
  moves new (Stays e h) = subst (λ (c : Bool). Later s i old said w v (cond c 1 0)) (sym e) (stays h)
  moves new (Takes x e come mute put) = subst (λ (c : Bool). Later s i old said w v (cond c 1 0)) (sym e) (takes x come mute put)
  moves new (Answers x y e come sp sd put) =
      subst (λ (c : Bool). Later s i old said w v (cond c 1 0)) (sym e)
      (says x.to y (here.inside x come.there) sp (fresher_trans y x.item (w.holds x.to i) up come.fresh) sd.body_is (omega (arith, sd.number_is)) less put)
    where
      up : fresher y x.item ≡ true
      up = number_fresher y x.item (omega (arith, sd.number_is))

      was : Among x.item said ⊎ Among x.item old → Among x.item old
      was (inl m) = true_not_false (fresher x.item (w.holds x.to i)) come.fresh (here.top x.to (here.inside x come.there) sp x.item m)
      was (inr m) = m

      less : tally (above y) old + 1 ≤ tally (above (w.holds x.to i)) old + cond (owes s w x.to i) 1 0
      less =
          let d : tally (above y) old < tally (above (w.holds x.to i)) old =
          tally_lt (above y) (above (w.holds x.to i)) x.item old (λ z q. fresher_trans z y (w.holds x.to i) q (fresher_trans y x.item (w.holds x.to i) up come.fresh)) (was (here.flying x come.there come.about_it)) (not_both y x.item up) come.fresh in
          omega arith
  moves new (Says a y e l ow sd put) =
      subst (λ (c : Bool). Later s i old said w v (cond c 1 0)) (sym e) (says a y l sp up sd.body_is (omega (arith, sd.number_is)) less put)
    where
      sp : w.speaks a i ≡ true
      sp = and_first (w.speaks a i) (not (s.same (w.holds a i).body (w.would a i) && (s.mute (w.would a i) || ltb 0 (w.holds a i).number))) ow

      up : fresher y (w.holds a i) ≡ true
      up = number_fresher y (w.holds a i) (omega (arith, sd.number_is))

      less : tally (above y) old + 1 ≤ tally (above (w.holds a i)) old + cond (owes s w a i) 1 0
      less =
          let d : tally (above y) old ≤ tally (above (w.holds a i)) old = tally_le (above y) (above (w.holds a i)) old (λ z q. fresher_trans z y (w.holds a i) q up) in
          let o : ◌≡◌ {A = ℕ} (cond (owes s w a i) 1 0) 1 = ap (λ (c : Bool). cond {A = ℕ} c 1 0) ow in
          omega arith

-- along a run by rule
run : {P : Type 0} (s : Setup P) (i : ℕ) (old : List (Item P)) (fs es : List (Act P)) → Along s i old [] (net s es) → T (by_rule_for s i fs es) → Later s i old [] (net s es) (net s (fs ++ es)) (news s i fs es)
unfolding net news
run s i old [] es h r = record { now = []; along = h; lighter = omega arith }
run {P} s i old (f ∷ fs) es h r = go (run s i old fs es h (rule_last s i f fs es r).1)
  where
    w : Net P
    w = net s (fs ++ es)

    ok : Ruled s i f w
    ok = (rule_last s i f fs es r).0

    go : Later s i old [] (net s es) w (news s i fs es) → Later s i old [] (net s es) (act s f w) (news s i fs es + cond (is_new s i f w) 1 0)
    go q =
        let n : Later s i old q.now w (act s f w) (cond (is_new s i f w) 1 0) = moves s i old q.now w (act s f w) q.along (keeps s i f w ok) (flies s f w) (is_new s i f w) (effect s i f w ok) in
        let a : sum s.boxes (heavy s i old q.now w) + news s i fs es ≤ sum s.boxes (heavy s i old [] (net s es)) = q.lighter in
        let b : sum s.boxes (heavy s i old n.now (act s f w)) + cond (is_new s i f w) 1 0 ≤ sum s.boxes (heavy s i old q.now w) = n.lighter in
        record { now = n.now; along = n.along; lighter = omega arith }

-- what is held by the boxes below n, and then some
abbrev begin : {P : Type 0} → ℕ → (ℕ → Item P) → List (Item P) → List (Item P)
begin zero h l = l
begin (suc n) h l = h n ∷ begin n h l

-- the items of the copies about i
abbrev items : {P : Type 0} → ℕ → List (Copy P) → List (Item P)
items i [] = []
items i (x ∷ xs) = cond (eqb x.about i) (x.item ∷ items i xs) (items i xs)

begin_length : {P : Type 0} (n : ℕ) (h : ℕ → Item P) (l : List (Item P)) → length (begin n h l) ≡ n + length l
begin_length zero h l = omega arith
begin_length (suc n) h l = let e : length (begin n h l) ≡ n + length l = begin_length n h l in omega arith

begin_has : {P : Type 0} (n : ℕ) (h : ℕ → Item P) (l : List (Item P)) (a : ℕ) → a < n → Among (h a) (begin n h l)
begin_has zero h l a m = absurd (omega arith)
begin_has (suc n) h l a m = go (begin_has n h l a) (ℕ_discrete a n)
  where
    go : (a < n → Among (h a) (begin n h l)) → Dec (a ≡ n) → (h a ≡ h n) ⊎ Among (h a) (begin n h l)
    go r (yes e) = inl (ap h e)
    go r (no u) = inr (r (omega arith))

begin_rest : {P : Type 0} (n : ℕ) (h : ℕ → Item P) (l : List (Item P)) (z : Item P) → Among z l → Among z (begin n h l)
begin_rest zero h l z m = m
begin_rest (suc n) h l z m = inr (begin_rest n h l z m)

items_length : {P : Type 0} (i : ℕ) (xs : List (Copy P)) → length (items i xs) ≡ about_in i xs
unfolding about_in
items_length i [] = refl
items_length i (x ∷ xs) = go (items_length i xs) (eqb x.about i)
  where
    go : length (items i xs) ≡ about_in i xs → (b : Bool) → length (cond b (x.item ∷ items i xs) (items i xs)) ≡ about_in i xs + cond b 1 0
    go e true = omega arith
    go e false = omega arith

items_has : {P : Type 0} (i : ℕ) (xs : List (Copy P)) (x : Copy P) → Among x xs → x.about ≡ i → Among x.item (items i xs)
items_has i [] x m e = absurd m
items_has {P} i (y ∷ ys) x (inl q) e = subst (λ (b : Bool). Among x.item (cond b (y.item ∷ items i ys) (items i ys))) (sym (eq-eqb y.about i (ap (λ (c : Copy P). c.about) (sym q) ∙ e))) (inl (ap (λ (c : Copy P). c.item) q))
items_has i (y ∷ ys) x (inr m) e = go (items_has i ys x m e) (eqb y.about i)
  where
    go : Among x.item (items i ys) → (b : Bool) → Among x.item (cond b (y.item ∷ items i ys) (items i ys))
    go r true = inr r
    go r false = r

pub ends_for_lem : (P : Type 0) → EndsFor P
ends_for_lem P s i es fs lone r =
    let q : Later s i old [] w (net s (fs ++ es)) (news s i fs es) = run s i old fs es begun r in
    let a : sum s.boxes (heavy s i old q.now (net s (fs ++ es))) + news s i fs es ≤ sum s.boxes (heavy s i old [] w) = q.lighter in
    let b : sum s.boxes (heavy s i old [] w) ≤ s.boxes * length old + s.boxes * length old = sum_lone s.boxes (length old) (s.boxes * length old) (λ a. w.speaks a i) (heavy s i old [] w) lone
    (λ a m. weight_start s old (w.speaks a i) (w.holds a i) (w.would a i) (begin_has s.boxes (λ a. w.holds a i) (items i w.flight) a m)) in
    let c : most_news s i es ≡ 2 * (s.boxes * length old) = ap (λ k. 2 * s.boxes * k) (sym long) ∙ mul_assoc 2 s.boxes (length old) in
    omega arith
  where
    w : Net P
    w = net s es

    old : List (Item P)
    old = begin s.boxes (λ a. w.holds a i) (items i w.flight)

    long : length old ≡ s.boxes + about_in i w.flight
    long = begin_length s.boxes (λ a. w.holds a i) (items i w.flight) ∙ ap (λ k. s.boxes + k) (items_length i w.flight)

    begun : Along s i old [] w
    begun = record {
      lone = lone;
      held = λ a m. inr (begin_has s.boxes (λ a. w.holds a i) (items i w.flight) a m);
      inside = goes_inside s es;
      flying = λ x m e. inr (begin_rest s.boxes (λ a. w.holds a i) (items i w.flight) x.item (items_has i w.flight x m e));
      top = λ b m p z q. absurd q;
    }
