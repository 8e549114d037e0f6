-- Few words by rule bring rest, router by router.
use Rattle.std.proofs.Common.{◌≡◌, ℕ, zero, suc, ◌+◌, ◌*◌, ◌<◌, ◌≤◌, T, List, [], ◌++◌, length, sym, ap, ◌∙◌, subst, append_assoc, mul_assoc, suc-mul, mul_comm, mul-add, arith, length-append}
use Rattle.std.proofs.lemmas.Bool.{not-false, lt-ltb, ltb-true}
use Rattle.model.specs.Words.{World, Ev, world}
use Rattle.model.specs.Promise.{own_true, only_words, Even, Rest, by_rule, ComesToRest}
use Rattle.model.specs.Settling.{RestsByRule}
use Rattle.model.specs.Flood.{Item, Setup, Net, Act, net}
use Rattle.model.specs.Spread.{Settled, by_rule_for, EvenFor, ComesToRestFor}
use Rattle.model.specs.Roads.{item_of, acts_of, OfRoads, Mirrors, RoadsAreAnInstance}
use Rattle.model.proofs.Tests.{true_t}
use Rattle.model.proofs.Sizes.{world_n}
use Rattle.model.proofs.Resting.{own_so_lem, so_own, rest_from}
use Rattle.model.proofs.WordsByRule.{real_kept, even_kept, rule_join, rule_only}
use Rattle.model.proofs.EventActs.{acts, mirrors_after, rule_from, owes_own}
use Rattle.model.proofs.WordsEnd.{lone}
use Rattle.model.proofs.Below.{below_suc}

-- at rest about one router: it has said what is so, and whoever share a road have the same word of it
pub record Calm (w : World) (i : ℕ) : Type 0 where
  pub own : T (own_true i w)
  pub alike : (a e : ℕ) → a < w.n → e < w.n → 0 < w.real a e → 0 < w.real e a → ((w.knows a i).number ≡ (w.knows e i).number) × ((w.knows a i).tag ≡ (w.knows e i).tag)

-- calm about all routers is rest
pub calm_rest_lem : (w : World) → Even w → ((i : ℕ) → i < w.n → Calm w i) → Rest w
calm_rest_lem w v h = rest_from w v (λ a l. (h a l).own) (λ a e i l m k p q. (h i k).alike a e l m p q)

-- calm stays where the same roads are open and the same is known of that router
calm_kept : (w u : World) (i : ℕ) → w.n ≡ u.n → w.real ≡ u.real → ((a : ℕ) → item_of (u.knows a i) ≡ item_of (w.knows a i)) → Calm w i → Calm u i
calm_kept w u i n-is r k c = record {
  own = so_own i u (λ x l. let h = own_so_lem i w c.own x (subst (λ m. x < m) (sym n-is) l) in (
    ap (λ (y : Item (ℕ → ℕ)). y.body x) (k i) ∙ h.0 ∙ ap (λ (f : ℕ → ℕ → ℕ). f i x) r,
    λ p. subst (λ m. 0 < m) (sym (number i)) (h.1 (road_back i x p)),
  ));
  alike = λ a e l m p q. let h = c.alike a e (subst (λ m. a < m) (sym n-is) l) (subst (λ m. e < m) (sym n-is) m) (road_back a e p) (road_back e a q) in
      (number a ∙ h.0 ∙ sym (number e), tag a ∙ h.1 ∙ sym (tag e));
}
  where
    number : (a : ℕ) → (u.knows a i).number ≡ (w.knows a i).number
    number a = ap (λ (y : Item (ℕ → ℕ)). y.number) (k a)

    tag : (a : ℕ) → (u.knows a i).tag ≡ (w.knows a i).tag
    tag a = ap (λ (y : Item (ℕ → ℕ)). y.tag) (k a)

    road_back : (a e : ℕ) → 0 < u.real a e → 0 < w.real a e
    road_back a e p = subst (λ (f : ℕ → ℕ → ℕ). 0 < f a e) (sym r) p

module _ (n : ℕ) (s : Setup (ℕ → ℕ)) (o : OfRoads n s) (mir : (es : List Ev) → Mirrors (world n es) (net s (acts_of n es))) where
  -- rest about a subject in the net is calm about that router
  pub settled_calm : (w : World) (v : Net (ℕ → ℕ)) → w.n ≡ n → Mirrors w v → (i : ℕ) → i < n → Settled s v i → Calm w i
  settled_calm w v q m i l h = record {
    own = true_t (own_true i w) (not-false (own_true i w) (sym (owes_own n s o w v q m i) ∙ h.own i (subst (λ k. i < k) (sym o.boxes) l)));
    alike = λ a e l k p r. let z = h.alike a e (subst (λ j. a < j) (q ∙ sym o.boxes) l) (subst (λ j. e < j) (q ∙ sym o.boxes) k) (m.link a e ∙ lt-ltb 0 (w.real a e) p) (m.link e a ∙ lt-ltb 0 (w.real e a) r) in (
      sym (ap (λ (y : Item (ℕ → ℕ)). y.number) (m.holds a i)) ∙ z.0 ∙ ap (λ (y : Item (ℕ → ℕ)). y.number) (m.holds e i),
      sym (ap (λ (y : Item (ℕ → ℕ)). y.tag) (m.holds a i)) ∙ z.1 ∙ ap (λ (y : Item (ℕ → ℕ)). y.tag) (m.holds e i),
    );
  }

  -- both ends of each link agree where both ends of each road do
  pub even_for_lem : (es : List Ev) → Even (world n es) → EvenFor s (net s (acts_of n es))
  even_for_lem es v a e l m p = (mir es).link e a ∙ lt-ltb 0 ((world n es).real e a) (v a e (subst (λ j. a < j) (o.boxes ∙ sym (world_n n es)) l) (subst (λ j. e < j) (o.boxes ∙ sym (world_n n es)) m) (ltb-true 0 ((world n es).real a e) (sym ((mir es).link a e) ∙ p)))

  -- words by rule that bring calm about the first k routers
  abbrev CalmUpTo : List Ev → ℕ → Type 0
  CalmUpTo es k = (fs : List Ev) × T (by_rule n fs es) × (length fs ≤ k * (4 * n + 1)) × ((i : ℕ) → i < k → Calm (world n (fs ++ es)) i)

  -- one router more
  one_more : ComesToRestFor (ℕ → ℕ) → (es : List Ev) → Even (world n es) → (k : ℕ) → k < n → CalmUpTo es k → CalmUpTo es (suc k)
  one_more c es v k l (fs, r, len, calm) = (hs ++ fs, rule_join n hs fs es hr r, fits, λ i j. subst (λ (xs : List Ev). Calm (world n xs) i) (sym (append_assoc hs fs es)) (at i j))
    where
      step : (gs : List (Act (ℕ → ℕ))) × (length gs ≤ 4 * s.boxes + 1) × ((j : ℕ) → T (by_rule_for s j gs (acts_of n (fs ++ es)))) × Settled s (net s (gs ++ acts_of n (fs ++ es))) k ×
          ((a j : ℕ) → (j ≡ k → ⊥) → (net s (gs ++ acts_of n (fs ++ es))).holds a j ≡ (net s (acts_of n (fs ++ es))).holds a j)
      step = c s k (acts_of n (fs ++ es)) (subst (λ m. k < m) (sym o.subjects) l) (even_for_lem (fs ++ es) (even_kept n fs es r v)) (lone n s o mir (fs ++ es) k)

      evs : (hs : List Ev) × (acts n hs (fs ++ es) ≡ step.0) × T (by_rule n hs (fs ++ es)) × (length hs ≡ length step.0)
      evs = rule_from n s o mir (fs ++ es) step.0 step.2

      hs : List Ev
      hs = evs.0

      hr : T (by_rule n hs (fs ++ es))
      hr = evs.2

      fits : length (hs ++ fs) ≤ suc k * (4 * n + 1)
      fits = let a = step.1 in let b = evs.3 in let d = length-append hs fs in let e = suc-mul k (4 * n + 1) in let f = o.boxes in omega arith

      kept : (a j : ℕ) → (j ≡ k → ⊥) → item_of ((world n (hs ++ (fs ++ es))).knows a j) ≡ item_of ((world n (fs ++ es)).knows a j)
      kept a j d = sym ((mirrors_after n s o mir hs (fs ++ es)).holds a j)
          ∙ subst (λ (xs : List (Act (ℕ → ℕ))). (net s (xs ++ acts_of n (fs ++ es))).holds a j ≡ (net s (acts_of n (fs ++ es))).holds a j) (sym evs.1) (step.4 a j d) ∙ (mir (fs ++ es)).holds a j

      at : (i : ℕ) → i < suc k → Calm (world n (hs ++ (fs ++ es))) i
      at = below_suc (Calm (world n (hs ++ (fs ++ es)))) k
          (λ i j. calm_kept (world n (fs ++ es)) (world n (hs ++ (fs ++ es))) i (world_n n (fs ++ es) ∙ sym (world_n n (hs ++ (fs ++ es)))) (sym (real_kept n hs (fs ++ es) hr)) (λ a. kept a i (λ d. let z : ⊥ = omega arith in z)) (calm i j))
          (settled_calm (world n (hs ++ (fs ++ es))) (net s (acts n hs (fs ++ es) ++ acts_of n (fs ++ es))) (world_n n (hs ++ (fs ++ es))) (mirrors_after n s o mir hs (fs ++ es)) k l
          (subst (λ (xs : List (Act (ℕ → ℕ))). Settled s (net s (xs ++ acts_of n (fs ++ es))) k) (sym evs.1) step.3))

  up_to : ComesToRestFor (ℕ → ℕ) → (es : List Ev) → Even (world n es) → (k : ℕ) → k ≤ n → CalmUpTo es k
  up_to c es v zero l = ([], unfold by_rule in tt, omega arith, λ i j. absurd (let z : ⊥ = omega arith in z))
  up_to c es v (suc k) l = one_more c es v k l (up_to c es v k (omega arith))

  -- calm about all
  rests : ComesToRestFor (ℕ → ℕ) → (es : List Ev) → Even (world n es) → (fs : List Ev) × T (by_rule n fs es) × (length fs ≤ 4 * n * n + n) × Rest (world n (fs ++ es))
  rests c es v = go (up_to c es v n (omega arith))
    where
      go : CalmUpTo es n → (fs : List Ev) × T (by_rule n fs es) × (length fs ≤ 4 * n * n + n) × Rest (world n (fs ++ es))
      go (fs, r, len, calm) = (
        fs,
        r,
        (let a = mul-add n (4 * n) 1 in let b = mul_comm n (4 * n) in omega arith),
        calm_rest_lem (world n (fs ++ es)) (even_kept n fs es r v) (λ i l. calm i (subst (λ m. i < m) (world_n n (fs ++ es)) l)),
      )

-- few words by rule bring rest
pub rests_by_rule_lem : RoadsAreAnInstance → ComesToRestFor (ℕ → ℕ) → RestsByRule
rests_by_rule_lem r c n es v = let s = r.0 n in rests n s.0 s.1 (r.1 n s.0 s.1) c es v

-- so few words do
pub comes_to_rest_lem : RestsByRule → ComesToRest
comes_to_rest_lem h n es v = go (h n es v)
  where
    go : (fs : List Ev) × T (by_rule n fs es) × (length fs ≤ 4 * n * n + n) × Rest (world n (fs ++ es)) → (fs : List Ev) × T (only_words fs) × (length fs ≤ 6 * n * n + n) × Rest (world n (fs ++ es))
    go (fs, r, l, q) = (fs, rule_only n fs es r, (let a = mul_assoc 4 n n in let b = mul_assoc 6 n n in omega arith), q)
