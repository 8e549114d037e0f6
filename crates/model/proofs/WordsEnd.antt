-- How many words are new, by what is new about each router.
use Rattle.std.proofs.Common.{◌≡◌, ℕ, zero, suc, ◌+◌, ◌*◌, ◌≤◌, Bool, cond, T, eqb, ◌⊎◌, List, [], ◌∷◌, ◌++◌, length, sym, refl, ap, ◌∙◌, subst, inl, inr, mul_assoc, suc-mul, mul-le-mul_left, zero-mul, mul-add, arith}
use lib.ListN.{length-map}
use Rattle.std.proofs.lemmas.Bool.{cond_both, eqb-true}
use Rattle.model.specs.Words.{Ev, world}
use Rattle.model.specs.Promise.{by_rule, new_words, goes, Ends}
use Rattle.model.specs.Settling.{EndsSooner, few_new}
use Rattle.model.specs.Flood.{Copy, Setup, net}
use Rattle.model.specs.Spread.{is_new, news, about_in, most_news, Lone, EndsFor}
use Rattle.model.specs.Roads.{copy_of, act_of, acts_of, OfRoads, Mirrors, RoadsAreAnInstance}
use Rattle.model.proofs.Tests.{t_true, true_t}
use Rattle.model.proofs.Sizes.{world_n}
use Rattle.model.proofs.WordsByRule.{flight_below}
use Rattle.model.proofs.EventActs.{acts, mirrors_after, rule_for, goes_new}
use Rattle.model.proofs.Tallies.{sum, sum_le, sum_add, sum_part, sum_zero, sum_once, sum_times}

-- each copy is about one subject
abouts : (n : ℕ) (xs : List (Copy (ℕ → ℕ))) → sum n (λ i. about_in i xs) ≤ length xs
unfolding about_in
abouts n [] = let k = sum_zero n (λ i. 0) (λ i l. refl) in omega arith
abouts n (x ∷ xs) =
    let k = abouts n xs in
    let q = sum_add n (λ i. about_in i xs) (λ i. cond (eqb x.about i) 1 0) in
    let r = sum_once n x.about in
    omega arith

module _ (n : ℕ) (s : Setup (ℕ → ℕ)) (o : OfRoads n s) (mir : (es : List Ev) → Mirrors (world n es) (net s (acts_of n es))) where
  -- each router speaks for itself alone
  pub lone : (es : List Ev) (i : ℕ) → Lone s (net s (acts_of n es)) i
  lone es i a e l m p q = eqb-true a i (sym ((mir es).speaks a i) ∙ p) ∙ sym (eqb-true e i (sym ((mir es).speaks e i) ∙ q))

  -- each new word is new about some router
  new_by_router : (fs es : List Ev) → new_words n fs es ≤ sum n (λ i. news s i (acts n fs es) (acts_of n es))
  unfolding new_words news
  new_by_router [] es = omega arith
  new_by_router (f ∷ fs) es =
      let k = new_by_router fs es in
      let q = sum_add n (λ i. news s i (acts n fs es) (acts_of n es)) (λ i. cond (is_new s i (act_of (world n (fs ++ es)) f) (net s (acts n fs es ++ acts_of n es))) 1 0) in
      let r = here f fs es in
      omega arith
    where
      here : (f : Ev) (fs es : List Ev) → cond (goes f (world n (fs ++ es))) 1 0 ≤ sum n (λ i. cond (is_new s i (act_of (world n (fs ++ es)) f) (net s (acts n fs es ++ acts_of n es))) 1 0)
      here f fs es = cond_both (goes f (world n (fs ++ es))) 1 0 (λ x. x ≤ sum n (λ i. cond (is_new s i (act_of (world n (fs ++ es)) f) (net s (acts n fs es ++ acts_of n es))) 1 0))
          (λ e. let g = goes_new n s o (world n (fs ++ es)) (net s (acts n fs es ++ acts_of n es)) (world_n n (fs ++ es)) (mirrors_after n s o mir fs es) (flight_below n (fs ++ es)) f (true_t (goes f (world n (fs ++ es))) e) in
          let h = sum_part n (λ i. cond (is_new s i (act_of (world n (fs ++ es)) f) (net s (acts n fs es ++ acts_of n es))) 1 0) g.0 g.1 in
          subst (λ (b : Bool). cond b 1 0 ≤ sum n (λ i. cond (is_new s i (act_of (world n (fs ++ es)) f) (net s (acts n fs es ++ acts_of n es))) 1 0)) (t_true (is_new s g.0 (act_of (world n (fs ++ es)) f) (net s (acts n fs es ++ acts_of n es))) g.2) h)
          (λ e. omega arith)

  -- so there are as few as all routers together allow
  few : EndsFor (ℕ → ℕ) → (fs es : List Ev) → T (by_rule n fs es) → new_words n fs es ≤ few_new n es
  few en fs es h =
      let k = new_by_router fs es in
      let j = sum_le n (λ i. news s i (acts n fs es) (acts_of n es)) (λ i. most_news s i (acts_of n es)) (λ i l. en s i (acts_of n es) (acts n fs es) (lone es i) (rule_for n s o mir i fs es h)) in
      let u = subst (λ b. sum n (λ i. most_news s i (acts_of n es)) ≡ sum n (λ i. 2 * b * (b + about_in i (net s (acts_of n es)).flight))) o.boxes refl in
      let v = sum_times n (2 * n) n (λ i. about_in i (net s (acts_of n es)).flight) in
      let x = abouts n (net s (acts_of n es)).flight in
      let y = ap (λ (xs : List (Copy (ℕ → ℕ))). length xs) (mir es).flight ∙ length-map (world n es).flight copy_of in
      let z : sum n (λ i. about_in i (net s (acts_of n es)).flight) ≤ length (world n es).flight = omega arith in
      let c : 2 * n * (n * n + sum n (λ i. about_in i (net s (acts_of n es)).flight)) ≤ few_new n es = mul-le-mul_left (2 * n) (omega arith) in
      omega arith

-- however words go by rule, only so many are new
pub ends_sooner_lem : RoadsAreAnInstance → EndsFor (ℕ → ℕ) → EndsSooner
ends_sooner_lem r en n es fs h = let s = r.0 n in few n s.0 s.1 (r.1 n s.0 s.1) en fs es h

-- a number is at most its product with n, where n isn't 0
times_up : (n l : ℕ) → (n * n + l ≤ n * (n + l)) ⊎ (n ≡ 0)
times_up zero l = inr refl
times_up (suc m) l = inl (let a = mul-add (suc m) (suc m) l in let b = suc-mul m l in omega arith)

few_most : (n l : ℕ) → 2 * n * (n * n + l) ≤ 2 * n * n * (n + l) + n
few_most n l = go (times_up n l)
  where
    go : (n * n + l ≤ n * (n + l)) ⊎ (n ≡ 0) → 2 * n * (n * n + l) ≤ 2 * n * n * (n + l) + n
    go (inl h) =
        let k : 2 * n * (n * n + l) ≤ 2 * n * (n * (n + l)) = mul-le-mul_left (2 * n) (omega arith) in
        let q = mul_assoc (2 * n) n (n + l) in
        omega arith
    go (inr e) = subst (λ m. 2 * m * (m * m + l) ≤ 2 * m * m * (m + l) + m) (sym e) (let q = zero-mul (0 * 0 + l) in omega arith)

-- and so at most as many as promised before
pub ends : EndsSooner → Ends
ends h n es fs r = let k = h n es fs r in let q = few_most n (length (world n es).flight) in omega arith
