-- Words that go by rule: roads stay, runs join, and what is sent is about a router.
use Rattle.std.proofs.Common.{◌≡◌, ℕ, ◌+◌, ◌<◌, true, cond, not, ◌&&◌, T, ltb, List, [], ◌∷◌, ◌++◌, sym, refl, ap, ◌∙◌, subst, append_assoc, arith}
use Rattle.std.proofs.lemmas.Bool.{cond_both, ltb-true}
use Rattle.model.specs.Words.{Word, World, Ev, Road, Says, Sends, Comes, Falls, says, sends, step, world, is_in}
use Rattle.model.specs.Promise.{own_true, Even, by_rule, new_words, goes, only_words}
use Rattle.model.proofs.Tests.{both_t, left_t, right_t, and_first, and_second}
use Rattle.model.proofs.Sizes.{world_n}
use Rattle.model.proofs.Events.{of_nth, of_step}

says_real : (a t : ℕ) (w : World) → (step (Says a t) w).real ≡ w.real
says_real a t w = cond_both (ltb a w.n && not (is_in t w.drawn)) (says a t w) w (λ (u : World). u.real ≡ w.real) (λ _. refl) (λ _. refl)

sends_real : (a e i : ℕ) (w : World) → (step (Sends a e i) w).real ≡ w.real
sends_real a e i w = cond_both (ltb a w.n && (ltb e w.n && (ltb i w.n && ltb 0 (w.real a e)))) (sends a e i w) w (λ (u : World). u.real ≡ w.real) (λ _. refl) (λ _. refl)

-- what goes by rule leaves the roads
pub real_kept : (n : ℕ) (fs es : List Ev) → T (by_rule n fs es) → (world n (fs ++ es)).real ≡ (world n es).real
unfolding by_rule world
real_kept n [] es h = refl
real_kept n (Road a e c ∷ fs) es h = absurd h
real_kept n (Says a t ∷ fs) es h = says_real a t (world n (fs ++ es)) ∙ real_kept n fs es (right_t (not (own_true a (world n (fs ++ es)))) (by_rule n fs es) h)
real_kept n (Sends a e i ∷ fs) es h = sends_real a e i (world n (fs ++ es)) ∙ real_kept n fs es h
real_kept n (Comes i t ∷ fs) es h = of_nth (λ (u : World). u.real ≡ (world n (fs ++ es)).real) i t (world n (fs ++ es)).flight (world n (fs ++ es)) refl (λ _ _. refl) ∙ real_kept n fs es h
real_kept n (Falls a ∷ fs) es h = absurd h

-- both ends of each road still agree
pub even_kept : (n : ℕ) (fs es : List Ev) → T (by_rule n fs es) → Even (world n es) → Even (world n (fs ++ es))
even_kept n fs es h v a e l m p =
    subst (λ (r : ℕ → ℕ → ℕ). 0 < r e a) (sym (real_kept n fs es h))
    (v a e (subst (λ k. a < k) (world_n n (fs ++ es) ∙ sym (world_n n es)) l) (subst (λ k. e < k) (world_n n (fs ++ es) ∙ sym (world_n n es)) m)
    (subst (λ (r : ℕ → ℕ → ℕ). 0 < r a e) (real_kept n fs es h) p))

-- runs by rule, one after the other
pub rule_join : (n : ℕ) (gs fs es : List Ev) → T (by_rule n gs (fs ++ es)) → T (by_rule n fs es) → T (by_rule n (gs ++ fs) es)
unfolding by_rule
rule_join n [] fs es h k = k
rule_join n (Road a e c ∷ gs) fs es h k = absurd h
rule_join n (Says a t ∷ gs) fs es h k = both_t (not (own_true a (world n ((gs ++ fs) ++ es)))) (by_rule n (gs ++ fs) es)
    (subst (λ (xs : List Ev). T (not (own_true a (world n xs)))) (sym (append_assoc gs fs es)) (left_t (not (own_true a (world n (gs ++ (fs ++ es))))) (by_rule n gs (fs ++ es)) h))
    (rule_join n gs fs es (right_t (not (own_true a (world n (gs ++ (fs ++ es))))) (by_rule n gs (fs ++ es)) h) k)
rule_join n (Sends a e i ∷ gs) fs es h k = rule_join n gs fs es h k
rule_join n (Comes i t ∷ gs) fs es h k = rule_join n gs fs es h k
rule_join n (Falls a ∷ gs) fs es h k = absurd h

-- new words of runs add up
pub new_join : (n : ℕ) (gs fs es : List Ev) → new_words n (gs ++ fs) es ≡ new_words n gs (fs ++ es) + new_words n fs es
unfolding new_words
new_join n [] fs es = omega arith
new_join n (g ∷ gs) fs es =
    let k = new_join n gs fs es in
    let q : ◌≡◌ {A = ℕ} (cond (goes g (world n ((gs ++ fs) ++ es))) 1 0) (cond (goes g (world n (gs ++ (fs ++ es)))) 1 0) = ap (λ (xs : List Ev). cond {A = ℕ} (goes g (world n xs)) 1 0) (append_assoc gs fs es) in
    omega arith

-- what goes by rule is words only
pub rule_only : (n : ℕ) (fs es : List Ev) → T (by_rule n fs es) → T (only_words fs)
unfolding by_rule only_words
rule_only n [] es h = tt
rule_only n (Road a e c ∷ fs) es h = absurd h
rule_only n (Says a t ∷ fs) es h = rule_only n fs es (right_t (not (own_true a (world n (fs ++ es)))) (by_rule n fs es) h)
rule_only n (Sends a e i ∷ fs) es h = rule_only n fs es h
rule_only n (Comes i t ∷ fs) es h = rule_only n fs es h
rule_only n (Falls a ∷ fs) es h = absurd h

-- all that is on its way is about a router
abbrev pub AllBelow : ℕ → List Word → Type 0
AllBelow n [] = Unit {0}
AllBelow n (x ∷ xs) = (x.about < n) × AllBelow n xs

pub flight_below : (n : ℕ) (es : List Ev) → AllBelow n (world n es).flight
unfolding world
flight_below n [] = tt
flight_below n (e ∷ es) = of_step (λ (u : World). AllBelow n u.flight) w (flight_below n es) (λ _ _ _ _. flight_below n es) (λ a b i p. (about a b i p, flight_below n es)) (λ _ _. flight_below n es) e
  where
    w : World
    w = world n es

    about : (a b i : ℕ) → (ltb a w.n && (ltb b w.n && (ltb i w.n && ltb 0 (w.real a b)))) ≡ true → i < n
    about a b i p = subst (λ k. i < k) (world_n n es) (ltb-true i w.n (and_first (ltb i w.n) (ltb 0 (w.real a b)) (and_second (ltb b w.n) (ltb i w.n && ltb 0 (w.real a b)) (and_second (ltb a w.n) (ltb b w.n && (ltb i w.n && ltb 0 (w.real a b))) p))))
