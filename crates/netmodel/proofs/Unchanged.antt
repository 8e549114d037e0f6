-- Where events go by rule and bring nothing new to anybody, what each router knows stays.
use Rattle.std.proofs.Common.{◌≡◌, ℕ, zero, suc, ◌+◌, Bool, true, false, cond, not, ◌&&◌, T, ltb, List, [], ◌∷◌, ◌++◌, sym, refl, ◌∙◌, subst, arith}
use Rattle.model.specs.Words.{Word, World, Ev, Road, Says, Sends, Comes, Falls, newer, is_in, says, told, comes, comes_nth, sends, step, world}
use Rattle.model.specs.Promise.{own_true, by_rule, is_new, new_nth, goes, new_words}
use Rattle.model.proofs.Tests.{of_cond, right_t, left_t, t_true, none_fails, true_not_false}
use Rattle.model.proofs.Still.{not_newer}

-- it knows the same of all
abbrev Same : World → World → Type 0
Same w u = (a i : ℕ) → u.knows a i ≡ w.knows a i

same_self : (w : World) → Same w w
same_self w a i = refl

comes_same : (x : Word) (t : ℕ) (w : World) → is_new w t x ≡ false → Same w (comes x t w)
comes_same x t w h = of_cond (Same w) (ltb 0 (w.real x.to x.from) && not (is_in t w.drawn)) (told x t w) w
    (λ e. subst (Same w) (sym (not_newer x t w (last (ltb 0 (w.real x.to x.from)) (not (is_in t w.drawn)) (newer x.entry (w.knows x.to x.about)) e h))) (same_self w)) (λ _. same_self w)
  where
    last : (b c d : Bool) → (b && c) ≡ true → (b && (c && d)) ≡ false → d ≡ false
    last true true d e h = h
    last true false d e h = true_not_false false e refl
    last false c d e h = true_not_false false e refl

nth_same : (k t : ℕ) (xs : List Word) (w : World) → new_nth w k t xs ≡ false → Same w (comes_nth k t xs w)
unfolding new_nth comes_nth
nth_same k t [] w h = same_self w
nth_same zero t (x ∷ xs) w h = comes_same x t w h
nth_same (suc k) t (x ∷ xs) w h = nth_same k t xs w h

-- one event by rule that is nothing new
says_same : (a t : ℕ) (w : World) → T (not (own_true a w)) → goes (Says a t) w ≡ false → Same w (step (Says a t) w)
says_same a t w r h = of_cond (Same w) (ltb a w.n && not (is_in t w.drawn)) (says a t w) w (λ e. clash_at (ltb a w.n) (not (is_in t w.drawn)) (not (own_true a w)) e (t_true (not (own_true a w)) r) h) (λ _. same_self w)
  where
    clash_at : {A : Type 0} (b c d : Bool) → (b && c) ≡ true → d ≡ true → (b && (c && d)) ≡ false → A
    clash_at true true d e o h = true_not_false d o h
    clash_at true false d e o h = true_not_false false e refl
    clash_at false c d e o h = true_not_false false e refl

same_on : (u v w : World) → Same u v → Same v w → Same u w
same_on u v w p q a i = q a i ∙ p a i

-- of what counts nothing together, each counts nothing
fewer : (k : ℕ) (b : Bool) → k + cond b 1 0 ≡ 0 → (k ≡ 0) × (b ≡ false)
fewer k b h = (omega arith, none_fails b (omega arith))

-- of all events
pub nothing_new : (n : ℕ) (fs es : List Ev) → T (by_rule n fs es) → new_words n fs es ≡ 0 → Same (world n es) (world n (fs ++ es))
unfolding by_rule new_words world
nothing_new n [] es r h = same_self (world n es)
nothing_new n (Road a e c ∷ fs) es r h = absurd r
nothing_new n (Says a t ∷ fs) es r h =
    let w : World = world n (fs ++ es) in
    let z = fewer (new_words n fs es) (goes (Says a t) w) h in
    same_on (world n es) w (step (Says a t) w) (nothing_new n fs es (right_t (not (own_true a w)) (by_rule n fs es) r) z.0) (says_same a t w (left_t (not (own_true a w)) (by_rule n fs es) r) z.1)
nothing_new n (Sends a e i ∷ fs) es r h =
    let w : World = world n (fs ++ es) in
    let z = fewer (new_words n fs es) false h in
    same_on (world n es) w (step (Sends a e i) w) (nothing_new n fs es r z.0)
    (of_cond (Same w) (ltb a w.n && (ltb e w.n && (ltb i w.n && ltb 0 (w.real a e)))) (sends a e i w) w (λ _. same_self w) (λ _. same_self w))
nothing_new n (Comes k t ∷ fs) es r h =
    let w : World = world n (fs ++ es) in
    let z = fewer (new_words n fs es) (goes (Comes k t) w) h in
    same_on (world n es) w (step (Comes k t) w) (nothing_new n fs es r z.0) (nth_same k t w.flight w z.1)
nothing_new n (Falls a ∷ fs) es r h = absurd r
