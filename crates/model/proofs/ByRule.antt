-- Runs of acts by rule: joined and cut, what is new in them, and which acts are by rule.
use Rattle.std.proofs.Common.{◌≡◌, ℕ, ◌+◌, Bool, true, cond, not, ◌&&◌, ◌||◌, T, eqb, List, [], ◌∷◌, ◌++◌, sym, refl, ap, subst, append_assoc, zero-add, arith}
use Rattle.std.proofs.lemmas.Bool.{and_from, or_right}
use Rattle.model.specs.Flood.{Setup, Act, Turns, Speaks, Tells, Gets, Back, net}
use Rattle.model.specs.Spread.{owes, by_rule_for, is_new, news}
use Rattle.model.proofs.Tests.{t_true, true_t, eq_t, both_t, left_t, right_t, t_since}
use Rattle.model.proofs.OneAct.{Ruled}

-- a run by rule: its last act, and what went before
pub rule_last : {P : Type 0} (s : Setup P) (i : ℕ) (f : Act P) (fs es : List (Act P)) → T (by_rule_for s i (f ∷ fs) es) → Ruled s i f (net s (fs ++ es)) × T (by_rule_for s i fs es)
unfolding by_rule_for
rule_last s i (Turns a l sp p) fs es r = absurd r
rule_last s i (Speaks a j t) fs es r = (λ e. subst (λ k. o k ≡ true) e (t_true (o j) (t_since (eqb j i) (o j) (left_t (not (eqb j i) || o j) (by_rule_for s i fs es) r) (eq_t j i e))), right_t (not (eqb j i) || o j) (by_rule_for s i fs es) r)
  where
    o : ℕ → Bool
    o k = owes s (net s (fs ++ es)) a k
rule_last s i (Tells a e j) fs es r = (tt, r)
rule_last s i (Gets k t) fs es r = (tt, r)
rule_last s i (Back a to) fs es r = absurd r

-- one run by rule after another is a run by rule
pub rule_join : {P : Type 0} (s : Setup P) (i : ℕ) (fs gs es : List (Act P)) → T (by_rule_for s i fs (gs ++ es)) → T (by_rule_for s i gs es) → T (by_rule_for s i (fs ++ gs) es)
unfolding by_rule_for
rule_join s i [] gs es p q = q
rule_join s i (Turns a l sp w ∷ fs) gs es p q = absurd p
rule_join {P} s i (Speaks a j t ∷ fs) gs es p q = both_t (u ((fs ++ gs) ++ es)) (by_rule_for s i (fs ++ gs) es)
    (subst (λ l. T (u l)) (sym (append_assoc fs gs es)) (left_t (u (fs ++ (gs ++ es))) (by_rule_for s i fs (gs ++ es)) p)) (rule_join s i fs gs es (right_t (u (fs ++ (gs ++ es))) (by_rule_for s i fs (gs ++ es)) p) q)
  where
    u : List (Act P) → Bool
    u l = not (eqb j i) || owes s (net s l) a j
rule_join s i (Tells a e j ∷ fs) gs es p q = rule_join s i fs gs es p q
rule_join s i (Gets k t ∷ fs) gs es p q = rule_join s i fs gs es p q
rule_join s i (Back a to ∷ fs) gs es p q = absurd p

-- of a run by rule the beginning is by rule
pub rule_before : {P : Type 0} (s : Setup P) (i : ℕ) (fs gs es : List (Act P)) → T (by_rule_for s i (fs ++ gs) es) → T (by_rule_for s i gs es)
rule_before s i [] gs es p = p
rule_before s i (f ∷ fs) gs es p = rule_before s i fs gs es (rule_last s i f (fs ++ gs) es p).1

-- what is new in a run is what is new in its parts
pub news_join : {P : Type 0} (s : Setup P) (i : ℕ) (fs gs es : List (Act P)) → news s i (fs ++ gs) es ≡ news s i fs (gs ++ es) + news s i gs es
unfolding news
news_join s i [] gs es = sym (zero-add (news s i gs es))
news_join s i (f ∷ fs) gs es =
    let h : news s i (fs ++ gs) es ≡ news s i fs (gs ++ es) + news s i gs es = news_join s i fs gs es in
    let k : ◌≡◌ {A = ℕ} (cond (is_new s i f (net s ((fs ++ gs) ++ es))) 1 0) (cond (is_new s i f (net s (fs ++ (gs ++ es)))) 1 0) = ap (λ l. cond (is_new s i f (net s l)) 1 0) (append_assoc fs gs es) in
    omega arith

-- who owes says by rule
pub rule_saying : {P : Type 0} (s : Setup P) (a i t : ℕ) (es : List (Act P)) → owes s (net s es) a i ≡ true → (j : ℕ) → T (by_rule_for s j (Speaks a i t ∷ []) es)
unfolding by_rule_for
rule_saying s a i t es h j = true_t ((not (eqb i j) || owes s (net s es) a i) && true) (and_from (not (eqb i j) || owes s (net s es) a i) true (or_right (not (eqb i j)) (owes s (net s es) a i) h) refl)

-- a telling is by rule
pub rule_telling : {P : Type 0} (s : Setup P) (a e i t : ℕ) (es : List (Act P)) (j : ℕ) → T (by_rule_for s j (Gets 0 t ∷ Tells a e i ∷ []) es)
unfolding by_rule_for
rule_telling s a e i t es j = tt
