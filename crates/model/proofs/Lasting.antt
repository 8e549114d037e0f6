-- Fair runs by rule settle: all but so many stretches end at rest, and an endless run rests at last.
use Rattle.std.proofs.Common.{◌≡◌, ℕ, ◌+◌, ◌≤◌, cond, T, List, [], ◌∷◌, ◌++◌, ap, ◌∙◌, arith}
use Rattle.model.specs.Words.{Ev, world}
use Rattle.model.specs.Promise.{Even, Rest, by_rule, new_words}
use Rattle.model.specs.Spread.{joined, between}
use Rattle.model.specs.Settling.{EndsSooner, few_new, at_rest, Stretch, Stretches, restless_of, Settles, SettlesAtLast}
use Rattle.model.proofs.Resting.{rest_test_lem}
use Rattle.model.proofs.WordsByRule.{even_kept, rule_join, new_join}
use Rattle.model.proofs.FairWords.{quiet_stretch}
use Rattle.model.proofs.AtLast.{at_last, between_join}
use Rattle.model.proofs.Counts.{fails_le}

-- a stretch that doesn't end at rest brings something new
restless_new : (n : ℕ) (fs es : List Ev) → Even (world n es) → Stretch n fs es → cond (at_rest (world n (fs ++ es))) 0 1 ≤ new_words n fs es
restless_new n fs es v st = fails_le (at_rest (world n (fs ++ es))) (new_words n fs es) (λ z. (rest_test_lem (world n (fs ++ es))).1 (quiet_stretch n fs es v st z).1)

-- stretches that don't end at rest are at most as many as new words
counted : (n : ℕ) (es : List Ev) → Even (world n es) → (fss : List (List Ev)) → Stretches n fss es → T (by_rule n (joined fss) es) × (restless_of n fss es ≤ new_words n (joined fss) es)
unfolding Stretches restless_of joined
counted n es v [] h = (unfold by_rule in tt, omega arith)
counted n es v (fs ∷ fss) (st, h) =
    let k = counted n es v fss h in
    let j = new_join n fs (joined fss) es in
    let r = restless_new n fs (joined fss ++ es) (even_kept n (joined fss) es k.0 v) st in
    (rule_join n fs (joined fss) es st.0 k.0, (let l = k.1 in omega arith))

-- all but so many stretches end at rest
pub settles : EndsSooner → Settles
settles h n es fss v st = let k = counted n es v fss st in let b = h n es (joined fss) k.0 in let l = k.1 in omega arith

-- an endless fair run is at rest at last
pub settles_at_last_lem : EndsSooner → SettlesAtLast
settles_at_last_lem h n es run v fair ruled never =
    at_last new_in (few_new n es) (λ k. Rest (world n (between run 0 k ++ es))) (λ k. h n es (between run 0 k) (ruled k)) (λ k m. let a = more k m in omega arith)
    (λ k. ((fair k).0, λ e. (quiet_stretch n (between run k (fair k).0) (between run 0 k ++ es) (even_kept n (between run 0 k) es (ruled k) v) (fair k).1 (let a = more k (fair k).0 in omega arith)).0)) never
  where
    -- how many are new among the first k
    new_in : ℕ → ℕ
    new_in k = new_words n (between run 0 k) es

    more : (k m : ℕ) → new_in (k + m) ≡ new_words n (between run k m) (between run 0 k ++ es) + new_in k
    more k m = ap (λ (xs : List Ev). new_words n xs es) (between_join run k m) ∙ new_join n (between run k m) (between run 0 k) es
