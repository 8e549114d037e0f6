-- Either it is rest, or two events by rule bring something new.
use Rattle.std.proofs.Common.{ℕ, ◌<◌, ◌≤◌, T, ◌⊎◌, List, length, sym, subst, inl, inr, ⊎_elim, arith}
use Rattle.model.specs.Words.{Ev, world}
use Rattle.model.specs.Promise.{Even, Rest, by_rule, new_words}
use Rattle.model.specs.Settling.{Progress}
use Rattle.model.specs.Flood.{Setup, Act, net}
use Rattle.model.specs.Spread.{Settled, by_rule_for, news, ProgressFor}
use Rattle.model.specs.Roads.{acts_of, OfRoads, Mirrors, RoadsAreAnInstance}
use Rattle.model.proofs.Sizes.{world_n}
use Rattle.model.proofs.EventActs.{rule_from, news_le}
use Rattle.model.proofs.WordsRest.{Calm, calm_rest_lem, settled_calm, even_for_lem}
use Rattle.model.proofs.Below.{each_or}

module _ (n : ℕ) (s : Setup (ℕ → ℕ)) (o : OfRoads n s) (mir : (es : List Ev) → Mirrors (world n es) (net s (acts_of n es))) where
  -- at most two events by rule that bring something new
  abbrev Some : List Ev → Type 0
  Some es = (fs : List Ev) × (length fs ≤ 2) × T (by_rule n fs es) × (0 < new_words n fs es)

  -- about one router
  one : ProgressFor (ℕ → ℕ) → (es : List Ev) → Even (world n es) → (i : ℕ) → i < n → Calm (world n es) i ⊎ Some es
  one p es v i l = go (p s i (acts_of n es) (subst (λ m. i < m) (sym o.subjects) l) (even_for_lem n s o mir es v))
    where
      go : Settled s (net s (acts_of n es)) i ⊎ ((gs : List (Act (ℕ → ℕ))) × (length gs ≤ 2) × ((j : ℕ) → T (by_rule_for s j gs (acts_of n es))) × (0 < news s i gs (acts_of n es))) → Calm (world n es) i ⊎ Some es
      go (inl h) = inl (settled_calm n s o mir (world n es) (net s (acts_of n es)) (world_n n es) (mir es) i l h)
      go (inr (gs, k, h, q)) =
          let r = rule_from n s o mir es gs h in
          let u = subst (λ (xs : List (Act (ℕ → ℕ))). 0 < news s i xs (acts_of n es)) (sym r.1) q in
          let z = news_le n s o mir i r.0 es in
          let e = r.3 in
          inr (r.0, omega arith, r.2, omega arith)

  -- about all
  moves : ProgressFor (ℕ → ℕ) → (es : List Ev) → Even (world n es) → Rest (world n es) ⊎ Some es
  moves p es v = ⊎_elim (λ h. inl (calm_rest_lem (world n es) v (λ i l. h i (subst (λ m. i < m) (world_n n es) l)))) inr (each_or n (Calm (world n es)) (Some es) (one p es v))

-- either it is rest, or two events by rule bring something new
pub progress : RoadsAreAnInstance → ProgressFor (ℕ → ℕ) → Progress
progress r p n es v = let s = r.0 n in moves n s.0 s.1 (r.1 n s.0 s.1) p es v
