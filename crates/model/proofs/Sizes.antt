-- No event changes how many routers there are, and no road leads from a router to itself or out of the net.
use Rattle.std.proofs.Common.{◌≡◌, ℕ, false, not, ◌&&◌, eqb, ltb, List, [], ◌∷◌, refl, ap, ◌∙◌}
use Rattle.std.proofs.lemmas.Bool.{and_parts, both_ways, eqb-true}
use Rattle.model.specs.Words.{World, Ev, step, world}
use Rattle.model.proofs.Tests.{of_cond, and_second}
use Rattle.model.proofs.Events.{of_step}

pub world_n : (n : ℕ) (es : List Ev) → (world n es).n ≡ n
unfolding world
world_n n [] = refl
world_n n (e ∷ es) = of_step (λ (u : World). u.n ≡ (world n es).n) (world n es) refl (λ _ _ _ _. refl) (λ _ _ _ _. refl) (λ _ _. refl) e ∙ world_n n es

step_no_road : (a e : ℕ) (w : World) (v : Ev) → (ltb e w.n && not (eqb a e)) ≡ false → w.real a e ≡ 0 → (step v w).real a e ≡ 0
step_no_road a e w v h k =
    of_step (λ (u : World). u.real a e ≡ 0) w k
    (λ b f c t. of_cond (λ (x : ℕ). x ≡ 0) (eqb a b && eqb e f) c (w.real a e)
    (λ s. let p = and_parts (eqb a b) (eqb e f) s in
    let u : a ≡ b = eqb-true a b p.0 in
    let v : e ≡ f = eqb-true e f p.1 in
    absurd (both_ways (ltb f w.n && not (eqb b f)) (rw (← u, ← v) h) (and_second (ltb b w.n) (ltb f w.n && not (eqb b f)) t)))
    (λ _. k))
    (λ _ _ _ _. k) (λ _ _. k) v

pub no_road : (n : ℕ) (es : List Ev) (a e : ℕ) → (ltb e n && not (eqb a e)) ≡ false → (world n es).real a e ≡ 0
unfolding world
no_road n [] a e h = refl
no_road n (v ∷ es) a e h = step_no_road a e (world n es) v (ap (λ m. ltb e m && not (eqb a e)) (world_n n es) ∙ h) (no_road n es a e h)
