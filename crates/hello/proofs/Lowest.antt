-- What a road costs is what the lowest of its wires costs.
use Rattle.std.proofs.Common.{◌≡◌, ℕ, zero, suc, ◌+◌, ◌<◌, ◌≤◌, Bool, true, false, cond, eqb, Some, None, Option, refl, ap, ◌∙◌, arith, eqb-true}
use borrow.Author.Tests.{eqb-false}
use Rattle.linkmodel.specs.Links.{Links as Box, opens_to, lowest_to, road_cost}
use Rattle.hello.specs.State.{LowestTo, cost_over}

-- no wire of these has it
none_from : (e : ℕ) (s : Box) (w k : ℕ) → ((v : ℕ) → w ≤ v → v < w + k → opens_to e (s.wire v) ≡ false) → lowest_to e s w k ≡ 0
unfolding lowest_to
none_from e s w zero h = refl
none_from e s w (suc k) h =
    ap (λ b. cond b (s.cost w) (lowest_to e s (w + 1) k)) (h w (omega arith) (omega arith)) ∙ none_from e s (w + 1) k (λ v a b. h v (omega arith) (omega arith))

-- wire u has it, and none before it
first_from : (e : ℕ) (s : Box) (w k u : ℕ) → w ≤ u → u < w + k → opens_to e (s.wire u) ≡ true → ((v : ℕ) → w ≤ v → v < u → opens_to e (s.wire v) ≡ false) → lowest_to e s w k ≡ s.cost u
unfolding lowest_to
first_from e s w zero u a b o h = absurd (omega arith)
first_from e s w (suc k) u a b o h = go (eqb w u) refl (λ l. first_from e s (w + 1) k u (omega arith) (omega arith) o (λ v x y. h v (omega arith) y))
  where
    go : (t : Bool) → eqb w u ≡ t → (w < u → lowest_to e s (w + 1) k ≡ s.cost u) → cond (opens_to e (s.wire w)) (s.cost w) (lowest_to e s (w + 1) k) ≡ s.cost u
    go true q more = rw (eqb-true w u q) (ap (λ b. cond b (s.cost u) (lowest_to e s (u + 1) k)) o)
    go false q more =
        let apart = eqb-false w u q in
        let l : w < u = omega arith in
        ap (λ b. cond b (s.cost w) (lowest_to e s (w + 1) k)) (h w (omega arith) l) ∙ more l

pub lowest_cost : (e : ℕ) (s : Box) (r : Option ℕ) → LowestTo e s r → road_cost e s ≡ cost_over r s
lowest_cost e s None h = none_from e s 0 8 (λ v a b. h v (omega arith))
lowest_cost e s (Some w) h = first_from e s 0 8 w (omega arith) (omega (arith, h.0)) h.1 (λ v a b. h.2 v b)
