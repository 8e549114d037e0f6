-- The lowest open wire to a box, and that a road that is open has one.
use Rattle.std.proofs.Common.{◌≡◌, ℕ, zero, suc, ◌+◌, ◌<◌, ◌≤◌, Bool, true, false, cond, eqb, ltb, Some, None, Option, sym, refl, ap, ◌∙◌, arith, eqb-true, ne_eqb}
use Rattle.std.specs.Bool.{then_some}
use Rattle.std.specs.Option.{MatchOption, option_eq}
use borrow.Author.Tests.{eqb-false}
use Rattle.hello.specs.State.{LowestTo, cost_over}
use Rattle.linkmodel.specs.Links.{Links, Wire, Silent, Heard, Open, lowest_to, opens_to, road_cost, who_on}
use Rattle.linkmodel.specs.Station.{lowest_wire, wire_to}
use Rattle.station.specs.State.{wire_open}

-- 8 stands for none
abbrev pub wire_in : Option ℕ → ℕ
wire_in None = 8
wire_in (Some w) = w

none_from : (e : ℕ) (s : Links) (w k : ℕ) → ((v : ℕ) → w ≤ v → v < w + k → opens_to e (s.wire v) ≡ false) → lowest_wire e s w k ≡ 8
unfolding lowest_wire
none_from e s w zero h = refl
none_from e s w (suc k) h =
    ap (λ b. cond b w (lowest_wire e s (w + 1) k)) (h w (omega arith) (omega arith)) ∙ none_from e s (w + 1) k (λ v a b. h v (omega arith) (omega arith))

first_from : (e : ℕ) (s : Links) (w k u : ℕ) → w ≤ u → u < w + k → opens_to e (s.wire u) ≡ true → ((v : ℕ) → w ≤ v → v < u → opens_to e (s.wire v) ≡ false) → lowest_wire e s w k ≡ u
unfolding lowest_wire
first_from e s w zero u a b o h = absurd (omega arith)
first_from e s w (suc k) u a b o h = go (eqb w u) refl (λ l. first_from e s (w + 1) k u (omega arith) (omega arith) o (λ v x y. h v (omega arith) y))
  where
    go : (t : Bool) → eqb w u ≡ t → (w < u → lowest_wire e s (w + 1) k ≡ u) → cond (opens_to e (s.wire w)) w (lowest_wire e s (w + 1) k) ≡ u
    go true q more = rw (eqb-true w u q) (ap (λ b. cond b u (lowest_wire e s (u + 1) k)) o)
    go false q more =
        let apart = eqb-false w u q in
        let l : w < u = omega arith in
        ap (λ b. cond b w (lowest_wire e s (w + 1) k)) (h w (omega arith) l) ∙ more l

pub lowest_wire_lem : (e : ℕ) (s : Links) (r : Option ℕ) → LowestTo e s r → wire_to e s ≡ wire_in r
lowest_wire_lem e s None h = none_from e s 0 8 (λ v a b. h v (omega arith))
lowest_wire_lem e s (Some w) h = first_from e s 0 8 w (omega arith) (omega (arith, h.0)) h.1 (λ v a b. h.2 v b)

-- whether a wire is the lowest
pub lowest_is : (e w : ℕ) (s : Links) (r : Option ℕ) → w < 8 → LowestTo e s r → option_eq eqb r (Some w) ≡ eqb (wire_to e s) w
lowest_is e w s None l h = sym (ap (λ (v : ℕ). eqb v w) (lowest_wire_lem e s None h) ∙ ne_eqb 8 w (λ q. absurd (omega arith)))
lowest_is e w s (Some v) l h = sym (ap (λ (u : ℕ). eqb u w) (lowest_wire_lem e s (Some v) h))

-- the lowest wire, if it has a cost
pub open_is : (e : ℕ) (s : Links) (r o : Option ℕ) (Q : ℕ → Bool → Type 0) → LowestTo e s r → road_cost e s ≡ cost_over r s → ((x : ℕ) (b : Bool) → Q x b → b ≡ ltb 0 (s.cost x)) →
    MatchOption r (o ≡ None) (λ x. (b : Bool) × Q x b × (o ≡ then_some b x)) → o ≡ wire_open e s
open_is e s None o Q low c t h = h ∙ sym (ap (λ (z : ℕ). cond (ltb 0 z) (Some (wire_to e s)) None) c)
open_is e s (Some w) o Q low c t h =
    h.2 ∙ ap (λ (b : Bool). then_some b w) (t w h.0 h.1) ∙ both (ltb 0 (s.cost w)) ∙ ap (λ (v : ℕ). cond (ltb 0 (s.cost w)) (Some v) None) (sym (lowest_wire_lem e s (Some w) low))
    ∙ sym (ap (λ (z : ℕ). cond (ltb 0 z) (Some (wire_to e s)) None) c)
  where
    both : (b : Bool) → then_some b w ≡ cond b (Some w) None
    both true = refl
    both false = refl

-- a road that is open is so over its lowest wire
open_from : (e : ℕ) (s : Links) (w k : ℕ) → w + k ≡ 8 → 0 < lowest_to e s w k → (lowest_wire e s w k < 8) × (opens_to e (s.wire (lowest_wire e s w k)) ≡ true)
unfolding lowest_to lowest_wire
open_from e s w zero l h = absurd (omega arith)
open_from e s w (suc k) l h = go (opens_to e (s.wire w)) refl h (open_from e s (w + 1) k (omega arith))
  where
    go : (b : Bool) → opens_to e (s.wire w) ≡ b → 0 < cond b (s.cost w) (lowest_to e s (w + 1) k) →
        (0 < lowest_to e s (w + 1) k → (lowest_wire e s (w + 1) k < 8) × (opens_to e (s.wire (lowest_wire e s (w + 1) k)) ≡ true)) →
        (cond b w (lowest_wire e s (w + 1) k) < 8) × (opens_to e (s.wire (cond b w (lowest_wire e s (w + 1) k))) ≡ true)
    go true q h more = (omega arith, q)
    go false q h more = more h

pub open_wire : (e : ℕ) (s : Links) → 0 < road_cost e s → (wire_to e s < 8) × (opens_to e (s.wire (wire_to e s)) ≡ true)
open_wire e s h = open_from e s 0 8 refl h

-- who is on a wire with a road
pub open_who : (e : ℕ) (x : Wire) → opens_to e x ≡ true → who_on x ≡ Some e
open_who e Silent q = let z : ◌≡◌ {A = ℕ} 0 1 = cc in absurd (omega arith)
open_who e (Heard f d t) q = let z : ◌≡◌ {A = ℕ} 0 1 = cc in absurd (omega arith)
open_who e (Open f d t) q = ap (λ (k : ℕ). Some k) (eqb-true f e q)
