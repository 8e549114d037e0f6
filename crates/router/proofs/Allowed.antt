-- What a call that isn't refused may count on.
use Rattle.std.proofs.Common.{◌≡◌, ℕ, Bool, true, false, cond, not, ◌&&◌, ◌||◌, eqb, ltb, leb, Some, None, Option, refl, ap, ◌∙◌, arith}
use Rattle.std.proofs.lemmas.Bool.Decides.{nat_tests}
use Rattle.model.specs.Box.{Box, is_open}
use Rattle.router.specs.declared.answers.Refusal.{Refusal}
use Rattle.router.specs.declared.answers.Refusal.TheVariants.{OutOfRange}
use Rattle.router.specs.State.{open_below, road_refusal}

eqb_comm : (a b : ℕ) → eqb a b ≡ eqb b a
eqb_comm a b = grind (arith, nat_tests)

-- a road goes to another box that there is
pub road_allowed : (e c : ℕ) (s : Box) → road_refusal e c s ≡ None → (ltb e s.n && not (eqb s.me e)) ≡ true
road_allowed e c s h = ap (λ b. ltb e s.n && not b) (eqb_comm s.me e) ∙ go (ltb e s.n) (eqb e s.me) (ltb 0 c && (not (is_open e s) && leb 8 (open_below 64 s))) h
  where
    go : (a b x : Bool) → ◌≡◌ {A = Option Refusal} (cond (not a || (b || x)) (Some OutOfRange) None) None → (a && not b) ≡ true
    go true true x q = let z : ◌≡◌ {A = ℕ} 0 1 = cc in absurd (omega arith)
    go true false x q = refl
    go false b x q = let z : ◌≡◌ {A = ℕ} 0 1 = cc in absurd (omega arith)
