-- A box that was just switched on has heard nobody, so that no road opens where its wires are set up.
use Rattle.std.proofs.Common.{◌≡◌, ℕ, zero, suc, ◌+◌, Bool, true, false, cond, ◌&&◌, eqb, ltb, List, [], ◌∷◌, ◌++◌, refl, ap, ◌∙◌, ap₂}
use Rattle.model.specs.Words.{Ev, Road}
use Rattle.linkmodel.specs.Links.{Links, Wire, Silent, fresh, is_anew, lowest_to, opens_to, relinks, rewired, road_cost, road_events}

no_road : (s : Links) → ((w : ℕ) → s.wire w ≡ Silent) → (e k w : ℕ) → lowest_to e s w k ≡ 0
unfolding lowest_to
no_road s h e zero w = refl
no_road s h e (suc k) w = ap (λ (x : Wire). cond (opens_to e x) (s.cost w) (lowest_to e s (w + 1) k)) (h w) ∙ no_road s h e k (w + 1)

no_event : (b a : Links) (e : ℕ) → road_cost e b ≡ 0 → road_cost e a ≡ 0 → road_events b a e ≡ []
no_event b a e p q =
    ap₂ (λ (x y : ℕ). cond (is_anew b a e && (ltb 0 x && ltb 0 y)) (Road a.me e y ∷ Road a.me e 0 ∷ []) (cond (eqb x y) [] (Road a.me e y ∷ []))) p q ∙ go (is_anew b a e)
  where
    go : (c : Bool) → cond (c && false) (Road a.me e 0 ∷ Road a.me e 0 ∷ []) [] ≡ []
    go true = refl
    go false = refl

no_events : (b a : Links) → ((e : ℕ) → road_cost e b ≡ 0) → ((e : ℕ) → road_cost e a ≡ 0) → (k : ℕ) → relinks b a k ≡ []
unfolding relinks
no_events b a p q zero = refl
no_events b a p q (suc k) = ap₂ (λ (xs ys : List Ev). xs ++ ys) (no_event b a k (p k) (q k)) (no_events b a p q k)

pub begun_events : (n me d : ℕ) (c : ℕ → ℕ) (k : ℕ) → relinks (fresh n me d) (rewired c (fresh n me d)) k ≡ []
begun_events n me d c = no_events s r (λ e. no_road s (λ w. refl) e 8 0) (λ e. no_road r (λ w. silent (eqb (c w) 0)) e 8 0)
  where
    s : Links
    s = fresh n me d

    r : Links
    r = rewired c s

    silent : (b : Bool) → cond b Silent Silent ≡ Silent
    silent true = refl
    silent false = refl
