-- far is the least cost of any way.
use Rattle.std.proofs.Common.{◌≡◌, ℕ, zero, suc, ◌+◌, ◌<◌, ◌&&◌, T, ltb, ◌⊎◌, List, [], ◌∷◌, length, sym, ap, ◌∙◌, subst, inl, inr, ltb→lt, lt→ltb}
use Rattle.model.specs.Map.{Map, Far, At, plus, home, within, far}
use Rattle.model.specs.Promise.{is_way, last, cost_of, Least}
use Rattle.model.proofs.Fars.{at_most, most_trans, most_at, plus_mono, plus_at, plus_inv}
use Rattle.model.proofs.Rounds.{within_home, within_road, within_had, home_self, home_had}
use Rattle.model.proofs.Settled.{settled}
pub use Rattle.model.proofs.Tests.{both_t as both, left_t as both_left, right_t as both_right}

-- a way by its first road and the rest
pub way_in : (z : Map) (x y : ℕ) (ys : List ℕ) → y < z.n → 0 < z.cost x y → T (is_way z y ys) → T (is_way z x (y ∷ ys))
unfolding is_way
way_in z x y ys l p t = both (ltb y z.n && ltb 0 (z.cost x y)) (is_way z y ys) (both (ltb y z.n) (ltb 0 (z.cost x y)) (lt→ltb y z.n l) (lt→ltb 0 (z.cost x y) p)) t

pub way_out : (z : Map) (x y : ℕ) (ys : List ℕ) → T (is_way z x (y ∷ ys)) → (y < z.n) × (0 < z.cost x y) × T (is_way z y ys)
unfolding is_way
way_out z x y ys t =
    let h = both_left (ltb y z.n && ltb 0 (z.cost x y)) (is_way z y ys) t in
    (ltb→lt y z.n (both_left (ltb y z.n) (ltb 0 (z.cost x y)) h), ltb→lt 0 (z.cost x y) (both_right (ltb y z.n) (ltb 0 (z.cost x y)) h), both_right (ltb y z.n && ltb 0 (z.cost x y)) (is_way z y ys) t)

-- a way of so many roads bounds the round of that number
pub way_bounds : (z : Map) (d a : ℕ) (ws : List ℕ) → T (is_way z a ws) → last a ws ≡ d → at_most (within (length ws) z d a) (At (cost_of z a ws))
unfolding last cost_of
way_bounds z d a [] t e = subst (λ (f : Far). at_most (within 0 z d a) f) (ap (λ (x : ℕ). home d x) e ∙ home_self d) (within_home 0 z d a)
way_bounds z d a (y ∷ ys) t e =
    let w = way_out z a y ys t in
    subst (λ (f : Far). at_most (within (suc (length ys)) z d a) f) (plus_at (z.cost a y) (cost_of z y ys) w.1)
    (most_trans (within (suc (length ys)) z d a) (plus (z.cost a y) (within (length ys) z d y)) (plus (z.cost a y) (At (cost_of z y ys)))
    (within_road (length ys) z d a y w.0)
    (plus_mono (z.cost a y) (within (length ys) z d y) (At (cost_of z y ys)) (way_bounds z d y ys w.2 e)))

-- what a round has is the cost of a way
pub way_had : (k : ℕ) (z : Map) (d a c : ℕ) → within k z d a ≡ At c → (ws : List ℕ) × T (is_way z a ws) × (last a ws ≡ d) × (cost_of z a ws ≡ c)
unfolding is_way last cost_of within
way_had zero z d a c h = let i = home_had d a c h in ([], tt, i.0, sym i.1)
way_had (suc k) z d a c h = go (within_had k z d a c h) (λ e m. way_had k z d e m)
  where
    go : ((a ≡ d) × (c ≡ 0)) ⊎ ((e : ℕ) × (e < z.n) × (plus (z.cost a e) (within k z d e) ≡ At c)) →
        ((e m : ℕ) → within k z d e ≡ At m → (ws : List ℕ) × T (is_way z e ws) × (last e ws ≡ d) × (cost_of z e ws ≡ m)) →
        (ws : List ℕ) × T (is_way z a ws) × (last a ws ≡ d) × (cost_of z a ws ≡ c)
    go (inl i) r = ([], tt, i.0, sym i.1)
    go (inr i) r =
        let e = i.0 in
        let p = plus_inv (z.cost a e) (within k z d e) c i.2 in
        let w = r e p.0 p.1 in
        (e ∷ w.0, way_in z a e w.0 i.1 p.2 w.1, w.2, ap (λ (x : ℕ). z.cost a e + x) w.3 ∙ sym p.3)

pub least : Least
least z d a l m = (λ ws t e. most_at (far z d a) (cost_of z a ws) (most_trans (far z d a) (within (length ws) z d a) (At (cost_of z a ws)) (settled z d a (length ws) l) (way_bounds z d a ws t e)), λ c h. way_had z.n z d a c h)
