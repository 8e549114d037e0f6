-- What can be reached from a place: closed under roads, and whatever holds of the place and is kept over roads holds of it.
use Rattle.std.proofs.Common.{◌≡◌, ℕ, ◌<◌, Bool, T, List, [], ◌∷◌, sym, subst}
use Rattle.model.specs.Map.{Map, far, has_way}
use Rattle.model.specs.Promise.{is_way, last}
use Rattle.model.proofs.Fars.{has_at, at_has}
use Rattle.model.proofs.Settled.{far_self, far_back}
use Rattle.model.proofs.Shortest.{way_out, way_had}

-- u can be reached from a
abbrev pub reached : Map → ℕ → ℕ → Bool
reached z a u = has_way (far z u a)

pub reach_self : (z : Map) (a : ℕ) → T (reached z a a)
reach_self z a = at_has (far z a a) 0 (far_self z a)

-- along a way
along : (z : Map) (P : ℕ → Type 0) → ((u e : ℕ) → u < z.n → e < z.n → 0 < z.cost u e → P u → P e) → (a : ℕ) (ws : List ℕ) → a < z.n → T (is_way z a ws) → P a → P (last a ws)
unfolding last
along z P on a [] l t p = p
along z P on a (y ∷ ys) l t p = let w = way_out z a y ys t in along z P on y ys w.0 w.2 (on a y l w.0 w.1 p)

-- what is so of a, and kept over roads, is so of what can be reached from a
pub reach_all : (z : Map) (P : ℕ → Type 0) → ((u e : ℕ) → u < z.n → e < z.n → 0 < z.cost u e → P u → P e) → (a u : ℕ) → a < z.n → T (reached z a u) → P a → P u
reach_all z P on a u l t p =
    let c = has_at (far z u a) t in
    let w = way_had z.n z u a c.0 c.1 in
    subst P w.2 (along z P on a w.0 l w.1 p)

-- a road more at the end of a way
past : (z : Map) (a u e : ℕ) (ws : List ℕ) → a < z.n → e < z.n → T (is_way z a ws) → last a ws ≡ u → 0 < z.cost u e → T (reached z a e)
unfolding last
past z a u e [] l m t h p = far_back z e a e l m (subst (λ (x : ℕ). 0 < z.cost x e) (sym h) p) (reach_self z e)
past z a u e (y ∷ ys) l m t h p = let w = way_out z a y ys t in far_back z e a y l w.0 w.1 (past z y u e ys w.0 m w.2 h p)

-- no road leaves it
pub reach_on : (z : Map) (a u e : ℕ) → a < z.n → e < z.n → T (reached z a u) → 0 < z.cost u e → T (reached z a e)
reach_on z a u e l m t p =
    let c = has_at (far z u a) t in
    let w = way_had z.n z u a c.0 c.1 in
    past z a u e w.0 l m w.1 w.2 p
