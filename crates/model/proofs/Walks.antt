-- Walks on which a rank falls, and packets that go by any next place on a least way.
use Rattle.std.proofs.Common.{◌≡◌, ℕ, zero, suc, ◌+◌, ◌<◌, ◌≤◌, Bool, true, false, cond, ◌&&◌, T, eqb, ltb, List, [], ◌∷◌, length, sym, refl, ap, ◌∙◌, subst, zero-le, arith, ltb→lt, lt→ltb}
use Rattle.std.proofs.lemmas.Bool.{eqb-true}
use Rattle.model.specs.Map.{Map, At, plus, far, Hop, To, has_way}
use Rattle.model.specs.Promise.{is_way, last, cost_of}
use Rattle.model.specs.Ways.{trail_on, trail, ByAnyRank, Picks, ByAnyPolicy}
use Rattle.model.proofs.Fars.{at_inj, plus_inv, at_has, has_at}
use Rattle.model.proofs.Rounds.{rank_below}
use Rattle.model.proofs.Settled.{far_self, rank, rank_on}
use Rattle.model.proofs.Shortest.{both, both_left, both_right, way_in}

-- a trail ends at d, and goes on to what next names elsewhere
pub trail_end : (k : ℕ) (next : ℕ → Hop) (d a : ℕ) → eqb a d ≡ true → trail k next d a ≡ []
unfolding trail
trail_end zero next d a h = refl
trail_end (suc k) next d a h = ap (λ (b : Bool). cond b [] (trail_on (λ e. trail k next d e) (next a))) h

pub trail_on_lem : (k : ℕ) (next : ℕ → Hop) (d a e : ℕ) → eqb a d ≡ false → next a ≡ To e → trail (suc k) next d a ≡ e ∷ trail k next d e
unfolding trail
trail_on_lem k next d a e h i = ap (λ (b : Bool). cond b [] (trail_on (λ x. trail k next d x) (next a))) h ∙ ap (λ (x : Hop). trail_on (λ y. trail k next d y) x) i

-- what holds of the trail from a, if it holds at d of no places, and over a step
pub trail_all : (next : ℕ → Hop) (d : ℕ) (part : ℕ → Bool) (rank : ℕ → ℕ) →
    ((a : ℕ) → T (part a) → eqb a d ≡ false → (e : ℕ) × (next a ≡ To e) × T (part e) × (rank e < rank a)) →
    (P : ℕ → List ℕ → Type 0) → ((a : ℕ) → T (part a) → a ≡ d → P a []) →
    ((a e : ℕ) (ws : List ℕ) → T (part a) → T (part e) → eqb a d ≡ false → next a ≡ To e → rank e < rank a → P e ws → P a (e ∷ ws)) →
    (k a : ℕ) → T (part a) → rank a ≤ k → P a (trail k next d a)
trail_all next d part rank on P here more zero a t r = go (eqb a d) refl
  where
    go : (b : Bool) → eqb a d ≡ b → P a (trail 0 next d a)
    go true h = subst (λ (ws : List ℕ). P a ws) (sym (trail_end 0 next d a h)) (here a t (eqb-true a d h))
    go false h = let s = on a t h in absurd (omega (arith, s.3))
trail_all next d part rank on P here more (suc k) a t r = go (eqb a d) refl (λ e s q. trail_all next d part rank on P here more k e s q)
  where
    go : (b : Bool) → eqb a d ≡ b → ((e : ℕ) → T (part e) → rank e ≤ k → P e (trail k next d e)) → P a (trail (suc k) next d a)
    go true h i = subst (λ (ws : List ℕ). P a ws) (sym (trail_end (suc k) next d a h)) (here a t (eqb-true a d h))
    go false h i =
        let s = on a t h in
        subst (λ (ws : List ℕ). P a ws) (sym (trail_on_lem k next d a s.0 h s.1)) (more a s.0 (trail k next d s.0) t s.2 h s.1 s.3 (i s.0 s.2 (omega (arith, s.3))))

-- so a walk ends at d in no more steps than the rank
pub by_any_rank_lem : ByAnyRank
unfolding last
by_any_rank_lem next d part rank on k a t r =
    trail_all next d part rank on (λ a ws. (last a ws ≡ d) × (length ws ≤ rank a)) (λ a t h. (h, zero-le))
    (λ a e ws s t h i q p. (p.0, omega (arith, p.1, q))) k a t r

-- the places from which there is a way to d
abbrev pub leads : Map → ℕ → ℕ → Bool
leads z d a = ltb a z.n && has_way (far z d a)

pub leads_in : (z : Map) (d a c : ℕ) → a < z.n → far z d a ≡ At c → T (leads z d a)
leads_in z d a c l h = both (ltb a z.n) (has_way (far z d a)) (lt→ltb a z.n l) (at_has (far z d a) c h)

pub leads_out : (z : Map) (d a : ℕ) → T (leads z d a) → (a < z.n) × ((c : ℕ) × (far z d a ≡ At c))
leads_out z d a t = (ltb→lt a z.n (both_left (ltb a z.n) (has_way (far z d a)) t), has_at (far z d a) (both_right (ltb a z.n) (has_way (far z d a)) t))

-- a pick leads on, and the rank falls
pub picks_on : (z : Map) (d : ℕ) (next : ℕ → Hop) → Picks z d next → (a : ℕ) → T (leads z d a) → eqb a d ≡ false → (e : ℕ) × (next a ≡ To e) × T (leads z d e) × (rank z d e < rank z d a)
picks_on z d next ps a t h =
    let o = leads_out z d a t in
    let c = o.1.0 in
    let s = ps a c o.0 h o.1.1 in
    let i = plus_inv (z.cost a s.0) (far z d s.0) c (sym s.4 ∙ o.1.1) in
    (s.0, s.1, leads_in z d s.0 i.0 s.2 i.1, rank_on z d a s.0 c s.2 o.1.1 s.4)

-- a trail by picks is a way that costs what it should
abbrev Good : Map → ℕ → ℕ → List ℕ → Type 0
Good z d a ws = T (is_way z a ws) × ((c : ℕ) → far z d a ≡ At c → cost_of z a ws ≡ c)

-- no places are good at d
good_end : (z : Map) (d a : ℕ) → a ≡ d → Good z d a []
unfolding is_way cost_of
good_end z d a h = (tt, λ c e. at_inj 0 c (sym (far_self z d) ∙ ap (λ (x : ℕ). far z d x) (sym h) ∙ e))

-- and a step on a least way keeps it so
good_on : (z : Map) (d a e : ℕ) (ws : List ℕ) → e < z.n → 0 < z.cost a e → far z d a ≡ plus (z.cost a e) (far z d e) → Good z d e ws → Good z d a (e ∷ ws)
unfolding cost_of
good_on z d a e ws l p q g =
    (way_in z a e ws l p g.0, λ c h. let i = plus_inv (z.cost a e) (far z d e) c (sym q ∙ h) in ap (λ (x : ℕ). z.cost a e + x) (g.1 i.0 i.1) ∙ sym i.3)

-- so does a pick
picks_same : (z : Map) (d : ℕ) (next : ℕ → Hop) → Picks z d next → (a e : ℕ) (ws : List ℕ) → T (leads z d a) → eqb a d ≡ false → next a ≡ To e → Good z d e ws → Good z d a (e ∷ ws)
picks_same z d next ps a e ws t h i g =
    let o = leads_out z d a t in
    let s = ps a o.1.0 o.0 h o.1.1 in
    let q : s.0 ≡ e = cc (s.1, i) in
    let P : ℕ → Type 0 = λ x. Good z d x ws → Good z d a (x ∷ ws) in
    subst P q (good_on z d a s.0 ws s.2 s.3 s.4) g

-- whichever is picked, a packet comes to d at least cost
pub by_any_policy_lem : ByAnyPolicy
by_any_policy_lem z d next m ps a c l h =
    let t : T (leads z d a) = leads_in z d a c l h in
    let r : rank z d a < z.n = rank_below z.n (λ x. far z d x) a l in
    let e = by_any_rank_lem next d (leads z d) (rank z d) (picks_on z d next ps) z.n a t (omega arith) in
    let g = trail_all next d (leads z d) (rank z d) (picks_on z d next ps) (Good z d) (λ a t h. good_end z d a h) (λ a e ws t s h i q p. picks_same z d next ps a e ws t h i p) z.n a t (omega arith) in
    (g.0, e.0, g.1 c h, omega (arith, e.1, r))
