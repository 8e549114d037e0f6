-- No round gains after as many as there are places; the equation of least costs, and what follows from it.
use Rattle.std.proofs.Common.{◌≡◌, ℕ, zero, suc, ◌+◌, ◌<◌, ◌≤◌, T, sym, refl, ap, ◌∙◌, subst, inl, inr, arith}
use Rattle.model.specs.Map.{Map, Far, Never, At, plus, lower, lowest, home, within, far, has_way}
use Rattle.model.proofs.Fars.{at_most, most_trans, most_anti, most_at, plus_mono, plus_at, plus_inv, less_far, less_at, at_has}
use Rattle.model.proofs.Rounds.{within_home, within_road, within_had, within_more, home_self, rank_by, rank_falls, rank_below}

-- what a place has by round K it has after as many rounds as there are places strictly nearer by then
abbrev ByRank : ℕ → ℕ → Map → ℕ → Type 0
ByRank m K z d = (a : ℕ) → rank_by z.n (λ x. within K z d x) a ≤ m → at_most (within m z d a) (within K z d a)

-- the next place has a smaller rank
nearer : (K : ℕ) (z : Map) (d a e c : ℕ) → e < z.n → within (suc K) z d a ≡ At c → plus (z.cost a e) (within K z d e) ≡ At c → rank_by z.n (λ x. within (suc K) z d x) e < rank_by z.n (λ x. within (suc K) z d x) a
nearer K z d a e c l h p =
    let i = plus_inv (z.cost a e) (within K z d e) c p in
    let j = most_at (within (suc K) z d e) i.0 (subst (λ (f : Far). at_most (within (suc K) z d e) f) i.1 (within_more K z d e)) in
    let q : j.0 < c = omega (arith, i.2, i.3, j.2) in
    rank_falls z.n (λ x. within (suc K) z d x) a e l (ap (λ (f : Far). less_far f (within (suc K) z d a)) j.1 ∙ ap (λ (f : Far). less_far (At j.0) f) h ∙ less_at j.0 c q)

-- what the next place has by round m, this one has by the next round
by_road : (m K : ℕ) (z : Map) (d a e c : ℕ) → e < z.n → at_most (within m z d e) (within K z d e) → plus (z.cost a e) (within K z d e) ≡ At c → at_most (within (suc m) z d a) (At c)
by_road m K z d a e c l h p =
    subst (λ (f : Far). at_most (within (suc m) z d a) f) p
    (most_trans (within (suc m) z d a) (plus (z.cost a e) (within m z d e)) (plus (z.cost a e) (within K z d e)) (within_road m z d a e l) (plus_mono (z.cost a e) (within m z d e) (within K z d e) h))

-- home every round has nothing to pay
at_home : (m : ℕ) (z : Map) (d a c : ℕ) → a ≡ d → c ≡ 0 → at_most (within m z d a) (At c)
at_home m z d a c i j =
    let h : home d a ≡ At c = ap (λ (x : ℕ). home d x) i ∙ home_self d ∙ ap At (sym j) in
    subst (λ (f : Far). at_most (within m z d a) f) h (within_home m z d a)

-- by induction on m: the next place has a smaller rank, and has it a round before
by_rank : (m K : ℕ) (z : Map) (d : ℕ) → ByRank m K z d
unfolding within
by_rank m zero z d a r = within_home m z d a
by_rank zero (suc K) z d a r = go (within (suc K) z d a) refl
  where
    go : (f : Far) → within (suc K) z d a ≡ f → at_most (within 0 z d a) f
    go Never h = tt
    go (At c) h = elim (within_had K z d a c h) [ inl i ↦ at_home 0 z d a c i.0 i.1 | inr i ↦ absurd (omega (arith, nearer K z d a i.0 c i.1 h i.2)) ]
by_rank (suc m) (suc K) z d a r = go (within (suc K) z d a) refl (by_rank m (suc K) z d)
  where
    go : (f : Far) → within (suc K) z d a ≡ f → ByRank m (suc K) z d → at_most (within (suc m) z d a) f
    go Never h b = tt
    go (At c) h b =
        elim (within_had K z d a c h) [
          | inl i ↦ at_home (suc m) z d a c i.0 i.1
          | inr i ↦ by_road m K z d a i.0 c i.1 (most_trans (within m z d i.0) (within (suc K) z d i.0) (within K z d i.0) (b i.0 (omega (arith, nearer K z d a i.0 c i.1 h i.2))) (within_more K z d i.0)) i.2
        ]

-- no round has less than as many as there are places
pub settled : (z : Map) (d a K : ℕ) → a < z.n → at_most (far z d a) (within K z d a)
settled z d a K l = by_rank z.n K z d a (omega (arith, rank_below z.n (λ x. within K z d x) a l))

-- a round more changes nothing
pub far_more : (z : Map) (d a : ℕ) → a < z.n → far z d a ≡ within (suc z.n) z d a
far_more z d a l = most_anti (far z d a) (within (suc z.n) z d a) (settled z d a (suc z.n) l) (within_more z.n z d a)

-- the equation of least costs
pub far_is : (z : Map) (d a : ℕ) → a < z.n → far z d a ≡ lower (home d a) (lowest z (λ e. far z d e) a z.n)
unfolding within
far_is z d a l = far_more z d a l

-- home is at no distance
pub far_self : (z : Map) (d : ℕ) → far z d d ≡ At 0
far_self z d =
    let j = most_at (far z d d) 0 (subst (λ (f : Far). at_most (far z d d) f) (home_self d) (within_home z.n z d d)) in
    j.1 ∙ ap At (omega (arith, j.2))

-- no place is farther than over a road and from its end
pub far_road : (z : Map) (d a e : ℕ) → a < z.n → e < z.n → at_most (far z d a) (plus (z.cost a e) (far z d e))
far_road z d a e l m = subst (λ (f : Far). at_most f (plus (z.cost a e) (far z d e))) (sym (far_more z d a l)) (within_road z.n z d a e m)

-- and but for home it is just that for some road
pub far_had : (z : Map) (d a c : ℕ) → a < z.n → (a ≡ d → ⊥) → far z d a ≡ At c → (e : ℕ) × (e < z.n) × (0 < z.cost a e) × (plus (z.cost a e) (far z d e) ≡ At c)
far_had z d a c l ne h =
    elim (within_had z.n z d a c (sym (far_more z d a l) ∙ h))
    [ inl i ↦ absurd (ne i.0) | inr i ↦ (i.0, i.1, (plus_inv (z.cost a i.0) (far z d i.0) c i.2).2, i.2) ]

-- from where a road leads to where there is a way, there is a way
pub far_back : (z : Map) (d a e : ℕ) → a < z.n → e < z.n → 0 < z.cost a e → T (has_way (far z d e)) → T (has_way (far z d a))
far_back z d a e l m p t = go (far z d e) refl t
  where
    go : (f : Far) → far z d e ≡ f → T (has_way f) → T (has_way (far z d a))
    go Never h t = absurd t
    go (At c) h t =
        let q : plus (z.cost a e) (far z d e) ≡ At (z.cost a e + c) = ap (λ (f : Far). plus (z.cost a e) f) h ∙ plus_at (z.cost a e) c p in
        let j = most_at (far z d a) (z.cost a e + c) (subst (λ (f : Far). at_most (far z d a) f) q (far_road z d a e l m)) in
        at_has (far z d a) j.0 j.1

-- rank of a place on the way to d: how many are strictly nearer
abbrev pub rank : Map → ℕ → ℕ → ℕ
rank z d a = rank_by z.n (λ x. far z d x) a

-- it falls over a road on a least way
pub rank_on : (z : Map) (d a e c : ℕ) → e < z.n → far z d a ≡ At c → far z d a ≡ plus (z.cost a e) (far z d e) → rank z d e < rank z d a
rank_on z d a e c l h p =
    let i = plus_inv (z.cost a e) (far z d e) c (sym p ∙ h) in
    let q : i.0 < c = omega (arith, i.2, i.3) in
    rank_falls z.n (λ x. far z d x) a e l (ap (λ (f : Far). less_far f (far z d a)) i.1 ∙ ap (λ (f : Far). less_far (At i.0) f) h ∙ less_at i.0 c q)
