-- Rounds of least costs: what each has by the one before, that a later one is no higher, and ranks by distance.
use Rattle.std.proofs.Common.{◌≡◌, ℕ, zero, suc, ◌<◌, ◌≤◌, Bool, true, false, cond, T, eqb, ◌⊎◌, sym, refl, ap, ◌∙◌, subst, inl, inr, arith}
use Rattle.std.proofs.lemmas.Bool.{eqb-true, eqb-false, eq-eqb}
use Rattle.model.specs.Map.{Map, Far, Never, At, plus, lower, lowest, home, within}
use Rattle.model.proofs.Counts.{count, count_lt, count_below}
use Rattle.model.proofs.Fars.{at_most, most_refl, most_eq, most_trans, at_inj, never_at, lower_left, lower_right, lower_is, lower_mono, plus_mono, less_far, less_self, less_trans}

-- the lowest is at most what each next place gives
pub lowest_most : (z : Map) (f : ℕ → Far) (a k e : ℕ) → e < k → at_most (lowest z f a k) (plus (z.cost a e) (f e))
unfolding lowest
lowest_most z f a zero e l = absurd (omega arith)
lowest_most z f a (suc k) e l = go (eqb e k) refl (λ m. lowest_most z f a k e m)
  where
    go : (b : Bool) → eqb e k ≡ b → (e < k → at_most (lowest z f a k) (plus (z.cost a e) (f e))) → at_most (lower (lowest z f a k) (plus (z.cost a k) (f k))) (plus (z.cost a e) (f e))
    go true i r =
        let P : ℕ → Type 0 = λ j. at_most (lower (lowest z f a k) (plus (z.cost a k) (f k))) (plus (z.cost a j) (f j)) in
        subst P (sym (eqb-true e k i)) (lower_right (lowest z f a k) (plus (z.cost a k) (f k)))
    go false i r = most_trans (lower (lowest z f a k) (plus (z.cost a k) (f k))) (lowest z f a k) (plus (z.cost a e) (f e)) (lower_left (lowest z f a k) (plus (z.cost a k) (f k))) (r (omega (arith, eqb-false e k i)))

-- and is what some next place gives
pub lowest_had : (z : Map) (f : ℕ → Far) (a k c : ℕ) → lowest z f a k ≡ At c → (e : ℕ) × (e < k) × (plus (z.cost a e) (f e) ≡ At c)
unfolding lowest
lowest_had z f a zero c h = absurd (never_at c h)
lowest_had z f a (suc k) c h = go (lower_is (lowest z f a k) (plus (z.cost a k) (f k))) (lowest_had z f a k c)
  where
    go : (lower (lowest z f a k) (plus (z.cost a k) (f k)) ≡ lowest z f a k) ⊎ (lower (lowest z f a k) (plus (z.cost a k) (f k)) ≡ plus (z.cost a k) (f k)) →
        (lowest z f a k ≡ At c → (e : ℕ) × (e < k) × (plus (z.cost a e) (f e) ≡ At c)) → (e : ℕ) × (e < suc k) × (plus (z.cost a e) (f e) ≡ At c)
    go (inl i) r = let x = r (sym i ∙ h) in (x.0, omega (arith, x.1), x.2)
    go (inr i) r = (k, omega arith, sym i ∙ h)

-- and is no higher where all it is taken of are no higher
pub lowest_mono : (z : Map) (f g : ℕ → Far) (a k : ℕ) → ((e : ℕ) → e < k → at_most (f e) (g e)) → at_most (lowest z f a k) (lowest z g a k)
unfolding lowest
lowest_mono z f g a zero h = tt
lowest_mono z f g a (suc k) h = lower_mono (lowest z f a k) (lowest z g a k) (plus (z.cost a k) (f k)) (plus (z.cost a k) (g k)) (lowest_mono z f g a k (λ e l. h e (omega arith))) (plus_mono (z.cost a k) (f k) (g k) (h k (omega arith)))

-- home costs nothing at home, and is nowhere else
pub home_self : (d : ℕ) → home d d ≡ At 0
home_self d = ap (λ (b : Bool). cond b (At 0) Never) (eq-eqb d d refl)

pub home_had : (d a c : ℕ) → home d a ≡ At c → (a ≡ d) × (c ≡ 0)
home_had d a c h = go (eqb a d) refl h
  where
    go : (b : Bool) → eqb a d ≡ b → cond b (At 0) Never ≡ At c → (a ≡ d) × (c ≡ 0)
    go true i e = (eqb-true a d i, sym (at_inj 0 c e))
    go false i e = absurd (never_at c e)

-- no round is higher than home
pub within_home : (k : ℕ) (z : Map) (d a : ℕ) → at_most (within k z d a) (home d a)
unfolding within
within_home zero z d a = most_refl (home d a)
within_home (suc k) z d a = lower_left (home d a) (lowest z (λ e. within k z d e) a z.n)

-- a round more is at most a road and a round from its end
pub within_road : (k : ℕ) (z : Map) (d a e : ℕ) → e < z.n → at_most (within (suc k) z d a) (plus (z.cost a e) (within k z d e))
unfolding within
within_road k z d a e l =
    most_trans (lower (home d a) (lowest z (λ x. within k z d x) a z.n)) (lowest z (λ x. within k z d x) a z.n) (plus (z.cost a e) (within k z d e))
    (lower_right (home d a) (lowest z (λ x. within k z d x) a z.n)) (lowest_most z (λ x. within k z d x) a z.n e l)

-- a round is home, or a road and the round before from its end
pub within_had : (k : ℕ) (z : Map) (d a c : ℕ) → within (suc k) z d a ≡ At c → ((a ≡ d) × (c ≡ 0)) ⊎ ((e : ℕ) × (e < z.n) × (plus (z.cost a e) (within k z d e) ≡ At c))
unfolding within
within_had k z d a c h = go (lower_is (home d a) (lowest z (λ e. within k z d e) a z.n))
  where
    go : (lower (home d a) (lowest z (λ e. within k z d e) a z.n) ≡ home d a) ⊎ (lower (home d a) (lowest z (λ e. within k z d e) a z.n) ≡ lowest z (λ e. within k z d e) a z.n) →
        ((a ≡ d) × (c ≡ 0)) ⊎ ((e : ℕ) × (e < z.n) × (plus (z.cost a e) (within k z d e) ≡ At c))
    go (inl i) = inl (home_had d a c (sym i ∙ h))
    go (inr i) = inr (lowest_had z (λ e. within k z d e) a z.n c (sym i ∙ h))

-- a round more gains or stays
pub within_more : (k : ℕ) (z : Map) (d a : ℕ) → at_most (within (suc k) z d a) (within k z d a)
unfolding within
within_more zero z d a = lower_left (home d a) (lowest z (λ e. within 0 z d e) a z.n)
within_more (suc k) z d a =
    lower_mono (home d a) (home d a) (lowest z (λ e. within (suc k) z d e) a z.n) (lowest z (λ e. within k z d e) a z.n) (most_refl (home d a))
    (lowest_mono z (λ e. within (suc k) z d e) (λ e. within k z d e) a z.n (λ e l. within_more k z d e))

-- nor is any later one higher
pub within_later : (j k : ℕ) (z : Map) (d a : ℕ) → k ≤ j → at_most (within j z d a) (within k z d a)
within_later zero k z d a l = most_eq (within 0 z d a) (within k z d a) (ap (λ (i : ℕ). within i z d a) (omega arith))
within_later (suc j) k z d a l = go (eqb k (suc j)) refl (λ m. within_later j k z d a m)
  where
    go : (b : Bool) → eqb k (suc j) ≡ b → (k ≤ j → at_most (within j z d a) (within k z d a)) → at_most (within (suc j) z d a) (within k z d a)
    go true i r = most_eq (within (suc j) z d a) (within k z d a) (ap (λ (m : ℕ). within m z d a) (sym (eqb-true k (suc j) i)))
    go false i r = most_trans (within (suc j) z d a) (within j z d a) (within k z d a) (within_more j z d a) (r (omega (arith, eqb-false k (suc j) i)))

-- how many places are strictly nearer
abbrev pub rank_by : ℕ → (ℕ → Far) → ℕ → ℕ
rank_by n f a = count n (λ x. less_far (f x) (f a))

-- who is strictly nearer has a smaller rank
pub rank_falls : (n : ℕ) (f : ℕ → Far) (a e : ℕ) → e < n → less_far (f e) (f a) ≡ true → rank_by n f e < rank_by n f a
rank_falls n f a e l h =
    count_lt n (λ x. less_far (f x) (f e)) (λ x. less_far (f x) (f a)) (λ x k t. less_trans (f x) (f e) (f a) t (subst T (sym h) tt)) e l (less_self (f e)) h

-- and a rank is less than the number of places, since no place is nearer than itself
pub rank_below : (n : ℕ) (f : ℕ → Far) (a : ℕ) → a < n → rank_by n f a < n
rank_below n f a l = count_below n (λ x. less_far (f x) (f a)) a l (less_self (f a))
