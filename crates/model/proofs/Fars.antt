-- The order of distances, with the lower of two and a road before one.
use Rattle.std.proofs.Common.{◌≡◌, ℕ, zero, suc, ◌+◌, ◌<◌, ◌≤◌, Bool, true, false, cond, T, ltb, ◌⊎◌, sym, refl, ap, subst, inl, inr, le_refl, arith, ltb→lt, lt→ltb}
use borrow.Author.Tests.{clash}
use Rattle.std.proofs.lemmas.Bool.{ltb-true, ltb-false, lt-ltb, le-ltb, eqb-true, eq-eqb}
use Rattle.model.specs.Map.{Far, Never, At, plus, lower, has_way, same_far}

-- no more than
abbrev pub at_most : Far → Far → Type 0
at_most f Never = Unit
at_most Never (At c) = ⊥
at_most (At a) (At c) = a ≤ c

pub most_refl : (f : Far) → at_most f f
most_refl Never = tt
most_refl (At c) = le_refl c

pub most_eq : (f g : Far) → f ≡ g → at_most f g
most_eq f g e = subst (λ (h : Far). at_most f h) e (most_refl f)

pub most_trans : (f g h : Far) → at_most f g → at_most g h → at_most f h
most_trans f g Never p q = tt
most_trans f Never (At c) p q = absurd q
most_trans Never (At b) (At c) p q = absurd p
most_trans (At a) (At b) (At c) p q = omega arith

pub most_anti : (f g : Far) → at_most f g → at_most g f → f ≡ g
most_anti Never Never p q = refl
most_anti Never (At b) p q = absurd p
most_anti (At a) Never p q = absurd q
most_anti (At a) (At b) p q = ap At (omega arith)

-- what is at most a number is a number
pub most_at : (f : Far) (c : ℕ) → at_most f (At c) → (k : ℕ) × (f ≡ At k) × (k ≤ c)
most_at Never c p = absurd p
most_at (At k) c p = (k, refl, p)

pub at_inj : (a c : ℕ) → At a ≡ At c → a ≡ c
at_inj a c e = cc

pub never_at : (c : ℕ) → Never ≡ At c → ⊥
never_at c e = let z : ◌≡◌ {A = ℕ} 0 1 = cc in omega arith

-- the lower of two is at most each
pub lower_left : (f g : Far) → at_most (lower f g) f
lower_left Never g = tt
lower_left (At a) Never = le_refl a
lower_left (At a) (At b) = go (ltb b a) refl
  where
    go : (t : Bool) → ltb b a ≡ t → cond t b a ≤ a
    go true e = omega (arith, ltb-true b a e)
    go false e = omega arith

pub lower_right : (f g : Far) → at_most (lower f g) g
lower_right Never g = most_refl g
lower_right (At a) Never = tt
lower_right (At a) (At b) = go (ltb b a) refl
  where
    go : (t : Bool) → ltb b a ≡ t → cond t b a ≤ b
    go true e = omega arith
    go false e = omega (arith, ltb-false b a e)

-- the lower of two is one of them
pub lower_is : (f g : Far) → (lower f g ≡ f) ⊎ (lower f g ≡ g)
lower_is Never g = inr refl
lower_is (At a) Never = inl refl
lower_is (At a) (At b) = go (ltb b a)
  where
    go : (t : Bool) → (At (cond t b a) ≡ At a) ⊎ (At (cond t b a) ≡ At b)
    go true = inr refl
    go false = inl refl

pub lower_mono : (f f' g g' : Far) → at_most f f' → at_most g g' → at_most (lower f g) (lower f' g')
lower_mono f f' g g' p q = elim (lower_is f' g') [ inl e ↦ rw e (most_trans (lower f g) f f' (lower_left f g) p) | inr e ↦ rw e (most_trans (lower f g) g g' (lower_right f g) q) ]

pub plus_mono : (c : ℕ) (f g : Far) → at_most f g → at_most (plus c f) (plus c g)
plus_mono zero f g p = tt
plus_mono (suc c) f Never p = tt
plus_mono (suc c) Never (At b) p = absurd p
plus_mono (suc c) (At a) (At b) p = omega arith

-- over a road, a number is a number more
pub plus_at : (c k : ℕ) → 0 < c → plus c (At k) ≡ At (c + k)
plus_at zero k h = absurd (omega arith)
plus_at (suc c) k h = refl

-- and where there's one over a road, there is a road, and one from its end
pub plus_inv : (c : ℕ) (f : Far) (k : ℕ) → plus c f ≡ At k → (m : ℕ) × (f ≡ At m) × (0 < c) × (k ≡ c + m)
plus_inv zero f k e = absurd (never_at k e)
plus_inv (suc c) Never k e = absurd (never_at k e)
plus_inv (suc c) (At m) k e = (m, refl, omega arith, sym (at_inj (suc c + m) k e))

-- less than, as a test
abbrev pub less_far : Far → Far → Bool
less_far Never g = false
less_far (At a) Never = true
less_far (At a) (At b) = ltb a b

-- nothing is less than itself, and less than less is less
pub less_self : (f : Far) → less_far f f ≡ false
less_self Never = refl
less_self (At a) = le-ltb a a (le_refl a)

pub less_trans : (f g h : Far) → T (less_far f g) → T (less_far g h) → T (less_far f h)
less_trans Never g h p q = absurd p
less_trans (At a) Never h p q = absurd q
less_trans (At a) (At b) Never p q = tt
less_trans (At a) (At b) (At c) p q = lt→ltb a c (omega (arith, ltb→lt a b p, ltb→lt b c q))

pub less_at : (a c : ℕ) → a < c → less_far (At a) (At c) ≡ true
less_at a c l = lt-ltb a c l

-- what the test calls the same is the same, and everything is the same as itself
pub same_true : (f g : Far) → same_far f g ≡ true → f ≡ g
same_true Never Never e = refl
same_true Never (At b) e = absurd (clash e)
same_true (At a) Never e = absurd (clash e)
same_true (At a) (At b) e = ap At (eqb-true a b e)

pub same_self : (f : Far) → same_far f f ≡ true
same_self Never = refl
same_self (At a) = eq-eqb a a refl

-- there is a way where the distance is a number
pub has_at : (f : Far) → T (has_way f) → (c : ℕ) × (f ≡ At c)
has_at Never t = absurd t
has_at (At c) t = (c, refl)

pub at_has : (f : Far) (c : ℕ) → f ≡ At c → T (has_way f)
at_has f c e = subst (λ (h : Far). T (has_way h)) (sym e) tt
