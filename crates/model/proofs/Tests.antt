-- Facts about tests: a choice by its two cases, what a test of several parts says of each, and tests as facts.
use Rattle.std.proofs.Common.{◌≡◌, ℕ, Bool, true, false, cond, not, ◌&&◌, ◌||◌, T, eqb, ◌⊎◌, sym, refl, subst, inl, inr, arith}
use Rattle.std.proofs.lemmas.Bool.{both_ways, and_parts, cond_both, eq-eqb}
pub use Rattle.std.proofs.lemmas.Bool.{cond-true, cond-false, or_left, or_right, not-true as not-to-false}

-- what holds of a choice holds in both cases
pub of_cond : {A : Type 0} (Q : A → Type 0) (b : Bool) (x y : A) → (b ≡ true → Q x) → (b ≡ false → Q y) → Q (cond b x y)
of_cond Q b x y f g = cond_both b x y Q f g

-- two choices by the same test
pub both_cond : {A B : Type 0} (R : A → B → Type 0) (b c : Bool) (x y : A) (u v : B) → b ≡ c → (b ≡ true → R x u) → (b ≡ false → R y v) → R (cond b x y) (cond c u v)
both_cond R true true x y u v e f g = f refl
both_cond R true false x y u v e f g = absurd (both_ways true e refl)
both_cond R false true x y u v e f g = absurd (both_ways false refl e)
both_cond R false false x y u v e f g = g refl

-- a test that passes and fails
pub true_not_false : {A : Type 0} (b : Bool) → b ≡ true → b ≡ false → A
true_not_false b p q = absurd (both_ways b q p)

pub and_first : (b c : Bool) → (b && c) ≡ true → b ≡ true
and_first b c e = (and_parts b c e).0

pub and_second : (b c : Bool) → (b && c) ≡ true → c ≡ true
and_second b c e = (and_parts b c e).1

-- a test that counts for nothing fails
pub none_fails : (b : Bool) → ◌≡◌ {A = ℕ} (cond b 1 0) 0 → b ≡ false
none_fails true e = absurd (let z : ⊥ = omega arith in z)
none_fails false e = refl

-- a test that passes, as a fact
pub t_true : (b : Bool) → T b → b ≡ true
t_true true h = refl
t_true false h = absurd h

pub true_t : (b : Bool) → b ≡ true → T b
true_t b e = subst T (sym e) tt

pub eq_t : (a b : ℕ) → a ≡ b → T (eqb a b)
eq_t a b e = true_t (eqb a b) (eq-eqb a b e)

pub both_t : (x y : Bool) → T x → T y → T (x && y)
both_t true y p q = q
both_t false y p q = p

pub left_t : (x y : Bool) → T (x && y) → T x
left_t true y p = tt
left_t false y p = p

pub right_t : (x y : Bool) → T (x && y) → T y
right_t true y p = p
right_t false y p = absurd p

pub or_t : (x y : Bool) → T (x || y) → T x ⊎ T y
or_t true y h = inl tt
or_t false y h = inr h

pub or_t_left : (x y : Bool) → T x → T (x || y)
or_t_left true y h = tt
or_t_left false y h = absurd h

pub or_t_right : (x y : Bool) → T y → T (x || y)
or_t_right true y h = tt
or_t_right false y h = h

-- either not a, or b
pub since_t : (a b : Bool) → (T a → T b) → T (not a || b)
since_t true b f = f tt
since_t false b f = tt

pub t_since : (a b : Bool) → T (not a || b) → T a → T b
t_since true b h t = h
t_since false b h t = absurd t

-- a test that passes where another does, and back
pub same_t : (x y : Bool) → (T x → T y) → (T y → T x) → x ≡ y
same_t true true f g = refl
same_t true false f g = absurd (f tt)
same_t false true f g = absurd (g tt)
same_t false false f g = refl
