-- Maps of roads with costs, least ways, and the next place on one. Assumes nothing.
use Rattle.std.specs.Prelude.{ℕ, zero, suc, ◌+◌, Bool, true, false, cond, ◌&&◌, ◌==◌, nat_lt}

-- places 0 to n - 1; what the road from one to another costs, 0 if there is none
pub record Map : Type 0 where
  pub n : ℕ
  pub cost : ℕ → ℕ → ℕ

pub data Far : Type 0 where
  Never : Far
  At : (cost : ℕ) → Far

abbrev pub plus : ℕ → Far → Far
plus zero f = Never
plus (suc c) Never = Never
plus (suc c) (At k) = At (suc c + k)

abbrev pub lower : Far → Far → Far
lower Never f = f
lower (At a) Never = At a
lower (At a) (At e) = At (cond (nat_lt e a) e a)

-- the lowest over next places 0 to k - 1
unfoldable pub lowest : Map → (ℕ → Far) → ℕ → ℕ → Far
lowest z f a zero = Never
lowest z f a (suc k) = lower (lowest z f a k) (plus (z.cost a k) (f k))

abbrev pub home : ℕ → ℕ → Far
home d a = cond (a == d) (At 0) Never

-- the least cost from a to d by at most so many roads
unfoldable pub within : ℕ → Map → ℕ → ℕ → Far
within zero z d a = home d a
within (suc k) z d a = lower (home d a) (lowest z (λ e. within k z d e) a z.n)

abbrev pub far : Map → ℕ → ℕ → Far
far z d a = within z.n z d a

abbrev pub is_at : Far → ℕ → Bool
is_at Never k = false
is_at (At c) k = c == k

abbrev pub same_far : Far → Far → Bool
same_far Never Never = true
same_far Never (At e) = false
same_far (At a) Never = false
same_far (At a) (At e) = a == e

pub data Hop : Type 0 where
  Nowhere : Hop
  To : (place : ℕ) → Hop

-- there is a way
abbrev pub has_way : Far → Bool
has_way Never = false
has_way (At c) = true

-- the lowest next place on a least way
unfoldable pub first_of : Map → ℕ → ℕ → ℕ → ℕ → Hop
first_of z d a e zero = Nowhere
first_of z d a e (suc k) = cond (has_way (plus (z.cost a e) (far z d e)) && same_far (plus (z.cost a e) (far z d e)) (far z d a)) (To e) (first_of z d a (e + 1) k)

abbrev pub hop : Map → ℕ → ℕ → Hop
hop z d a = cond (a == d) Nowhere (first_of z d a 0 z.n)
