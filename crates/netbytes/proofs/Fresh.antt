-- Numbers above all that were drawn are new.
use Rattle.std.proofs.Common.{◌≡◌, ℕ, ◌+◌, ◌^◌, ◌<◌, ◌≤◌, Bool, true, false, not, ◌||◌, eqb, ltb, List, [], ◌∷◌, refl, ap, arith, lt-ltb, eqb-true}
use Rattle.model.specs.Words.{is_in}
use Rattle.model.proofs.Tests.{true_not_false}
use Rattle.linkmodel.proofs.Bools.{and_both}
use Rattle.linkmodel.specs.Calls.{all_fresh}
use Rattle.netmodel.specs.Net.{all_small, is_fresh}

-- none of these is above d
abbrev pub UpTo : ℕ → List ℕ → Type 0
UpTo d ts = (t : ℕ) → is_in t ts ≡ true → t ≤ d

-- so what is above isn't in it
pub above : (t d : ℕ) (ts : List ℕ) → UpTo d ts → d < t → is_in t ts ≡ false
above t d ts u l = go (is_in t ts) refl
  where
    go : (b : Bool) → is_in t ts ≡ b → b ≡ false
    go false e = refl
    go true e = absurd (omega (arith, u t e))

not_in : (t d : ℕ) (ts : List ℕ) → UpTo d ts → d < t → not (is_in t ts) ≡ true
not_in t d ts u l = ap not (above t d ts u l)

-- the next one is new
pub next_fresh : (t d : ℕ) (ts : List ℕ) → UpTo d ts → d < t → t < 2 ^ 64 → is_fresh t ts ≡ true
next_fresh t d ts u l m = and_both (ltb t (2 ^ 64)) (not (is_in t ts)) (lt-ltb t (2 ^ 64) m) (not_in t d ts u l)

-- and one alone is just that
pub only : (t u : ℕ) → is_in t (u ∷ []) ≡ true → t ≡ u
unfolding is_in
only t u h = go (eqb u t) refl h
  where
    go : (b : Bool) → eqb u t ≡ b → (b || false) ≡ true → t ≡ u
    go true e z = let y : u ≡ t = eqb-true u t e in cc
    go false e z = true_not_false false z refl

pub one_up : (t d : ℕ) → t ≤ d → UpTo d (t ∷ [])
one_up t d l u h = let e = only u t h in omega arith

-- four in a row
abbrev pub four : ℕ → List ℕ
four d = (d + 1) ∷ (d + 2) ∷ (d + 3) ∷ (d + 4) ∷ []

more_up : (t d : ℕ) (ts : List ℕ) → t ≤ d → UpTo d ts → UpTo d (t ∷ ts)
unfolding is_in
more_up t d ts l k u h = go (eqb t u) refl h
  where
    go : (b : Bool) → eqb t u ≡ b → (b || is_in u ts) ≡ true → u ≤ d
    go true e z = let y : t ≡ u = eqb-true t u e in omega arith
    go false e z = k u z

pub none_up : (d : ℕ) → UpTo d []
unfolding is_in
none_up d u h = true_not_false false h refl

pub four_up : (d : ℕ) → UpTo (d + 4) (four d)
four_up d =
    more_up (d + 1) (d + 4) _ (omega arith) (more_up (d + 2) (d + 4) _ (omega arith) (more_up (d + 3) (d + 4) _ (omega arith) (more_up (d + 4) (d + 4) [] (omega arith) (none_up (d + 4)))))

pub four_small : (d : ℕ) → d + 4 < 2 ^ 64 → all_small (four d) ≡ true
unfolding all_small
four_small d l =
    and_both (ltb (d + 1) (2 ^ 64)) _ (lt-ltb (d + 1) (2 ^ 64) (omega arith))
    (and_both (ltb (d + 2) (2 ^ 64)) _ (lt-ltb (d + 2) (2 ^ 64) (omega arith))
    (and_both (ltb (d + 3) (2 ^ 64)) _ (lt-ltb (d + 3) (2 ^ 64) (omega arith)) (and_both (ltb (d + 4) (2 ^ 64)) true (lt-ltb (d + 4) (2 ^ 64) l) refl)))

-- one below others isn't among them
below_in : (t d : ℕ) (ts : List ℕ) → ((u : ℕ) → is_in u ts ≡ true → d < u) → t ≤ d → not (is_in t ts) ≡ true
below_in t d ts k l = go (is_in t ts) refl
  where
    go : (b : Bool) → is_in t ts ≡ b → not b ≡ true
    go false e = refl
    go true e = absurd (omega (arith, k t e))

more_low : (t d : ℕ) (ts : List ℕ) → d < t → ((u : ℕ) → is_in u ts ≡ true → d < u) → (u : ℕ) → is_in u (t ∷ ts) ≡ true → d < u
unfolding is_in
more_low t d ts l k u h = go (eqb t u) refl h
  where
    go : (b : Bool) → eqb t u ≡ b → (b || is_in u ts) ≡ true → d < u
    go true e z = let y : t ≡ u = eqb-true t u e in omega arith
    go false e z = k u z

none_low : (d : ℕ) (u : ℕ) → is_in u [] ≡ true → d < u
unfolding is_in
none_low d u h = true_not_false false h refl

pub four_fresh : (d : ℕ) (old : List ℕ) → UpTo d old → all_fresh (four d) old ≡ true
unfolding all_fresh
four_fresh d old k =
    and_both (not (is_in (d + 1) old)) _ (not_in (d + 1) d old k (omega arith))
    (and_both (not (is_in (d + 1) ((d + 2) ∷ (d + 3) ∷ (d + 4) ∷ []))) _
    (below_in (d + 1) (d + 1) _ (more_low (d + 2) (d + 1) _ (omega arith) (more_low (d + 3) (d + 1) _ (omega arith) (more_low (d + 4) (d + 1) [] (omega arith) (none_low (d + 1))))) (omega arith))
    (and_both (not (is_in (d + 2) old)) _ (not_in (d + 2) d old k (omega arith))
    (and_both (not (is_in (d + 2) ((d + 3) ∷ (d + 4) ∷ []))) _
    (below_in (d + 2) (d + 2) _ (more_low (d + 3) (d + 2) _ (omega arith) (more_low (d + 4) (d + 2) [] (omega arith) (none_low (d + 2)))) (omega arith))
    (and_both (not (is_in (d + 3) old)) _ (not_in (d + 3) d old k (omega arith))
    (and_both (not (is_in (d + 3) ((d + 4) ∷ []))) _
    (below_in (d + 3) (d + 3) _ (more_low (d + 4) (d + 3) [] (omega arith) (none_low (d + 3))) (omega arith))
    (and_both (not (is_in (d + 4) old)) _ (not_in (d + 4) d old k (omega arith))
    (and_both (not (is_in (d + 4) [])) true (below_in (d + 4) (d + 4) [] (none_low (d + 4)) (omega arith)) refl)))))))
