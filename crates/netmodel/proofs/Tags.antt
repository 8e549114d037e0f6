-- Lists of tags: what is in one is in a longer one, and what is fresh is so beside fewer.
use Rattle.std.proofs.Common.{◌≡◌, ℕ, zero, suc, Bool, true, false, not, ◌&&◌, ◌||◌, eqb, T, List, [], ◌∷◌, ◌++◌, take, refl, subst}
use Rattle.model.specs.Words.{is_in}
use Rattle.model.proofs.Tests.{both_t, left_t, right_t, or_right, true_not_false}
use Rattle.linkmodel.specs.Calls.{all_fresh}

-- nothing is in none
pub none_in : (t : ℕ) (ts : List ℕ) → is_in t [] ≡ true → is_in t ts ≡ true
unfolding is_in
none_in t ts h = true_not_false false h refl

-- what is in one of two lists is in both together
pub in_first : (t : ℕ) (ts us : List ℕ) → is_in t ts ≡ true → is_in t (ts ++ us) ≡ true
unfolding is_in
in_first t [] us h = true_not_false false h refl
in_first t (x ∷ xs) us h = go (eqb x t) h (in_first t xs us)
  where
    go : (b : Bool) → (b || is_in t xs) ≡ true → (is_in t xs ≡ true → is_in t (xs ++ us) ≡ true) → (b || is_in t (xs ++ us)) ≡ true
    go true h f = refl
    go false h f = f h

-- also what is in the second
pub in_second : (t : ℕ) (ts us : List ℕ) → is_in t us ≡ true → is_in t (ts ++ us) ≡ true
unfolding is_in
in_second t [] us h = h
in_second t (x ∷ xs) us h = or_right (eqb x t) (is_in t (xs ++ us)) (in_second t xs us h)

-- what is among the first of a list is in the list
pub in_few : (m t : ℕ) (ts : List ℕ) → is_in t (take m ts) ≡ true → is_in t ts ≡ true
unfolding is_in
in_few zero t ts h = true_not_false (is_in t []) h refl
in_few (suc m) t [] h = h
in_few (suc m) t (x ∷ xs) h = go (eqb x t) h (in_few m t xs)
  where
    go : (b : Bool) → (b || is_in t (take m xs)) ≡ true → (is_in t (take m xs) ≡ true → is_in t xs ≡ true) → (b || is_in t xs) ≡ true
    go true h f = refl
    go false h f = f h

-- what isn't among many isn't among fewer
not_in_less : (t : ℕ) (us ts : List ℕ) → (is_in t us ≡ true → is_in t ts ≡ true) → T (not (is_in t ts)) → T (not (is_in t us))
not_in_less t us ts f h = go (is_in t us) refl
  where
    go : (b : Bool) → is_in t us ≡ b → T (not b)
    go true e = subst (λ c. T (not c)) (f e) h
    go false e = tt

-- the first of some fresh tags are fresh
pub fresh_few : (m : ℕ) (ts old : List ℕ) → T (all_fresh ts old) → T (all_fresh (take m ts) old)
unfolding all_fresh
fresh_few zero ts old h = tt
fresh_few (suc m) [] old h = tt
fresh_few (suc m) (t ∷ ts) old h =
    let r : T (not (is_in t ts) && all_fresh ts old) = right_t (not (is_in t old)) (not (is_in t ts) && all_fresh ts old) h in
    both_t (not (is_in t old)) (not (is_in t (take m ts)) && all_fresh (take m ts) old) (left_t (not (is_in t old)) (not (is_in t ts) && all_fresh ts old) h)
    (both_t (not (is_in t (take m ts))) (all_fresh (take m ts) old) (not_in_less t (take m ts) ts (in_few m t ts) (left_t (not (is_in t ts)) (all_fresh ts old) r)) (fresh_few m ts old (right_t (not (is_in t ts)) (all_fresh ts old) r)))

-- and what is fresh is so where fewer are old
pub fresh_less : (ts old older : List ℕ) → ((t : ℕ) → is_in t older ≡ true → is_in t old ≡ true) → T (all_fresh ts old) → T (all_fresh ts older)
unfolding all_fresh
fresh_less [] old older f h = tt
fresh_less (t ∷ ts) old older f h =
    let r : T (not (is_in t ts) && all_fresh ts old) = right_t (not (is_in t old)) (not (is_in t ts) && all_fresh ts old) h in
    both_t (not (is_in t older)) (not (is_in t ts) && all_fresh ts older) (not_in_less t older old (f t) (left_t (not (is_in t old)) (not (is_in t ts) && all_fresh ts old) h))
    (both_t (not (is_in t ts)) (all_fresh ts older) (left_t (not (is_in t ts)) (all_fresh ts old) r) (fresh_less ts old older f (right_t (not (is_in t ts)) (all_fresh ts old) r)))
