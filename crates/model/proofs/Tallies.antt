-- How many of a list pass a test, and sums over the numbers below n.
use Rattle.std.proofs.Common.{◌≡◌, ℕ, zero, suc, ◌+◌, ◌*◌, ◌<◌, ◌≤◌, Bool, true, false, cond, eqb, ◌⊎◌, List, [], ◌∷◌, length, sym, refl, ap, subst, inl, inr, le_refl, suc-mul, mul-zero, zero-mul, mul-add, arith}
use native.Mathlib.Decide.{ℕ_discrete}
use Rattle.std.proofs.lemmas.Bool.{cases_eq, cond_both, ne_eqb, eqb-true}
use Rattle.model.proofs.Tests.{t_true, true_t}
use Rattle.model.proofs.Counts.{one_mono}

-- x is one of the list
abbrev pub Among : {A : Type 0} → A → List A → Type 0
Among x [] = ⊥
Among x (y ∷ ys) = (x ≡ y) ⊎ Among x ys

-- how many pass the test
abbrev pub tally : {A : Type 0} → (A → Bool) → List A → ℕ
tally p [] = 0
tally p (y ∷ ys) = cond (p y) 1 0 + tally p ys

-- f 0 + .. + f (n - 1)
abbrev pub sum : ℕ → (ℕ → ℕ) → ℕ
sum zero f = 0
sum (suc n) f = f n + sum n f

pub tally_le : {A : Type 0} (p q : A → Bool) (ys : List A) → ((y : A) → p y ≡ true → q y ≡ true) → tally p ys ≤ tally q ys
tally_le p q [] h = omega arith
tally_le p q (y ∷ ys) h =
    let a : cond (p y) 1 0 ≤ cond (q y) 1 0 = one_mono (p y) (q y) (λ t. true_t (q y) (h y (t_true (p y) t))) in
    let b : tally p ys ≤ tally q ys = tally_le p q ys h in
    omega arith

pub tally_lt : {A : Type 0} (p q : A → Bool) (x : A) (ys : List A) → ((y : A) → p y ≡ true → q y ≡ true) → Among x ys → p x ≡ false → q x ≡ true → tally p ys < tally q ys
tally_lt p q x [] h m u v = absurd m
tally_lt p q x (y ∷ ys) h (inl e) u v =
    let a : ◌≡◌ {A = ℕ} (cond (p y) 1 0) 0 = ap (λ (c : Bool). cond {A = ℕ} c 1 0) (subst (λ z. p z ≡ false) e u) in
    let b : ◌≡◌ {A = ℕ} (cond (q y) 1 0) 1 = ap (λ (c : Bool). cond {A = ℕ} c 1 0) (subst (λ z. q z ≡ true) e v) in
    let c : tally p ys ≤ tally q ys = tally_le p q ys h in
    omega arith
tally_lt p q x (y ∷ ys) h (inr m) u v =
    let a : cond (p y) 1 0 ≤ cond (q y) 1 0 = one_mono (p y) (q y) (λ t. true_t (q y) (h y (t_true (p y) t))) in
    let b : tally p ys < tally q ys = tally_lt p q x ys h m u v in
    omega arith

all_of : {A : Type 0} (ys : List A) → tally (λ y. true) ys ≡ length ys
all_of [] = refl
all_of (y ∷ ys) = let h : tally (λ y. true) ys ≡ length ys = all_of ys in omega arith

pub tally_all : {A : Type 0} (p : A → Bool) (ys : List A) → tally p ys ≤ length ys
tally_all p ys = subst (λ n. tally p ys ≤ n) (all_of ys) (tally_le p (λ y. true) ys (λ y h. refl))

-- one of the list fails
pub tally_some : {A : Type 0} (p : A → Bool) (x : A) (ys : List A) → Among x ys → p x ≡ false → tally p ys < length ys
tally_some p x ys m u = subst (λ n. tally p ys < n) (all_of ys) (tally_lt p (λ y. true) x ys (λ y h. refl) m u refl)

pub sum_le : (n : ℕ) (f g : ℕ → ℕ) → ((a : ℕ) → a < n → f a ≤ g a) → sum n f ≤ sum n g
sum_le zero f g h = omega arith
sum_le (suc n) f g h =
    let a : f n ≤ g n = h n (le_refl (suc n)) in
    let b : sum n f ≤ sum n g = sum_le n f g (λ a l. h a (omega arith)) in
    omega arith

sum_most : (n k : ℕ) (f : ℕ → ℕ) → ((a : ℕ) → a < n → f a ≤ k) → sum n f ≤ n * k
sum_most zero k f h = omega arith
sum_most (suc n) k f h =
    let a : f n ≤ k = h n (le_refl (suc n)) in
    let b : sum n f ≤ n * k = sum_most n k f (λ a l. h a (omega arith)) in
    let c : suc n * k ≡ n * k + k = suc-mul n k in
    omega arith

-- one falls by k, the others don't rise
pub sum_fall : (n b k : ℕ) (f g : ℕ → ℕ) → b < n → f b + k ≤ g b → ((a : ℕ) → a < n → (a ≡ b → ⊥) → f a ≤ g a) → sum n f + k ≤ sum n g
sum_fall zero b k f g l d h = omega arith
sum_fall (suc n) b k f g l d h = go (λ (m : b < n). sum_fall n b k f g m d (λ a q. h a (omega arith))) (ℕ_discrete n b)
  where
    go : (b < n → sum n f + k ≤ sum n g) → Dec (n ≡ b) → sum (suc n) f + k ≤ sum (suc n) g
    go r (yes e) =
        let a : f n + k ≤ g n = subst (λ x. f x + k ≤ g x) (sym e) d in
        let c : sum n f ≤ sum n g = sum_le n f g (λ a m. h a (omega arith) (λ q. omega arith)) in
        omega arith
    go r (no u) =
        let m : b < n = omega arith in
        let a : f n ≤ g n = h n (le_refl (suc n)) u in
        let c : sum n f + k ≤ sum n g = r m in
        omega arith

-- one more each
sum_each : (n : ℕ) (f : ℕ → ℕ) → sum n (λ a. f a + 1) ≡ sum n f + n
sum_each zero f = refl
sum_each (suc n) f = let a = sum_each n f in omega arith

-- one falls by k, the others rise by at most one
pub sum_trade : (n b k : ℕ) (f g : ℕ → ℕ) → b < n → f b + k ≤ g b → ((a : ℕ) → a < n → (a ≡ b → ⊥) → f a ≤ g a + 1) → sum n f + k + 1 ≤ sum n g + n
sum_trade n b k f g l d h =
    let a : sum n f + (k + 1) ≤ sum n (λ a. g a + 1) = sum_fall n b (k + 1) f (λ a. g a + 1) l (omega arith) h in
    let c : sum n (λ a. g a + 1) ≡ sum n g + n = sum_each n g in
    omega arith

-- at most one of them has k more than c
pub sum_lone : (n c k : ℕ) (p : ℕ → Bool) (f : ℕ → ℕ) → ((a e : ℕ) → a < n → e < n → p a ≡ true → p e ≡ true → a ≡ e) → ((a : ℕ) → a < n → f a ≤ c + cond (p a) k 0) → sum n f ≤ n * c + k
sum_lone zero c k p f l h = omega arith
sum_lone (suc n) c k p f l h = go (sum_lone n c k p f (λ a e m q. l a e (omega arith) (omega arith)) (λ a m. h a (omega arith))) (p n) refl
  where
    go : sum n f ≤ n * c + k → (b : Bool) → p n ≡ b → sum (suc n) f ≤ suc n * c + k
    go r true e =
        let a : f n ≤ c + k = subst (λ b. f n ≤ c + cond b k 0) e (h n (le_refl (suc n))) in
        let d : sum n f ≤ n * c = sum_most n c f (λ a m. alone a m (p a) refl) in
        let z : suc n * c ≡ n * c + c = suc-mul n c in
        omega arith
      where
        alone : (a : ℕ) → a < n → (b : Bool) → p a ≡ b → f a ≤ c
        alone a m true q = let y : a ≡ n = l a n (omega arith) (le_refl (suc n)) q e in omega arith
        alone a m false q = let y : f a ≤ c + 0 = subst (λ b. f a ≤ c + cond b k 0) q (h a (omega arith)) in omega arith
    go r false e =
        let a : f n ≤ c + 0 = subst (λ b. f n ≤ c + cond b k 0) e (h n (le_refl (suc n))) in
        let d : sum n f ≤ n * c + k = r in
        let z : suc n * c ≡ n * c + c = suc-mul n c in
        omega arith

pub sum_add : (n : ℕ) (f g : ℕ → ℕ) → sum n (λ i. f i + g i) ≡ sum n f + sum n g
sum_add zero f g = refl
sum_add (suc n) f g = let k = sum_add n f g in omega arith

pub sum_part : (n : ℕ) (f : ℕ → ℕ) (i : ℕ) → i < n → f i ≤ sum n f
sum_part zero f i l = absurd (let k : ⊥ = omega arith in k)
sum_part (suc n) f i l = go (cases_eq i n) (sum_part n f i)
  where
    go : (i ≡ n) ⊎ (i ≡ n → ⊥) → (i < n → f i ≤ sum n f) → f i ≤ f n + sum n f
    go (inl e) k = let q = ap f e in omega arith
    go (inr d) k = let q = k (omega arith) in omega arith

pub sum_zero : (n : ℕ) (f : ℕ → ℕ) → ((i : ℕ) → i < n → f i ≡ 0) → sum n f ≡ 0
sum_zero zero f h = refl
sum_zero (suc n) f h = let k = sum_zero n f (λ i l. h i (omega arith)) in let m = h n (omega arith) in omega arith

-- one number is at most once below n
pub sum_once : (n k : ℕ) → sum n (λ i. cond (eqb k i) 1 0) ≤ 1
sum_once zero k = omega arith
sum_once (suc n) k = cond_both (eqb k n) 1 0 (λ x. x + sum n (λ i. cond (eqb k i) 1 0) ≤ 1)
    (λ e. let z = sum_zero n (λ i. cond (eqb k i) 1 0) (λ i l. ap (λ (b : Bool). cond {A = ℕ} b 1 0) (ne_eqb k i (λ q. let r = eqb-true k n e in let u : ⊥ = omega arith in u))) in omega arith)
    (λ e. let z = sum_once n k in omega arith)

-- as many times c and m more
pub sum_times : (n c m : ℕ) (f : ℕ → ℕ) → sum n (λ i. c * (m + f i)) ≡ c * (n * m + sum n f)
sum_times zero c m f = rw (zero-mul, mul-zero)
sum_times (suc n) c m f =
    let k = sum_times n c m f in
    let a = mul-add c (n * m) (sum n f) in
    let b = mul-add c (suc n * m) (f n + sum n f) in
    let d = mul-add c (f n) (sum n f) in
    let g = mul-add c m (f n) in
    let h = ap (λ x. c * x) (suc-mul n m) in
    let j = mul-add c (n * m) m in
    omega arith
