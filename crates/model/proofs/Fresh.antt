-- The order of items by `fresher`: irreflexive, transitive, and total up to number and tag; and the freshest among some.
use Rattle.std.proofs.Common.{◌≡◌, ℕ, zero, suc, ◌<◌, ◌≤◌, true, false, ◌⊎◌, inl, inr, ⊎_elim, arith}
use Rattle.std.proofs.lemmas.Bool.{cases_Bool}
use Rattle.std.proofs.lemmas.Bool.Decides.{nat_tests}
use Rattle.model.specs.Flood.{Item, fresher}
use Rattle.model.proofs.Below.{below_suc}

pub fresher_self : {P : Type 0} (x : Item P) → fresher x x ≡ false
fresher_self x = grind (arith, nat_tests)

pub fresher_trans : {P : Type 0} (x y z : Item P) → fresher x y ≡ true → fresher y z ≡ true → fresher x z ≡ true
fresher_trans x y z h k = grind (arith, nat_tests)

-- not fresher than what isn't fresher
pub upto_trans : {P : Type 0} (x y z : Item P) → fresher x y ≡ false → fresher y z ≡ false → fresher x z ≡ false
upto_trans x y z h k = grind (arith, nat_tests)

-- fresher than z, but not than y: so y is
pub fresher_upto : {P : Type 0} (x y z : Item P) → fresher x z ≡ true → fresher x y ≡ false → fresher y z ≡ true
fresher_upto x y z h k = grind (arith, nat_tests)

-- fresher than something that isn't older than z
pub fresher_over : {P : Type 0} (x y z : Item P) → fresher x y ≡ true → fresher z y ≡ false → fresher x z ≡ true
fresher_over x y z h k = grind (arith, nat_tests)

-- of two items at most one is fresher than the other
pub not_both : {P : Type 0} (x y : Item P) → fresher x y ≡ true → fresher y x ≡ false
not_both x y h = grind (arith, nat_tests)

-- neither is fresher: same number and tag
pub same_both : {P : Type 0} (x y : Item P) → fresher x y ≡ false → fresher y x ≡ false → (x.number ≡ y.number) × (x.tag ≡ y.tag)
same_both x y h k = (grind (arith, nat_tests), grind (arith, nat_tests))

-- a larger number is fresher
pub number_fresher : {P : Type 0} (x y : Item P) → y.number < x.number → fresher x y ≡ true
number_fresher x y h = grind (arith, nat_tests)

-- and what is fresher has no smaller one
pub fresher_number : {P : Type 0} (x y : Item P) → fresher x y ≡ true → y.number ≤ x.number
fresher_number x y h = grind (arith, nat_tests)

-- an A with the freshest item below n, or no A
abbrev pub Freshest : {P : Type 0} → (ℕ → Type 0) → (ℕ → Item P) → ℕ → Type 0
Freshest A h n = (a : ℕ) × (a < n) × A a × ((p : ℕ) → p < n → A p → fresher (h p) (h a) ≡ false)

pub freshest : {P : Type 0} (n : ℕ) (A : ℕ → Type 0) (h : ℕ → Item P) → ((p : ℕ) → A p ⊎ (A p → ⊥)) → Freshest A h n ⊎ ((p : ℕ) → p < n → A p → ⊥)
freshest zero A h d = inr (λ p l a. omega arith)
freshest (suc n) A h d = ⊎_elim (λ r. ⊎_elim (more r) (λ x. inl (less r x)) (d n)) (λ none. ⊎_elim (λ y. inl (first none y)) (λ x. inr (below_suc (λ p. A p → ⊥) n none x)) (d n)) (freshest n A h d)
  where
    Rule : ℕ → ℕ → Type 0
    Rule b p = A p → fresher (h p) (h b) ≡ false

    less : Freshest A h n → (A n → ⊥) → Freshest A h (suc n)
    less r x = (r.0, omega arith, r.2, below_suc (Rule r.0) n r.3 (λ y. absurd (x y)))

    first : ((p : ℕ) → p < n → A p → ⊥) → A n → Freshest A h (suc n)
    first none y = (n, omega arith, y, below_suc (Rule n) n (λ p l z. absurd (none p l z)) (λ z. fresher_self (h n)))

    more : Freshest A h n → A n → Freshest A h (suc n) ⊎ ((p : ℕ) → p < suc n → A p → ⊥)
    more r y = ⊎_elim (λ e. inl (n, omega arith, y, below_suc (Rule n) n (λ p l z. upto_trans (h p) (h r.0) (h n) (r.3 p l z) (not_both (h n) (h r.0) e)) (λ z. fresher_self (h n))))
        (λ e. inl (r.0, omega arith, r.2, below_suc (Rule r.0) n r.3 (λ z. e))) (cases_Bool (fresher (h n) (h r.0)))
