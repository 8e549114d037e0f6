-- Tables of which one place is replaced.
use Rattle.std.proofs.Common.{◌≡◌, ℕ, Bool, false, cond, ◌&&◌, eqb, refl, ap, ◌∙◌, ap₂}
use Rattle.std.proofs.lemmas.Bool.{eqb-true, eq-eqb, ne_eqb, and_from, and_right, cond-true, cond-false}
use Rattle.model.specs.Words.{at2}
use Rattle.model.specs.Flood.{row}
use Rattle.model.proofs.Tests.{of_cond, and_first, and_second}

-- in a row that is another's nothing changes
pub row_else : {A : Type 0} (b j p q : ℕ) (x : A) (f : ℕ → ℕ → A) → eqb p b ≡ false → at2 b j x f p q ≡ f p q
row_else b j p q x f h = ap (λ (c : Bool). cond (c && eqb q j) x (f p q)) h

-- in the row itself it is as in a table of one row
pub row_here : {A : Type 0} (a j q : ℕ) (x : A) (f : ℕ → ℕ → A) → at2 a j x f a q ≡ row j x (f a) q
row_here a j q x f = ap (λ (c : Bool). cond (c && eqb q j) x (f a q)) (eq-eqb a a refl)

-- a table of one row with the same in it
pub row_same : {A : Type 0} (i j q : ℕ) (x y : A) (f g : ℕ → A) → i ≡ j → x ≡ y → f q ≡ g q → row i x f q ≡ row j y g q
row_same i j q x y f g p r h = ap₂ (λ (k : ℕ) (z : _). cond (eqb q k) z (f q)) p r ∙ ap (λ (z : _). cond (eqb q j) y z) h

-- what is so of each place is so after one place changed
pub of_at2 : {A : Type 0} (Q : ℕ → ℕ → A → Type 0) (f : ℕ → ℕ → A) (b j : ℕ) (x : A) → Q b j x → ((a i : ℕ) → Q a i (f a i)) → (a i : ℕ) → Q a i (at2 b j x f a i)
of_at2 Q f b j x g h a i = of_cond (Q a i) (eqb a b && eqb i j) x (f a i)
    (λ e. let p : a ≡ b = eqb-true a b (and_first (eqb a b) (eqb i j) e) in let q : i ≡ j = eqb-true i j (and_second (eqb a b) (eqb i j) e) in rw (p, q) g) (λ e. h a i)

-- the place itself, another of its column, and one of another column
pub at2_here : {A : Type 0} (e i : ℕ) (x : A) (f : ℕ → ℕ → A) → at2 e i x f e i ≡ x
at2_here e i x f = cond-true (eqb e e && eqb i i) x (f e i) (and_from (eqb e e) (eqb i i) (eq-eqb e e refl) (eq-eqb i i refl))

pub at2_there : {A : Type 0} (e i : ℕ) (x : A) (f : ℕ → ℕ → A) (p : ℕ) → (p ≡ e → ⊥) → at2 e i x f p i ≡ f p i
at2_there e i x f p h = row_else e i p i x f (ne_eqb p e h)

pub at2_other : {A : Type 0} (e i : ℕ) (x : A) (f : ℕ → ℕ → A) (p j : ℕ) → (j ≡ i → ⊥) → at2 e i x f p j ≡ f p j
at2_other e i x f p j h = cond-false (eqb p e && eqb j i) x (f p j) (and_right (eqb p e) (eqb j i) (ne_eqb j i h))
