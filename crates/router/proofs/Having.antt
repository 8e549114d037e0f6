-- The boxes of which a box has a word, as bits that are added one after the other.
use Rattle.std.proofs.Common.{◌≡◌, ℕ, zero, suc, ◌+◌, ◌≤◌, Bool, true, false, cond, ◌&&◌, ◌||◌, eqb, ltb, leb, List, [], ◌∷◌, ◌++◌, filter, Option, refl, sym, ap, ap₂, ◌∙◌, arith, eqb-true, ltb-true, lt-ltb, le-leb, zero-le}
use mathlib.Core.Bool.{and-false}
use denote.Param.Members.{Mut}
use Rattle.std.specs.Fn.{Called}
use Rattle.std.specs.Iterator.{Drains}
use Rattle.std.specs.List.{FoldsTo, list_any, range_with_len}
use Rattle.std.proofs.lemmas.Fn.{fold_over}
use Rattle.std.proofs.lemmas.Iterator.{YieldsList}
use Rattle.std.proofs.lemmas.Bool.Decides.{nat_tests}
use Rattle.bits.specs.Bits.{bit}
use Rattle.bits.proofs.OfBits.{bit_none}

any_after : (p : ℕ → Bool) (xs : List ℕ) (x : ℕ) → list_any p (xs ++ x ∷ []) ≡ (p x || list_any p xs)
any_after p [] x = refl
any_after p (y ∷ ys) x = ap (λ b. p y || b) (any_after p ys x) ∙ swap (p y) (p x) (list_any p ys)
  where
    swap : (a b c : Bool) → (a || (b || c)) ≡ (b || (a || c))
    swap true true c = refl
    swap true false c = refl
    swap false b c = refl

-- where each call adds a place, those below 64 that were given are there
pub bits_folded :
    {S F : Type 0} {steps : S → Option ℕ → S → Type 0} (g : Mut F (ℕ × (ℕ × Unit {0})) ℕ) (f : F) (s : S) (all : List ℕ) (r : ℕ) →
    (xs : List ℕ) × (q : F) × Drains steps s xs × FoldsTo {P = F × ℕ} (λ p x q. Called g p.0 (p.1, (x, tt)) q.1 q.0) (f, 0) xs (q, r) → YieldsList steps (λ x. x) s all →
    ((a x b : ℕ) (q : F) → Called g f (a, (x, tt)) b q → ((j : ℕ) → bit b j ≡ ((eqb j x && ltb x 64) || bit a j)) × (q ≡ f)) → (j : ℕ) → bit r j ≡ (ltb j 64 && list_any (eqb j) all)
bits_folded {steps = steps} g f s all r ran road adds =
    fold_over steps (λ x. x) g (λ is a. (j : ℕ) → bit a j ≡ (ltb j 64 && list_any (eqb j) is)) f
    (λ is a x b q h k. let w = adds a x b q k in ((λ j. w.0 j ∙ ap (λ c. (eqb j x && ltb x 64) || c) (h j) ∙ more j x (list_any (eqb j) is) ∙ sym (ap (λ c. ltb j 64 && c) (any_after (eqb j) is x))), w.1))
    s all 0 r road.runs (λ j. bit_none j ∙ sym (and-false (ltb j 64))) ran
  where
    more : (j x : ℕ) (c : Bool) → ((eqb j x && ltb x 64) || (ltb j 64 && c)) ≡ (ltb j 64 && (eqb j x || c))
    more j x c = go (eqb j x) refl
      where
        go : (b : Bool) → eqb j x ≡ b → ((b && ltb x 64) || (ltb j 64 && c)) ≡ (ltb j 64 && (b || c))
        go true e = rw (eqb-true j x e) (here (ltb x 64))
          where
            here : (a : Bool) → (a || (a && c)) ≡ (a && true)
            here true = refl
            here false = refl
        go false e = refl

at_least : (j k : ℕ) → eqb j k ≡ true → leb k j ≡ true
at_least j k e = grind (arith, nat_tests)

not_over : (j k : ℕ) → eqb j k ≡ true → leb (k + 1) j ≡ false
not_over j k e = grind (arith, nat_tests)

over : (j k : ℕ) → eqb j k ≡ false → leb (k + 1) j ≡ leb k j
over j k e = grind (arith, nat_tests)

within : (j k n : ℕ) → eqb j k ≡ true → ltb j (k + suc n) ≡ true
within j k n e = let z = eqb-true j k e in lt-ltb j (k + suc n) (omega arith)

-- of n numbers from k on that pass, j is one just where it is one of these and passes
passing : (n k j : ℕ) (p : ℕ → Bool) → list_any (eqb j) (filter p (range_with_len k n)) ≡ (leb k j && (ltb j (k + n) && p j))
passing zero k j p = none k j (p j)
  where
    none : (k j : ℕ) (b : Bool) → false ≡ (leb k j && (ltb j (k + 0) && b))
    none k j b = grind (arith, nat_tests)
passing (suc n) k j p = go (passing n (k + 1) j p) (p k) refl (eqb j k) refl
  where
    R : List ℕ
    R = filter p (range_with_len (k + 1) n)

    rest : list_any (eqb j) R ≡ (leb (k + 1) j && (ltb j ((k + 1) + n) && p j)) → list_any (eqb j) R ≡ (leb (k + 1) j && (ltb j (k + suc n) && p j))
    rest h = let e : (k + 1) + n ≡ k + suc n = omega arith in h ∙ ap (λ (m : ℕ). leb (k + 1) j && (ltb j m && p j)) e

    other : eqb j k ≡ false → (leb (k + 1) j && (ltb j (k + suc n) && p j)) ≡ (leb k j && (ltb j (k + suc n) && p j))
    other q = ap (λ c. c && (ltb j (k + suc n) && p j)) (over j k q)

    this : eqb j k ≡ true → (leb k j && (ltb j (k + suc n) && p j)) ≡ p k
    this q = ap₂ (λ c d. c && (d && p j)) (at_least j k q) (within j k n q) ∙ ap p (eqb-true j k q)

    go : list_any (eqb j) R ≡ (leb (k + 1) j && (ltb j ((k + 1) + n) && p j)) → (a : Bool) → p k ≡ a → (b : Bool) → eqb j k ≡ b → list_any (eqb j) (cond a (k ∷ R) R) ≡ (leb k j && (ltb j (k + suc n) && p j))
    go h true e true q = ap (λ c. c || list_any (eqb j) R) q ∙ sym (this q ∙ e)
    go h true e false q = ap (λ c. c || list_any (eqb j) R) q ∙ rest h ∙ other q
    go h false e true q = rest h ∙ ap (λ c. c && (ltb j (k + suc n) && p j)) (not_over j k q) ∙ sym (this q ∙ e)
    go h false e false q = rest h ∙ other q

pub had_bits : (n j : ℕ) (p : ℕ → Bool) → n ≤ 64 → (ltb j 64 && list_any (eqb j) (filter p (range_with_len 0 n))) ≡ (ltb j n && p j)
had_bits n j p h = ap (λ b. ltb j 64 && b) (passing n 0 j p ∙ all (0 + n) (omega arith)) ∙ go (ltb j n) refl
  where
    all : (m : ℕ) → m ≡ n → (leb 0 j && (ltb j m && p j)) ≡ (ltb j n && p j)
    all m e = ap₂ (λ b (i : ℕ). b && (ltb j i && p j)) (le-leb 0 j zero-le) e

    go : (b : Bool) → ltb j n ≡ b → (ltb j 64 && (b && p j)) ≡ (b && p j)
    go true e = let l = ltb-true j n e in ap (λ b. b && p j) (lt-ltb j 64 (omega arith))
    go false e = and-false (ltb j 64)
