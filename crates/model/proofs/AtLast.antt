-- Endless runs: the first so many acts in two parts, and a count that is bounded rises no more at last.
use Rattle.std.proofs.Common.{◌≡◌, ℕ, zero, suc, ◌+◌, ◌-◌, ◌≤◌, ◌∷◌, ◌++◌, ap, ◌∙◌, add-zero, add-suc, zero-add, arith}
use Rattle.model.specs.Spread.{between}

pub between_join : {A : Type 0} (run : ℕ → A) (k m : ℕ) → between run 0 (k + m) ≡ between run k m ++ between run 0 k
unfolding between
between_join run k zero = ap (λ n. between run 0 n) (add-zero k)
between_join run k (suc m) = ap (λ n. between run 0 n) (add-suc k m) ∙ ap (λ n. run n ∷ between run 0 (k + m)) (zero-add (k + m)) ∙ ap (λ l. run (k + m) ∷ l) (between_join run k m)

-- if R holds of each moment after which the count f stays for so long, it can't be that R doesn't hold from some moment on
pub at_last : (f : ℕ → ℕ) (most : ℕ) (R : ℕ → Type 0) → ((k : ℕ) → f k ≤ most) → ((k m : ℕ) → f k ≤ f (k + m)) → ((k : ℕ) → (m : ℕ) × (f (k + m) ≡ f k → R k)) →
    ((first : ℕ) × ((k : ℕ) → first ≤ k → R k) → ⊥) → ⊥
at_last f most R below grows still never = reach (suc most) (λ p. let h = below p.0 in let g = p.1 in let z : ⊥ = omega arith in z)
  where
    -- when no moment has more than j it holds from the first that has j
    from_on : (j n : ℕ) → j ≤ f n → ((m : ℕ) × (suc j ≤ f m) → ⊥) → (k : ℕ) → n ≤ k → R k
    from_on j n h stop k l =
        let q = still k in
        let e : n + (k - n) ≡ k = omega arith in
        let a = grows n (k - n) in
        let b = ap f e in
        let c : ¬ (suc j ≤ f (k + q.0)) = λ g. stop (k + q.0, g) in
        let d = grows k q.0 in
        q.1 (omega arith)

    reach : (j : ℕ) → ((m : ℕ) × (j ≤ f m) → ⊥) → ⊥
    reach zero stop = stop (0, omega arith)
    reach (suc j) stop = reach j (λ p. never (p.0, from_on j p.0 p.1 stop))
