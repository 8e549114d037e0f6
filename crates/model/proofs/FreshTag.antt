-- A tag that was never drawn.
use Rattle.std.proofs.Common.{◌≡◌, ℕ, suc, ◌+◌, ◌<◌, false, eqb, List, [], ◌∷◌, refl, arith}
use Rattle.std.proofs.lemmas.Bool.{ne_eqb, or_from}
use Rattle.model.specs.Words.{is_in}

abbrev total : List ℕ → ℕ
total [] = 0
total (x ∷ xs) = x + total xs

above : (t : ℕ) (xs : List ℕ) → total xs < t → is_in t xs ≡ false
unfolding is_in
above t [] h = refl
above t (x ∷ xs) h = or_from (eqb x t) (is_in t xs) (ne_eqb x t (λ q. omega arith)) (above t xs (omega arith))

pub fresh_tag : (xs : List ℕ) → (t : ℕ) × (is_in t xs ≡ false)
fresh_tag xs = (suc (total xs), above (suc (total xs)) xs (omega arith))
