-- The lowest bit that is 1: where it stands, and what is left without it.
use Rattle.std.proofs.Common.{◌≡◌, ℕ, zero, suc, ◌+◌, ◌-◌, ◌*◌, ◌/◌, ◌%◌, ◌^◌, ◌<◌, min, true, false, not, ◌&&◌, eqb, [], ◌∷◌, sym, refl, ap, ◌∙◌, ap₂, suc-le-suc, zero-le, le_of_suc-le-suc, add-zero, zero-lt-suc, pow-suc, arith}
use mathlib.Core.Bool.{and-true}
use lib.Bits.{bit_and, and_step, and_self}
use lib.Count.{count_trailing_zeros, under}
use lib.Dec.{eqb-suc-zero, eqb-suc-suc}
use Rattle.model.specs.Code.{pick}
use Rattle.bits.specs.Bits.{bit}
use Rattle.bits.proofs.OfBits.{bit_lowest, bit_next, bit_none}
use Rattle.bits.proofs.Picks.{pick_first, pick_none}

-- t is the lowest place of x, and y has the others
pub record Lowest (w x y t : ℕ) : Type 0 where
  pub inside : t < w
  pub there : bit x t ≡ true
  pub below : (j : ℕ) → j < t → bit x j ≡ false
  pub others : (j : ℕ) → bit y j ≡ (bit x j && not (eqb j t))

-- the bits of a double
double_lowest : (y z : ℕ) → y ≡ z * 2 → bit y 0 ≡ false
double_lowest y z e = let digit : y % 2 ≡ 0 = omega arith in bit_lowest y ∙ ap (λ (d : ℕ). eqb d 1) digit

double_next : (y z j : ℕ) → y ≡ z * 2 → bit y (suc j) ≡ bit z j
double_next y z j e = let half : y / 2 ≡ z = omega arith in bit_next y j ∙ ap (λ (h : ℕ). bit h j) half

-- at an odd number it is place 0
odd : (w x y : ℕ) → x % 2 ≡ 1 → y ≡ x / 2 * 2 → Lowest (suc w) x y 0
odd w x y e q = record { inside = zero-lt-suc w; there = there; below = λ j l. absurd (omega arith); others = others }
  where
    there : bit x 0 ≡ true
    there = bit_lowest x ∙ ap (λ (d : ℕ). eqb d 1) e

    others : (j : ℕ) → bit y j ≡ (bit x j && not (eqb j 0))
    others zero = double_lowest y (x / 2) q ∙ sym (ap (λ b. b && false) there)
    others (suc j) = double_next y (x / 2) j q ∙ sym (ap₂ (λ b c. b && not c) (bit_next x j) (eqb-suc-zero j) ∙ and-true (bit (x / 2) j))

-- at an even one it is one place above that of the half
even : (w x y z t : ℕ) → x % 2 ≡ 0 → y ≡ z * 2 → Lowest w (x / 2) z t → Lowest (suc w) x y (suc t)
even w x y z t e q h = record { inside = suc-le-suc h.inside; there = bit_next x t ∙ h.there; below = below; others = others }
  where
    none : bit x 0 ≡ false
    none = bit_lowest x ∙ ap (λ (d : ℕ). eqb d 1) e

    below : (j : ℕ) → j < suc t → bit x j ≡ false
    below zero l = none
    below (suc j) l = bit_next x j ∙ h.below j (le_of_suc-le-suc l)

    others : (j : ℕ) → bit y j ≡ (bit x j && not (eqb j (suc t)))
    others zero = double_lowest y z q ∙ sym (ap (λ b. b && not (eqb 0 (suc t))) none)
    others (suc j) = double_next y z j q ∙ h.others j ∙ sym (ap₂ (λ b c. b && not c) (bit_next x j) (eqb-suc-suc j t))

-- x & (x - 1) of an odd x, and of an even one
less_odd : (x : ℕ) → x % 2 ≡ 1 → bit_and x (x - 1) ≡ x / 2 * 2
less_odd x e =
    let hi : (x - 1) / 2 ≡ x / 2 = omega arith in
    let lo : (x - 1) % 2 ≡ 0 = omega arith in
    and_step x (x - 1) ∙ ap₂ (λ (p q : ℕ). bit_and (x / 2) p * 2 + min (x % 2) q) hi lo ∙ ap₂ (λ (p q : ℕ). p * 2 + min q 0) (and_self (x / 2)) e
    ∙ add-zero (x / 2 * 2)

less_even : (x : ℕ) → 0 < x → x % 2 ≡ 0 → bit_and x (x - 1) ≡ bit_and (x / 2) (x / 2 - 1) * 2
less_even x p e =
    let hi : (x - 1) / 2 ≡ x / 2 - 1 = omega arith in
    let lo : (x - 1) % 2 ≡ 1 = omega arith in
    and_step x (x - 1) ∙ ap₂ (λ (p q : ℕ). bit_and (x / 2) p * 2 + min (x % 2) q) hi lo ∙ ap (λ (q : ℕ). bit_and (x / 2) (x / 2 - 1) * 2 + min q 1) e
    ∙ add-zero (bit_and (x / 2) (x / 2 - 1) * 2)

-- count_trailing_zeros finds it, and x & (x - 1) takes it away
pub lowest : (w x : ℕ) → 0 < x → x < 2 ^ w → Lowest w x (bit_and x (x - 1)) (count_trailing_zeros w x)
unfolding count_trailing_zeros
lowest zero x p h = absurd (omega arith)
lowest (suc w) x p h = go (x % 2) refl (λ q. lowest w (x / 2) q (omega (arith, pow-suc 2 w)))
  where
    go : (d : ℕ) → x % 2 ≡ d → (0 < x / 2 → Lowest w (x / 2) (bit_and (x / 2) (x / 2 - 1)) (count_trailing_zeros w (x / 2))) → Lowest (suc w) x (bit_and x (x - 1)) (under d (count_trailing_zeros w (x / 2)))
    go zero e half = even w x (bit_and x (x - 1)) (bit_and (x / 2) (x / 2 - 1)) (count_trailing_zeros w (x / 2)) e (less_even x p e) (half (omega arith))
    go (suc zero) e half = odd w x (bit_and x (x - 1)) e (less_odd x e)
    go (suc (suc d)) e half = absurd (omega arith)

-- the first of the places of x, and then those that are left
pub pick_lowest : (w k x : ℕ) → 0 < x → x < 2 ^ w → pick w (suc k) (bit x) 0 ≡ count_trailing_zeros w x ∷ pick w k (bit (bit_and x (x - 1))) 0
pick_lowest w k x p h =
    let l = lowest w x p h in
    pick_first w k (bit x) (bit (bit_and x (x - 1))) 0 (count_trailing_zeros w x) zero-le (omega (arith, l.inside)) l.there l.below l.others

-- 0 has no place
pub pick_empty : (w k : ℕ) → pick w k (bit 0) 0 ≡ []
pick_empty w k = pick_none w k (bit 0) 0 (λ j l. bit_none j)
