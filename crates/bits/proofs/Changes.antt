-- The bits of a number of w bits that a place is added to, or that others are taken from.
use Rattle.std.proofs.Common.{◌≡◌, ℕ, ◌-◌, ◌*◌, ◌%◌, ◌^◌, ◌<◌, ◌≤◌, Bool, true, false, not, ◌&&◌, ◌||◌, eqb, ltb, sym, refl, ap, ◌∙◌, subst, ltb-false, le-ltb, lt-ltb, eqb-true}
use mathlib.Core.Bool.{and-true, and-false, or_comm}
use lib.Bits.{bit_and, bit_or}
use Rattle.std.proofs.lemmas.Nat.{one_shl}
use Rattle.bits.specs.Bits.{bit}
use Rattle.bits.proofs.OfBits.{bit_and_lem, bit_or_lem, bit_power, bit_other, bit_past}

-- a place inside is added
pub bit_added : (w x i j : ℕ) → i < w → bit (bit_or x ((1 * 2 ^ i) % 2 ^ w)) j ≡ ((eqb j i && ltb i w) || bit x j)
bit_added w x i j h =
    ap (λ (y : ℕ). bit (bit_or x y) j) (one_shl i w h) ∙ bit_or_lem x (2 ^ i) j ∙ ap (λ b. bit x j || b) (bit_power i j)
    ∙ or_comm (bit x j) (eqb j i) ∙ sym (ap (λ b. (eqb j i && b) || bit x j) (lt-ltb i w h) ∙ ap (λ b. b || bit x j) (and-true (eqb j i)))

-- a place outside is not
pub bit_not_added : (w x i j : ℕ) → w ≤ i → bit x j ≡ ((eqb j i && ltb i w) || bit x j)
bit_not_added w x i j h = sym (ap (λ b. (eqb j i && b) || bit x j) (le-ltb i w h) ∙ ap (λ b. b || bit x j) (and-false (eqb j i)))

-- those of y are taken away
pub bit_less : (w x y j : ℕ) → x < 2 ^ w → y < 2 ^ w → bit (bit_and x (2 ^ w - 1 - y)) j ≡ (bit x j && not (bit y j))
bit_less w x y j h k = bit_and_lem x (2 ^ w - 1 - y) j ∙ ap (λ b. bit x j && b) (bit_other w y j k) ∙ go (ltb j w) refl
  where
    go : (b : Bool) → ltb j w ≡ b → (bit x j && (b && not (bit y j))) ≡ (bit x j && not (bit y j))
    go true e = refl
    go false e = let none = bit_past w x j h (ltb-false j w e) in ap (λ b. b && false) none ∙ sym (ap (λ b. b && not (bit y j)) none)

-- a place outside takes nothing away
pub bit_not_less : (w x i j : ℕ) → x < 2 ^ w → w ≤ i → bit x j ≡ (bit x j && not (eqb j i))
bit_not_less w x i j h l = go (eqb j i) refl
  where
    go : (b : Bool) → eqb j i ≡ b → bit x j ≡ (bit x j && not b)
    go true e =
        let none = bit_past w x j h (subst (λ (k : ℕ). w ≤ k) (sym (eqb-true j i e)) l) in
        none ∙ sym (and-false (bit x j))
    go false e = sym (and-true (bit x j))
