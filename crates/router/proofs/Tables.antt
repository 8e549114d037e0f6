-- Lists of numbers, and lists of such lists, as functions of a place.
use Rattle.std.proofs.Common.{◌≡◌, ℕ, ◌<◌, ◌≤◌, Bool, true, false, cond, eqb, List, length, get_or, set, refl, ap, ◌∙◌, get_or-set_other, get_or-set_same, eqb-true}
use lib.ListN.{get_or-eq_default}
use borrow.Author.Tests.{eqb-false}
use Rattle.bits.specs.Bits.{bit}
use Rattle.bits.proofs.OfBits.{bit_none}
use Rattle.messages.specs.Values.{at}
use Rattle.model.specs.Flood.{row}

-- past its end a list is 0
pub at_past : (xs : List ℕ) (i k : ℕ) → length xs ≡ k → k ≤ i → at xs i ≡ 0
at_past xs i k l h = get_or-eq_default xs 0 (rw l h)

-- no bit is set past the end of a list
pub bit_at_past : (xs : List ℕ) (e j k : ℕ) → length xs ≡ k → k ≤ e → bit (at xs e) j ≡ false
bit_at_past xs e j k l h = ap (λ (x : ℕ). bit x j) (at_past xs e k l h) ∙ bit_none j

-- one element replaced
pub get_or_row : {A : Type 0} (xs : List A) (i k : ℕ) (v d : A) → length xs ≡ k → i < k → (p : ℕ) → get_or (set xs i v) p d ≡ row i v (λ q. get_or xs q d) p
get_or_row xs i k v d l h p = go (eqb p i) refl
  where
    go : (b : Bool) → eqb p i ≡ b → get_or (set xs i v) p d ≡ cond b v (get_or xs p d)
    go true e = rw (eqb-true p i e) (get_or-set_same xs i v d (rw l h))
    go false e = get_or-set_other xs i p v d (eqb-false p i e)

-- one row of bits replaced
pub bit_row : (xs : List ℕ) (i k v : ℕ) (f : ℕ → Bool) → length xs ≡ k → i < k → ((j : ℕ) → bit v j ≡ f j) → (p j : ℕ) → bit (at (set xs i v) p) j ≡ row i f (λ q h. bit (at xs q) h) p j
bit_row xs i k v f l h e p j = ap (λ (x : ℕ). bit x j) (get_or_row xs i k v 0 l h p) ∙ go (eqb p i)
  where
    go : (b : Bool) → bit (cond b v (at xs p)) j ≡ cond b f (λ h. bit (at xs p) h) j
    go true = e j
    go false = refl
