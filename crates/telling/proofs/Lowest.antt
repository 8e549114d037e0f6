-- What a box tells is the lowest four places of a number.
use Rattle.std.proofs.Common.{◌≡◌, ℕ, ◌≤◌, not, ◌&&◌, ltb, ap, ◌∙◌, arith, le-ltb, lt-ltb}
use Rattle.bits.specs.Bits.{bit}
use Rattle.bits.proofs.Picks.{pick_short, pick_same}
use Rattle.model.specs.Box.{Box, tells}
use Rattle.model.specs.Code.{pick}

-- the lowest four of these without what e has shown are what it tells e
pub tells_lowest : (e x y : ℕ) (s : Box) → s.n ≤ 64 → ((j : ℕ) → bit x j ≡ (ltb j s.n && ltb 0 (s.word j).number)) → ((j : ℕ) → bit y j ≡ (bit x j && not (s.shown e j))) → pick 64 4 (bit y) 0 ≡ tells e s
tells_lowest e x y s few h w =
    pick_short s.n 64 4 (bit y) 0 few (λ j l. is j ∙ ap (λ b. (b && ltb 0 (s.word j).number) && not (s.shown e j)) (le-ltb j s.n (omega arith)))
    ∙ pick_same s.n 4 (bit y) (λ i. ltb 0 (s.word i).number && not (s.shown e i)) 0
    (λ j g l. is j ∙ ap (λ b. (b && ltb 0 (s.word j).number) && not (s.shown e j)) (lt-ltb j s.n (omega arith)))
  where
    is : (j : ℕ) → bit y j ≡ ((ltb j s.n && ltb 0 (s.word j).number) && not (s.shown e j))
    is j = w j ∙ ap (λ b. b && not (s.shown e j)) (h j)
