-- Lists of numbers and of wires as functions of a place.
use Rattle.std.proofs.Common.{◌≡◌, ℕ, zero, suc, ◌≤◌, List, length, replicate, refl, ap}
use lib.ListN.{get_or-eq_default}
use Rattle.linkmodel.specs.Links.{Silent as Unheard}
use Rattle.hello.specs.State.{wire_of, wire_at}
use Rattle.hello.specs.declared.state.Wire.{Wire}
use Rattle.hello.specs.declared.state.Wire.TheVariants.{Silent}

-- n silent wires are silent everywhere
pub all_silent : (n i : ℕ) → wire_at (replicate n Silent) i ≡ Unheard
all_silent zero i = refl
all_silent (suc n) zero = refl
all_silent (suc n) (suc i) = all_silent n i

-- and past its end a list of wires is silent
pub wire_past : (xs : List Wire) (i k : ℕ) → length xs ≡ k → k ≤ i → wire_at xs i ≡ Unheard
wire_past xs i k l h = ap wire_of (get_or-eq_default xs Silent (rw l h))
