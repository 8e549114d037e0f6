-- A sum over few items, each of which gives little.
use Rattle.std.proofs.Common.{◌≡◌, ℕ, ◌+◌, ◌-◌, ◌/◌, ◌<◌, ◌≤◌, Option, arith}
use Rattle.std.specs.List.{fold}
use Rattle.std.specs.Fn.{Mut, Called}
use Rattle.std.specs.declared.iter.Map.{Map}
use Rattle.std.specs.Iterator.Adapters.{map_source, map_callee, map_steps}
use Rattle.std.specs.Iterator.Runs.{WholeRun}
use Rattle.std.proofs.lemmas.Iterator.Adapters.{YieldsAtMost, fits_from_length}

pub sum_below : {S A F : Type 0} {steps : S → Option A → S → Type 0} {s : Map S F} {g : Mut F (A × Unit {0}) ℕ} {r : ℕ} (f : F) (n top : ℕ)
    → WholeRun (map_steps steps g) s (λ p. r ≡ fold (λ a x. a + x) 0 p.items)
    → YieldsAtMost steps (map_source s) n → map_callee s ≡ f → 0 < top → ((x : A) (r : ℕ) (q : F) → Called g f (x, tt) r q → (q ≡ f) × (r ≤ (top - 1) / n)) → r < top
sum_below {g = g} f n top w few e some k = let l = fits_from_length g f n top few e some k w.0 w.0.seen w.1 in omega (arith, l, w.3)
