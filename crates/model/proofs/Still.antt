-- What isn't newer changes nothing, and nothing comes where nothing was sent.
use Rattle.std.proofs.Common.{◌≡◌, ℕ, false, cond, eqb, [], ◌∷◌, refl}
use Rattle.std.proofs.lemmas.Bool.{cond-false}
use Rattle.model.specs.Words.{Word, World, newer, told, comes_nth, with_knows, at2, own_entry}

pub not_newer : (x : Word) (t : ℕ) (w : World) → newer x.entry (w.knows x.to x.about) ≡ false → told x t w ≡ w
not_newer x t w h = cond-false (newer x.entry (w.knows x.to x.about)) (cond (eqb x.to x.about) (with_knows (at2 x.to x.to (own_entry x.to x.entry.number t w) w.knows) (t ∷ []) w) (with_knows (at2 x.to x.about x.entry w.knows) [] w)) w h

pub none_comes : (i t : ℕ) (w : World) → comes_nth i t [] w ≡ w
unfolding comes_nth
none_comes i t w = refl
