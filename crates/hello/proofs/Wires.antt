-- An array of wires that was made of another, wire by wire.
use Rattle.std.proofs.Common.{◌≡◌, ℕ, ◌<◌, Bool, true, false, cond, eqb, ltb, List, length, sym, refl, ltb-false, ltb-true}
use Rattle.messages.specs.Values.{at}
use Rattle.linkmodel.specs.Links.{Wire as Line, Silent as Unheard}
use Rattle.hello.specs.State.{wire_at}
use Rattle.hello.specs.declared.state.Wire.{Wire}
use Rattle.hello.proofs.Tables.{wire_past}

-- what holds of the eight holds everywhere, if a silent wire stays silent
pub everywhere : (f : ℕ → Line → Line) (xs ys : List Wire) → length xs ≡ 8 → length ys ≡ 8 → ((w : ℕ) → f w Unheard ≡ Unheard) → ((w : ℕ) → w < 8 → wire_at ys w ≡ f w (wire_at xs w)) →
    (w : ℕ) → wire_at ys w ≡ f w (wire_at xs w)
everywhere f xs ys l m q s w = go (ltb w 8) refl
  where
    go : (b : Bool) → ltb w 8 ≡ b → wire_at ys w ≡ f w (wire_at xs w)
    go true e = s w (ltb-true w 8 e)
    go false e = rw (wire_past xs w 8 l (ltb-false w 8 e), wire_past ys w 8 m (ltb-false w 8 e)) (sym (q w))

-- a wire without a cost is silent
abbrev pub costed : List ℕ → ℕ → Line → Line
costed costs w x = cond (eqb (at costs w) 0) Unheard x

pub costed_silent : (costs : List ℕ) (w : ℕ) → costed costs w Unheard ≡ Unheard
costed_silent costs w = go (eqb (at costs w) 0)
  where
    go : (b : Bool) → cond b Unheard Unheard ≡ Unheard
    go true = refl
    go false = refl
