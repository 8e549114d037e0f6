-- Who owes an item: who speaks, and has not said what it would say.
use Rattle.std.proofs.Common.{◌≡◌, ℕ, ◌<◌, Bool, true, false, not, ◌&&◌, ◌||◌, ltb, sym, refl, ap, ◌∙◌, subst, arith}
use Rattle.std.proofs.lemmas.Bool.{lt-ltb, and_left}
use Rattle.model.specs.Flood.{Item, Setup, Net, spoken}
use Rattle.model.specs.Spread.{owes}
use Rattle.model.proofs.Tests.{true_not_false}

-- who speaks (or doesn't), has x, and would say p, owes
abbrev pub owe : {P : Type 0} → Setup P → Bool → Item P → P → Bool
owe s b x p = b && not (s.same x.body p && (s.mute p || ltb 0 x.number))

-- who owes hangs on who speaks, what it has, and what it would say
pub owes_same : {P : Type 0} (s : Setup P) (w v : Net P) (p i : ℕ) → v.speaks ≡ w.speaks → v.would ≡ w.would → v.holds p i ≡ w.holds p i → owes s v p i ≡ owes s w p i
owes_same s w v p i a b c =
    ap (λ sp. owe s (sp p i) (v.holds p i) (v.would p i)) a ∙ ap (λ x. owe s (w.speaks p i) x (v.would p i)) c ∙ ap (λ wd. owe s (w.speaks p i) (w.holds p i) (wd p i)) b

-- who doesn't speak owes nothing
pub silent_owes : {P : Type 0} (s : Setup P) (w : Net P) (p i : ℕ) → w.speaks p i ≡ false → owes s w p i ≡ false
silent_owes s w p i h = and_left (w.speaks p i) (not (s.same (w.holds p i).body (w.would p i) && (s.mute (w.would p i) || ltb 0 (w.holds p i).number))) h

-- who says what it would say owes nothing
pub owe_none : {P : Type 0} (s : Setup P) (b : Bool) (y : Item P) (p : P) → y.body ≡ p → 0 < y.number → owe s b y p ≡ false
owe_none s false y p e h = refl
owe_none s true y p e h = three (s.same y.body p) (s.mute p) (ltb 0 y.number) (subst (λ q. s.same q p ≡ true) (sym e) (s.same_self p)) (lt-ltb 0 y.number h)
  where
    three : (a m c : Bool) → a ≡ true → c ≡ true → not (a && (m || c)) ≡ false
    three true true c u v = refl
    three true false c u v = ap not v
    three false m c u v = true_not_false false u refl

-- who has just said owes nothing
pub said_owes : {P : Type 0} (s : Setup P) (w v : Net P) (e i m t : ℕ) → v.would ≡ w.would → v.holds e i ≡ spoken e i m t w → owes s v e i ≡ false
said_owes {P} s w v e i m t a b = owe_none s (v.speaks e i) (v.holds e i) (v.would e i) (ap (λ (x : Item P). x.body) b ∙ ap (λ wd. wd e i) (sym a)) (subst (λ (x : Item P). 0 < x.number) (sym b) (omega arith))
