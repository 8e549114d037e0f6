-- A word with number 0 is that of nobody: its tag is 0 too.
use Rattle.std.proofs.Common.{◌≡◌, ℕ, List, [], ◌∷◌, refl, ap, sym, ◌∙◌, arith}
use Rattle.model.specs.Words.{Ev, world}
use Rattle.model.specs.Flood.{Item, Setup, Net, Act, spoken, net}
use Rattle.model.specs.Roads.{item_of, acts_of}
use Rattle.model.proofs.Acts.{Does, always}
use Rattle.model.proofs.Kept.{Kept, kept_turn, kept_put, kept_tell, kept_back, kept_start}
use Rattle.model.proofs.RoadsInstance.{roads, roads_are, mirrored}

abbrev Blank : {P : Type 0} → ℕ → Item P → Type 0
Blank i x = x.number ≡ 0 → x.tag ≡ 0

all_blank : {P : Type 0} (s : Setup P) (es : List (Act P)) → Kept Blank (net s es)
all_blank {P} s = always s (λ es. Kept Blank) (kept_start Blank s (λ i e. refl)) step
  where
    step : (e : Act P) (es : List (Act P)) → Kept Blank (net s es) → Does s e (net s es) (Kept Blank)
    step e es k =
        let w : Net P = net s es in
        record {
          stays = k;
          turns = λ a l sp p _ _. kept_turn Blank w a l sp p k;
          speaks = λ a i number t speaks _ _. kept_put Blank w a i (spoken a i number t w) (t ∷ []) (λ z. absurd (omega arith)) k;
          tells = λ a c i _ _ _. kept_tell Blank w a c i k;
          takes = λ m x there _. kept_put Blank w x.to x.about x.item [] (k.flight m x there) k;
          falls = λ a to _ _. kept_back Blank s w a to (λ i e. refl) k;
        }

-- whoever has nothing of i has no tag of it
pub no_tag : (n : ℕ) (es : List Ev) (a i : ℕ) → ((world n es).knows a i).number ≡ 0 → ((world n es).knows a i).tag ≡ 0
no_tag n es a i z =
    let h : (net (roads n) (acts_of n es)).holds a i ≡ item_of ((world n es).knows a i) = (mirrored n (roads n) (roads_are n) es).holds a i in
    sym (ap (λ (x : Item (ℕ → ℕ)). x.tag) h) ∙ (all_blank (roads n) (acts_of n es)).holds a i (ap (λ (x : Item (ℕ → ℕ)). x.number) h ∙ z)
