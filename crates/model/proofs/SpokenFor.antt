-- Nobody has of a subject what was not, at some moment, what a box that spoke for it would say.
use Rattle.std.proofs.Common.{◌≡◌, ℕ, ◌<◌, true, List, [], ◌∷◌, ◌++◌, refl, ap, arith}
use Rattle.model.specs.Flood.{Item, Setup, Net, Act, unspoken, spoken, net}
use Rattle.model.specs.Spread.{SpokenFor}
use Rattle.model.proofs.Acts.{Does, always}
use Rattle.model.proofs.Kept.{Kept, kept_more, kept_turn, kept_put, kept_tell, kept_back, kept_start}

-- among these acts there was a moment when a box that spoke for i would say x
abbrev Said : {P : Type 0} → Setup P → List (Act P) → ℕ → Item P → Type 0
Said {P} s es i x = 0 < x.number → (later : List (Act P)) × (before : List (Act P)) × (speaker : ℕ) × (es ≡ later ++ before) × ((net s before).speaks speaker i ≡ true) × (x.body ≡ (net s before).would speaker i)

said_more : {P : Type 0} (s : Setup P) (e : Act P) (es : List (Act P)) (i : ℕ) (x : Item P) → Said s es i x → Said s (e ∷ es) i x
said_more s e es i x k pos = let (later, before, speaker, split, speaks, is) = k pos in (e ∷ later, before, speaker, ap (λ l. e ∷ l) split, speaks, is)

all_said : {P : Type 0} (s : Setup P) (es : List (Act P)) → Kept (Said s es) (net s es)
all_said {P} s = always s (λ es. Kept (Said s es)) (kept_start (Said s []) s (nothing [])) step
  where
    nothing : (es : List (Act P)) (i : ℕ) → Said s es i (unspoken s)
    nothing es i pos = absurd (omega arith)

    step : (e : Act P) (es : List (Act P)) → Kept (Said s es) (net s es) → Does s e (net s es) (Kept (Said s (e ∷ es)))
    step e es old =
        let w : Net P = net s es in
        let G : ℕ → Item P → Type 0 = Said s (e ∷ es) in
        let k : Kept G w = kept_more (Said s es) G w (said_more s e es) old in
        record {
          stays = k;
          turns = λ a l sp p _ _. kept_turn G w a l sp p k;
          speaks = λ a i number t speaks _ _. kept_put G w a i (spoken a i number t w) (t ∷ []) (λ pos. (e ∷ [], es, a, refl, speaks, refl)) k;
          tells = λ a c i _ _ _. kept_tell G w a c i k;
          takes = λ m x there _. kept_put G w x.to x.about x.item [] (k.flight m x there) k;
          falls = λ a to _ _. kept_back G s w a to (nothing (e ∷ es)) k;
        }

pub spoken_for_lem : (P : Type 0) → SpokenFor P
spoken_for_lem P s es a i pos = (all_said s es).holds a i pos
