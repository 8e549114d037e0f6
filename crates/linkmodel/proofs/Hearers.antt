-- Whom a box has heard on its wires, and under which numbers, after each input.
use Rattle.std.proofs.Common.{◌≡◌, ℕ, suc, ◌+◌, ◌<◌, true, false, cond, eqb, ltb, ◌⊎◌, List, ◌∷◌, Some, None, Option, sym, refl, ap, ◌∙◌, inl, inr, arith, eqb-true}
use Rattle.model.specs.Words.{is_in}
use Rattle.model.proofs.Tests.{of_cond, or_right}
use Rattle.linkmodel.proofs.Bools.{true_not_false}
use Rattle.linkmodel.specs.Links.{Wire, Silent, Heard, Open, Hello, Links, holds_for, who_on, road_cost, aged, closed_to, greeted, passes, hears_hello, rewired}
use Rattle.linkmodel.specs.Hellos.{accepts}
use Rattle.linkmodel.specs.Station.{open_to, teller}

-- on each wire w only box (to w) was heard
abbrev pub HeardOnly : (ℕ → ℕ) → Links → Type 0
HeardOnly to s = (w f : ℕ) → who_on (s.wire w) ≡ Some f → f ≡ to w

pub nobody : {A : Type 0} (f : ℕ) → None ≡ Some f → A
nobody f e = let z : ◌≡◌ {A = ℕ} 0 1 = cc in absurd (omega arith)

aged_who : (now : ℕ) (x : Wire) (f : ℕ) → who_on (aged now x) ≡ Some f → who_on x ≡ Some f
aged_who now Silent f e = e
aged_who now (Heard g d t) f e = of_cond (λ (y : Wire). who_on y ≡ Some f → Some g ≡ Some f) (ltb (t + holds_for) now) Silent (Heard g d t) (λ _ q. nobody f q) (λ _ q. q) e
aged_who now (Open g d t) f e = of_cond (λ (y : Wire). who_on y ≡ Some f → Some g ≡ Some f) (ltb (t + holds_for) now) Silent (Open g d t) (λ _ q. nobody f q) (λ _ q. q) e

closed_who : (a : ℕ) (x : Wire) → who_on (closed_to a x) ≡ who_on x
closed_who a Silent = refl
closed_who a (Heard g d t) = refl
closed_who a (Open g d t) = of_cond (λ (y : Wire). who_on y ≡ Some g) (eqb g a) (Heard g d t) (Open g d t) (λ _. refl) (λ _. refl)

pub heard_passes : (to : ℕ → ℕ) (s : Links) → HeardOnly to s → HeardOnly to (passes s)
heard_passes to s k w f e = k w f (aged_who (suc s.tick) (s.wire w) f e)

pub heard_rewired : (to : ℕ → ℕ) (c : ℕ → ℕ) (s : Links) → HeardOnly to s → HeardOnly to (rewired c s)
heard_rewired to c s k w f e = of_cond (λ (y : Wire). who_on y ≡ Some f → f ≡ to w) (eqb (c w) 0) Silent (s.wire w) (λ _ q. nobody f q) (λ _ q. k w f q) e

heard_greeted : (to : ℕ → ℕ) (v : ℕ) (h : Hello) (s : Links) → h.from ≡ to v → HeardOnly to s → HeardOnly to (greeted v h s)
heard_greeted to v h s j k w f e =
    of_cond (λ (y : Wire). who_on y ≡ Some f → f ≡ to w) (eqb w v)
    (cond (eqb h.heard s.drawn) (Open h.from h.drawn s.tick) (Heard h.from h.drawn s.tick))
    (cond (eqb (s.last h.from) h.drawn) (s.wire w) (closed_to h.from (s.wire w)))
    (λ q. of_cond (λ (y : Wire). who_on y ≡ Some f → f ≡ to w) (eqb h.heard s.drawn) (Open h.from h.drawn s.tick) (Heard h.from h.drawn s.tick) (λ _ p. here (eqb-true w v q) p) (λ _ p. here (eqb-true w v q) p))
    (λ _. of_cond (λ (y : Wire). who_on y ≡ Some f → f ≡ to w) (eqb (s.last h.from) h.drawn) (s.wire w) (closed_to h.from (s.wire w)) (λ _ p. k w f p) (λ _ p. k w f (sym (closed_who h.from (s.wire w)) ∙ p)))
    e
  where
    here : w ≡ v → Some h.from ≡ Some f → f ≡ to w
    here q p = let g : h.from ≡ f = cc in sym g ∙ (j ∙ ap to (sym q))

pub heard_hears : (to : ℕ → ℕ) (v : ℕ) (h : Hello) (s : Links) → h.from ≡ to v → HeardOnly to s → HeardOnly to (hears_hello v h s)
heard_hears to v h s j k = of_cond (HeardOnly to) (accepts v h s) (greeted v h s) s (λ _. heard_greeted to v h s j k) (λ _. k)

-- who tells on a wire was heard there
pub teller_heard : (w : ℕ) (s : Links) (e : ℕ) → teller w s ≡ Some e → who_on (s.wire w) ≡ Some e
teller_heard w s e q = go (who_on (s.wire w)) q
  where
    go : (o : Option ℕ) → open_to o s ≡ Some e → o ≡ Some e
    go None p = p
    go (Some f) p = of_cond (λ (y : Option ℕ). y ≡ Some e → Some f ≡ Some e) (ltb 0 (road_cost f s)) (Some f) None (λ _ z. z) (λ _ z. nobody e z) p

-- 0, or one of these
abbrev pub Known : ℕ → List ℕ → Type 0
Known d ds = (d ≡ 0) ⊎ (is_in d ds ≡ true)

pub known_more : (c d : ℕ) (ds : List ℕ) → is_in d ds ≡ true → is_in d (c ∷ ds) ≡ true
unfolding is_in
known_more c d ds e = or_right (eqb c d) (is_in d ds) e

pub known_on : (c d : ℕ) (ds : List ℕ) → Known d ds → Known d (c ∷ ds)
known_on c d ds (inl z) = inl z
known_on c d ds (inr e) = inr (known_more c d ds e)

-- a number that was never drawn is none that is known
pub not_known : {A : Type 0} (d : ℕ) (ds : List ℕ) → 0 < d → is_in d ds ≡ false → Known d ds → A
not_known d ds p q (inl z) = absurd (omega arith)
not_known d ds p q (inr e) = true_not_false (is_in d ds) e q

-- the numbers last heard stay known when a hello brings a known one
pub hears_known : (ds : List ℕ) (v : ℕ) (h : Hello) (s : Links) → is_in h.drawn ds ≡ true → ((e : ℕ) → Known (s.last e) ds) → (e : ℕ) → Known ((hears_hello v h s).last e) ds
hears_known ds v h s j k e =
    of_cond (λ (y : Links). Known (y.last e) ds) (accepts v h s) (greeted v h s) s
    (λ _. of_cond (λ (y : ℕ). Known y ds) (eqb e h.from) h.drawn (s.last e) (λ _. inr j) (λ _. k e)) (λ _. k e)

-- a hello leaves the box's own numbers
pub hears_me : (v : ℕ) (h : Hello) (s : Links) → (hears_hello v h s).me ≡ s.me
hears_me v h s = of_cond (λ (y : Links). y.me ≡ s.me) (accepts v h s) (greeted v h s) s (λ _. refl) (λ _. refl)

pub hears_drawn : (v : ℕ) (h : Hello) (s : Links) → (hears_hello v h s).drawn ≡ s.drawn
hears_drawn v h s = of_cond (λ (y : Links). y.drawn ≡ s.drawn) (accepts v h s) (greeted v h s) s (λ _. refl) (λ _. refl)
