-- Links are sound: at first, and after each input.
use Rattle.std.proofs.Common.{◌≡◌, ℕ, suc, ◌<◌, cond, eqb, ◌⊎◌, List, [], ◌∷◌, sym, refl, ap, ◌∙◌, subst, inl, inr, arith, eq-eqb, eqb-true}
use Rattle.model.specs.Flood.{row}
use Rattle.model.proofs.Tests.{of_cond, cond-true}
use Rattle.linkmodel.specs.Links.{Wire, Silent, Heard, Open, Hello, Links, aged, closed_to, greeted, fresh, passes, hears_hello, rewired, fell}
use Rattle.linkmodel.specs.Hellos.{Input, Passes, Hears, Rewires, Fell, meets, links_after, accepts}
use Rattle.linkmodel.specs.Relinked.{Sound}
use Rattle.linkmodel.proofs.Wires.{shut_wire, aged_open, Taken, accepted, row_at, row_off, OpenedBy, OpenBefore, greeted_open}

pub sound_fresh : (n me d : ℕ) → Sound (fresh n me d)
sound_fresh n me d = record { silent = λ w e. refl; known = λ w f c t e. shut_wire f c t e }

pub sound_passes : (s : Links) → Sound s → Sound (passes s)
sound_passes s k = record {
  silent = λ w e. ap (aged (suc s.tick)) (k.silent w e);
  known = λ w f d t e. k.known w f d t (aged_open (suc s.tick) (s.wire w) f d t e).0;
}

pub sound_rewired : (c : ℕ → ℕ) (s : Links) → Sound s → Sound (rewired c s)
sound_rewired c s k = record {
  silent = λ w e. cond-true (eqb (c w) 0) Silent (s.wire w) (eq-eqb (c w) 0 e);
  known = λ w f d t e. of_cond (λ (y : Wire). y ≡ Open f d t → (f < s.n) × ((f ≡ s.me → ⊥) × ((s.last f ≡ d) × (0 < d)))) (eqb (c w) 0) Silent (s.wire w) (λ _ q. shut_wire f d t q) (λ _ q. k.known w f d t q) e;
}

pub sound_fell : (d : ℕ) (s : Links) → Sound (fell d s)
sound_fell d s = record { silent = λ w e. refl; known = λ w f c t e. shut_wire f c t e }

silent_closed : (a : ℕ) (x : Wire) → x ≡ Silent → closed_to a x ≡ Silent
silent_closed a x e = ap (closed_to a) e

pub sound_greeted : (v : ℕ) (h : Hello) (s : Links) → Taken v h s → Sound s → Sound (greeted v h s)
sound_greeted v h s a k = record { silent = quiet; known = λ w f d t e. opened w f d t (greeted_open v h s w f d t e) }
  where
    quiet : (w : ℕ) → s.cost w ≡ 0 → (greeted v h s).wire w ≡ Silent
    quiet w e =
        let off : w ≡ v → ⊥ = λ q. let z : s.cost v ≡ 0 = subst (λ (x : ℕ). s.cost x ≡ 0) q e in omega (arith, a.costs) in
        row_off v w (cond (eqb h.heard s.drawn) (Open h.from h.drawn s.tick) (Heard h.from h.drawn s.tick))
        (λ x. cond (eqb (s.last h.from) h.drawn) (s.wire x) (closed_to h.from (s.wire x))) off
        ∙ of_cond (λ (y : Wire). y ≡ Silent) (eqb (s.last h.from) h.drawn) (s.wire w) (closed_to h.from (s.wire w)) (λ _. k.silent w e) (λ _. silent_closed h.from (s.wire w) (k.silent w e))

    kept : (w f d t : ℕ) → s.wire w ≡ Open f d t → (s.last h.from ≡ h.drawn) ⊎ (f ≡ h.from → ⊥) → row h.from h.drawn s.last f ≡ d
    kept w f d t e (inl q) = of_cond (λ (y : ℕ). y ≡ d) (eqb f h.from) h.drawn (s.last f) (λ j. sym q ∙ (ap s.last (sym (eqb-true f h.from j)) ∙ (k.known w f d t e).1.1.0)) (λ _. (k.known w f d t e).1.1.0)
    kept w f d t e (inr q) = row_off h.from f h.drawn s.last q ∙ (k.known w f d t e).1.1.0

    opened : (w f d t : ℕ) → OpenedBy v h s w f d t ⊎ OpenBefore v h s w f d t → (f < s.n) × ((f ≡ s.me → ⊥) × ((row h.from h.drawn s.last f ≡ d) × (0 < d)))
    opened w f d t (inl o) = (rw o.who a.one, ((λ q. a.other (sym o.who ∙ q)), (subst (λ (x : ℕ). row h.from h.drawn s.last x ≡ d) (sym o.who) (row_at h.from h.drawn s.last ∙ sym o.which), rw o.which a.drew)))
    opened w f d t (inr o) = let p = k.known w f d t o.was in (p.0, (p.1.0, (kept w f d t o.was o.same, p.1.1.1)))

pub sound_hears : (w : ℕ) (h : Hello) (s : Links) → Sound s → Sound (hears_hello w h s)
sound_hears w h s k = of_cond Sound (accepts w h s) (greeted w h s) s (λ e. sound_greeted w h s (accepted w h s e) k) (λ _. k)

pub sound_meets : (i : Input) (s : Links) → Sound s → Sound (meets i s)
sound_meets Passes s k = sound_passes s k
sound_meets (Hears w h) s k = sound_hears w h s k
sound_meets (Rewires c) s k = sound_rewired c s k
sound_meets (Fell d) s k = sound_fell d s

pub sound_after : (s : Links) (is : List Input) → Sound s → Sound (links_after s is)
unfolding links_after
sound_after s [] k = k
sound_after s (i ∷ is) k = sound_meets i (links_after s is) (sound_after s is k)

-- no input changes how many boxes there are, nor which this is
pub meets_same : (i : Input) (s : Links) → ((meets i s).n ≡ s.n) × ((meets i s).me ≡ s.me)
meets_same Passes s = (refl, refl)
meets_same (Hears w h) s = of_cond (λ (x : Links). (x.n ≡ s.n) × (x.me ≡ s.me)) (accepts w h s) (greeted w h s) s (λ _. (refl, refl)) (λ _. (refl, refl))
meets_same (Rewires c) s = (refl, refl)
meets_same (Fell d) s = (refl, refl)

pub after_same : (s : Links) (is : List Input) → ((links_after s is).n ≡ s.n) × ((links_after s is).me ≡ s.me)
unfolding links_after
after_same s [] = (refl, refl)
after_same s (i ∷ is) = let p = meets_same i (links_after s is) in let q = after_same s is in (p.0 ∙ q.0, p.1 ∙ q.1)
