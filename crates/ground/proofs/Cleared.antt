-- Where no end is there is no wire and nothing to lose, and so it is everywhere before a wire is laid.
use Rattle.std.proofs.Common.{◌≡◌, ℕ, zero, suc, ◌+◌, ◌*◌, Bool, true, false, cond, ◌&&◌, eqb, Some, None, Option, get_or, replicate, refl, ap, ◌∙◌, sym, eqb-true}
use Rattle.model.specs.Words.{at2}
use Rattle.model.proofs.Tests.{of_cond, and_first, and_second}
use Rattle.ground.specs.Wires.{is_end, place_of, plug_if, plug_in, lost_in, plug_at, lost_at}
use Rattle.ground.specs.declared.state.Ground.{Ground}

none_of : (n i : ℕ) → plug_if (get_or (replicate n None) i None) ≡ None
none_of zero i = refl
none_of (suc n) zero = refl
none_of (suc n) (suc i) = none_of n i

zero_of : (n i : ℕ) → ◌≡◌ {A = ℕ} (get_or (replicate n 0) i 0) 0
zero_of zero i = refl
zero_of (suc n) zero = refl
zero_of (suc n) (suc i) = zero_of n i

-- nothing is joined where nothing is anywhere
pub all_none : (n : ℕ) (o : Option ℕ) → plug_in (replicate n None) o ≡ None
all_none n None = refl
all_none n (Some i) = none_of n i

pub all_zero : (n : ℕ) (o : Option ℕ) → lost_in (replicate n 0) o ≡ 0
all_zero n None = refl
all_zero n (Some i) = zero_of n i

-- where there is no end, putting there what is there anyhow changes nothing
same_beyond : {A : Type 0} (x : A) (f : ℕ → ℕ → A) (a w b u : ℕ) → f a w ≡ x → at2 a w x f b u ≡ f b u
same_beyond x f a w b u h = of_cond (λ (z : _). z ≡ f b u) (eqb b a && eqb u w) x (f b u)
    (λ e. let p : b ≡ a = eqb-true b a (and_first (eqb b a) (eqb u w) e) in let q : u ≡ w = eqb-true u w (and_second (eqb b a) (eqb u w) e) in rw (p, q) (sym h)) (λ _. refl)

place_beyond : (a w : ℕ) → is_end a w ≡ false → place_of a w ≡ None
place_beyond a w e = ap (λ (b : Bool). cond b (Some (a * 8 + w)) None) e

-- so it is with clearing an end
pub cleared : (old new : Ground) (a w : ℕ) → (is_end a w ≡ true → (b u : ℕ) → plug_at new b u ≡ at2 a w None (plug_at old) b u) → (is_end a w ≡ false → new ≡ old) → (b u : ℕ) → plug_at new b u ≡ at2 a w None (plug_at old) b u
cleared old new a w f g b u = go (is_end a w) refl
  where
    go : (t : Bool) → is_end a w ≡ t → plug_at new b u ≡ at2 a w None (plug_at old) b u
    go true e = f e b u
    go false e = ap (λ (z : Ground). plug_at z b u) (g e) ∙ sym (same_beyond None (plug_at old) a w b u (ap (plug_in old.plugs) (place_beyond a w e)))

pub unlosing : (old new : Ground) (a w : ℕ) → (is_end a w ≡ true → (b u : ℕ) → lost_at new b u ≡ at2 a w 0 (lost_at old) b u) → (is_end a w ≡ false → new ≡ old) → (b u : ℕ) → lost_at new b u ≡ at2 a w 0 (lost_at old) b u
unlosing old new a w f g b u = go (is_end a w) refl
  where
    go : (t : Bool) → is_end a w ≡ t → lost_at new b u ≡ at2 a w 0 (lost_at old) b u
    go true e = f e b u
    go false e = ap (λ (z : Ground). lost_at z b u) (g e) ∙ sym (same_beyond 0 (lost_at old) a w b u (ap (lost_in old.losing) (place_beyond a w e)))
