-- Words about roads are an instance of flooding: there is such a setup, and acts lead where events lead.
use Rattle.std.proofs.Common.{ℕ, eqb, List, [], ◌∷◌, sym, refl, ap, ◌∙◌}
use mathlib.Core.Path.{fun_ext}
use Rattle.model.specs.Words.{Ev, world}
use Rattle.model.specs.Promise.{all_below}
use Rattle.model.specs.Flood.{Setup, net}
use Rattle.model.specs.Roads.{acts_of, OfRoads, Mirrors, RoadsAreAnInstance}
use Rattle.model.proofs.Mirror.{Fits, mirror_step}
use Rattle.model.proofs.Sizes.{world_n}
use Rattle.model.proofs.Below.{so_below}
use Rattle.model.proofs.Tests.{t_true, eq_t}

abbrev pub roads : ℕ → Setup (ℕ → ℕ)
roads n = record {
  boxes = n;
  subjects = n;
  blank = λ x. 0;
  same = λ p q. all_below n (λ x. eqb (p x) (q x));
  same_self = λ p. t_true (all_below n (λ x. eqb (p x) (p x))) (so_below n (λ x. eqb (p x) (p x)) (λ x l. eq_t (p x) (p x) refl));
  mute = λ p. all_below n (λ x. eqb (p x) 0);
  speaks = eqb;
  would = λ a i x. 0;
}

pub roads_are : (n : ℕ) → OfRoads n (roads n)
roads_are n = record { boxes = refl; subjects = refl; blank = λ x. refl; same = λ p q. refl; mute = λ p. refl; speaks = λ a i. refl; would = λ a i x. refl }

fits : (n : ℕ) (s : Setup (ℕ → ℕ)) → OfRoads n s → (es : List Ev) → Fits (world n es) s
fits n s o es = record { boxes = o.boxes ∙ sym (world_n n es); subjects = o.subjects ∙ sym (world_n n es); blank = o.blank }

pub mirrored : (n : ℕ) (s : Setup (ℕ → ℕ)) → OfRoads n s → (es : List Ev) → Mirrors (world n es) (net s (acts_of n es))
unfolding world net acts_of
mirrored n s o [] = record {
  link = λ a e. refl;
  speaks = o.speaks;
  would = λ a i. fun_ext (λ x. o.would a i x);
  holds = λ a i. ap (λ (b : ℕ → ℕ). record { number = 0; tag = 0; body = b }) (fun_ext o.blank);
  flight = refl;
  drawn = refl;
}
mirrored n s o (e ∷ es) = mirror_step (world n es) (net s (acts_of n es)) s (fits n s o es) (mirrored n s o es) e

pub roads_are_an_instance_lem : RoadsAreAnInstance
roads_are_an_instance_lem = (λ n. (roads n, roads_are n), mirrored)
