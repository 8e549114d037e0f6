-- What a box keeps as a fact, it has: both facts are about numbers and tests.
use Rattle.std.proofs.Common.{◌≡◌, ℕ, ◌<◌, Bool, true, false, ltb, refl, ap, arith, ltb-true, lt-ltb}
use mathlib.Core.Logic.{∥∥₁_elim}
use native.Mathlib.Nat.{ℕ_set}
use Rattle.linkmodel.specs.Links.{Wire, Silent, Heard, Open}
use Rattle.linkmodel.specs.Relinked.{Sound}
use Rattle.linkmodel.specs.Station.{Station}
use Rattle.linkmodel.specs.Calls.{Joined}

-- a test as a number
bit_of : Bool → ℕ
bit_of true = 1
bit_of false = 0

of_bit : (b : Bool) → bit_of b ≡ 1 → b ≡ true
unfolding bit_of
of_bit true e = refl
of_bit false e = absurd (omega arith)

bit_of_lem : (b : Bool) → b ≡ true → bit_of b ≡ 1
unfolding bit_of
bit_of_lem b e = ap bit_of e

-- 0 for a silent wire
sound_of : Wire → ℕ
sound_of Silent = 0
sound_of (Heard f d t) = 1
sound_of (Open f d t) = 1

is_silent : (x : Wire) → sound_of x ≡ 0 → x ≡ Silent
unfolding sound_of
is_silent Silent e = refl
is_silent (Heard f d t) e = absurd (omega arith)
is_silent (Open f d t) e = absurd (omega arith)

less_had : {A : Type 0} (m n : ℕ) → ∥ A ∥₁ → (A → m < n) → m < n
less_had m n h f = ltb-true m n (of_bit (ltb m n) (∥∥₁_elim h (ℕ_set (bit_of (ltb m n)) 1) (λ a. bit_of_lem (ltb m n) (lt-ltb m n (f a)))))

sound_had : (s : Station) → ∥ Joined s ∥₁ → Sound s.links
unfolding sound_of
sound_had s h = record {
  silent = λ w e. is_silent (s.links.wire w) (∥∥₁_elim h (ℕ_set (sound_of (s.links.wire w)) 0) (λ j. ap sound_of (j.sound.silent w e)));
  known = λ w f d t e. (
    less_had f s.links.n h (λ j. (j.sound.known w f d t e).0),
    (
      (λ q. ∥∥₁_elim h (λ x y. absurd x) (λ j. (j.sound.known w f d t e).1.0 q)),
      (
        ∥∥₁_elim h (ℕ_set (s.links.last f) d) (λ j. (j.sound.known w f d t e).1.1.0),
        less_had 0 d h (λ j. (j.sound.known w f d t e).1.1.1),
      ),
    ),
  );
}

pub joined_had : (s : Station) → ∥ Joined s ∥₁ → Joined s
joined_had s h = record {
  sound = sound_had s h;
  count = ∥∥₁_elim h (ℕ_set s.links.n s.box.n) (λ j. j.count);
  number = ∥∥₁_elim h (ℕ_set s.links.me s.box.me) (λ j. j.number);
  roads = λ e. ∥∥₁_elim h (ℕ_set (s.box.cost e) _) (λ j. j.roads e);
}
