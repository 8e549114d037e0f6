-- Where nothing comes at one end of a wire, neither end holds it open for long.
use Rattle.std.proofs.Common.{◌≡◌, ℕ, zero, suc, ◌+◌, ◌<◌, ◌≤◌, Bool, true, false, eqb, ltb, refl, ap, ◌∙◌, arith, lt-ltb, eqb-true}
use borrow.Author.Tests.{eqb-false}
use Rattle.model.proofs.Tests.{of_cond, cond-true}
use Rattle.linkmodel.specs.Links.{Wire, Silent, Heard, Open, Hello, Links, holds_for, heard_on, aged, closed_to}
use Rattle.linkmodel.specs.Hellos.{Input, meets, is_open_wire}
use Rattle.linkmodel.specs.Agreeing.{Run, links_at, ticked_at, when_on, SentLately, Fair, End, NeitherOpen}
use Rattle.linkmodel.proofs.Runs.{Steady, steady_meets, of_list, of_fair, steady_at, steady_ticked}

-- the tick at which a wire was opened, 0 if it isn't open
abbrev pub open_when : Wire → ℕ
open_when Silent = 0
open_when (Heard f d t) = 0
open_when (Open f d t) = t

pub when_closed : (f : ℕ) (x : Wire) → when_on (closed_to f x) ≤ when_on x
when_closed f Silent = omega arith
when_closed f (Heard g d t) = omega arith
when_closed f (Open g d t) = of_cond (λ (y : Wire). when_on y ≤ t) (eqb g f) (Heard g d t) (Open g d t) (λ _. omega arith) (λ _. omega arith)

pub open_closed : (f : ℕ) (x : Wire) → open_when (closed_to f x) ≤ open_when x
open_closed f Silent = omega arith
open_closed f (Heard g d t) = omega arith
open_closed f (Open g d t) = of_cond (λ (y : Wire). open_when y ≤ t) (eqb g f) (Heard g d t) (Open g d t) (λ _. omega arith) (λ _. omega arith)

pub shut_closed : (f : ℕ) (x : Wire) → is_open_wire x ≡ false → is_open_wire (closed_to f x) ≡ false
shut_closed f Silent e = e
shut_closed f (Heard g d t) e = e
shut_closed f (Open g d t) e = let z : ◌≡◌ {A = ℕ} 0 1 = cc in absurd (omega arith)

pub when_aged : (now : ℕ) (x : Wire) → when_on (aged now x) ≤ when_on x
when_aged now Silent = omega arith
when_aged now (Heard g d t) = of_cond (λ (y : Wire). when_on y ≤ t) (ltb (t + holds_for) now) Silent (Heard g d t) (λ _. omega arith) (λ _. omega arith)
when_aged now (Open g d t) = of_cond (λ (y : Wire). when_on y ≤ t) (ltb (t + holds_for) now) Silent (Open g d t) (λ _. omega arith) (λ _. omega arith)

pub open_aged : (now : ℕ) (x : Wire) → open_when (aged now x) ≤ open_when x
open_aged now Silent = omega arith
open_aged now (Heard g d t) = of_cond (λ (y : Wire). open_when y ≤ 0) (ltb (t + holds_for) now) Silent (Heard g d t) (λ _. omega arith) (λ _. omega arith)
open_aged now (Open g d t) = of_cond (λ (y : Wire). open_when y ≤ t) (ltb (t + holds_for) now) Silent (Open g d t) (λ _. omega arith) (λ _. omega arith)

pub open_when_lem : (x : Wire) → open_when x ≤ when_on x
open_when_lem Silent = omega arith
open_when_lem (Heard g d t) = omega arith
open_when_lem (Open g d t) = omega arith

-- what is too old is silent, and what was opened too long ago isn't open
pub aged_old : (now : ℕ) (x : Wire) → when_on x + holds_for < now → aged now x ≡ Silent
aged_old now Silent h = refl
aged_old now (Heard g d t) h = cond-true (ltb (t + holds_for) now) Silent (Heard g d t) (lt-ltb (t + holds_for) now h)
aged_old now (Open g d t) h = cond-true (ltb (t + holds_for) now) Silent (Open g d t) (lt-ltb (t + holds_for) now h)

pub aged_shut : (now : ℕ) (x : Wire) → open_when x + holds_for < now → is_open_wire (aged now x) ≡ false
aged_shut now Silent h = refl
aged_shut now (Heard g d t) h = of_cond (λ (y : Wire). is_open_wire y ≡ false) (ltb (t + holds_for) now) Silent (Heard g d t) (λ _. refl) (λ _. refl)
aged_shut now (Open g d t) h = ap is_open_wire (cond-true (ltb (t + holds_for) now) Silent (Open g d t) (lt-ltb (t + holds_for) now h))

module _ (one other : Run) (w : ℕ) (may : ℕ → Hello → Type 0) (en : End one other w may) where
  -- nothing was heard in the future
  pub timely_at : (k : ℕ) → when_on ((links_at one k).wire w) ≤ one.start.tick + k
  unfolding links_at
  timely_at zero = omega (arith, en.past)
  timely_at (suc k) =
      (of_list (λ s. Steady one w (one.start.tick + suc k) s × (when_on (s.wire w) ≤ one.start.tick + suc k)) (Fair other w k (may k)) each (one.met k) (en.fair k) (ticked_at one k)
      (steady_ticked one other w may en k, omega (arith, when_aged (suc (links_at one k).tick) ((links_at one k).wire w), timely_at k))).1
    where
      each : (i : Input) (s : Links) → Fair other w k (may k) i → Steady one w (one.start.tick + suc k) s × (when_on (s.wire w) ≤ one.start.tick + suc k) → Steady one w (one.start.tick + suc k) (meets i s) × (when_on ((meets i s).wire w) ≤ one.start.tick + suc k)
      each i s f p = (
        steady_meets one other w (one.start.tick + suc k) k (may k) i s f p.0,
        of_fair (λ x. when_on x ≤ one.start.tick + suc k) other w k (may k) i s f p.1 (λ h _ _. omega (arith, p.0.tick)) (λ h _. omega (arith, p.0.tick)) (λ g x q. omega (arith, when_closed g x)),
      )

-- an end at which nothing comes from step m on
module _ (one other : Run) (w m : ℕ) (may : ℕ → Hello → Type 0) (en : End one other w may) (none : (k : ℕ) (h : Hello) → m ≤ k → may k h → ⊥) where
  old_at : (k : ℕ) → m ≤ k → when_on ((links_at one k).wire w) ≤ one.start.tick + m
  unfolding links_at
  old_at zero h = omega (arith, timely_at one other w may en zero)
  old_at (suc k) h = go (eqb m (suc k)) refl (λ l. old_at k l)
    where
      go : (b : Bool) → eqb m (suc k) ≡ b → (m ≤ k → when_on ((links_at one k).wire w) ≤ one.start.tick + m) → when_on ((links_at one (suc k)).wire w) ≤ one.start.tick + m
      go true e ih = let q : m ≡ suc k = eqb-true m (suc k) e in omega (arith, timely_at one other w may en (suc k))
      go false e ih =
          let l : m ≤ k = omega (arith, eqb-false m (suc k) e) in
          of_list (λ s. when_on (s.wire w) ≤ one.start.tick + m) (Fair other w k (may k))
          (λ i s f p. of_fair (λ x. when_on x ≤ one.start.tick + m) other w k (may k) i s f p (λ g y _. absurd (none k g l y)) (λ g y. absurd (none k g l y)) (λ g x q. omega (arith, when_closed g x)))
          (one.met k) (en.fair k) (ticked_at one k) (omega (arith, when_aged (suc (links_at one k).tick) ((links_at one k).wire w), ih l))

  -- it is silent 40 steps later
  pub silent_ticked : (k : ℕ) → m + 40 ≤ k → (ticked_at one k).wire w ≡ Silent
  silent_ticked k h = aged_old (suc (links_at one k).tick) ((links_at one k).wire w) (omega (arith, old_at k (omega arith), (steady_at one other w may en k).tick))

  pub silent_at : (k : ℕ) → m + 40 ≤ k → (links_at one (suc k)).wire w ≡ Silent
  unfolding links_at
  silent_at k h = of_list (λ s. s.wire w ≡ Silent) (Fair other w k (may k))
      (λ i s f p. of_fair (λ x. x ≡ Silent) other w k (may k) i s f p (λ g y _. absurd (none k g (omega arith) y)) (λ g y. absurd (none k g (omega arith) y)) (λ g x q. ap (closed_to g) q))
      (one.met k) (en.fair k) (ticked_at one k) (silent_ticked k h)

-- an end to which no hello that comes from step q on names its number
module _ (one other : Run) (w q : ℕ) (may : ℕ → Hello → Type 0) (en : End one other w may) (none : (k : ℕ) (h : Hello) → q ≤ k → may k h → h.heard ≡ one.start.drawn → ⊥) where
  opened_at : (k : ℕ) → q ≤ k → open_when ((links_at one k).wire w) ≤ one.start.tick + q
  unfolding links_at
  opened_at zero h = omega (arith, timely_at one other w may en zero, open_when_lem (one.start.wire w))
  opened_at (suc k) h = go (eqb q (suc k)) refl (λ l. opened_at k l)
    where
      go : (b : Bool) → eqb q (suc k) ≡ b → (q ≤ k → open_when ((links_at one k).wire w) ≤ one.start.tick + q) → open_when ((links_at one (suc k)).wire w) ≤ one.start.tick + q
      go true e ih = let z : q ≡ suc k = eqb-true q (suc k) e in omega (arith, timely_at one other w may en (suc k), open_when_lem ((links_at one (suc k)).wire w))
      go false e ih =
          let l : q ≤ k = omega (arith, eqb-false q (suc k) e) in
          (of_list (λ s. Steady one w (one.start.tick + suc k) s × (open_when (s.wire w) ≤ one.start.tick + q)) (Fair other w k (may k))
          (λ i s f p. (
            steady_meets one other w (one.start.tick + suc k) k (may k) i s f p.0,
            of_fair (λ x. open_when x ≤ one.start.tick + q) other w k (may k) i s f p.1 (λ g y n. absurd (none k g l y (n ∙ p.0.number))) (λ g y. omega arith) (λ g x z. omega (arith, open_closed g x)),
          ))
          (one.met k) (en.fair k) (ticked_at one k) (steady_ticked one other w may en k, omega (arith, open_aged (suc (links_at one k).tick) ((links_at one k).wire w), ih l))).1

  -- it isn't open 40 steps later
  pub shut_at : (k : ℕ) → q + 40 ≤ k → is_open_wire ((links_at one (suc k)).wire w) ≡ false
  unfolding links_at
  shut_at k h = (of_list (λ s. Steady one w (one.start.tick + suc k) s × (is_open_wire (s.wire w) ≡ false)) (Fair other w k (may k))
      (λ i s f p. (
        steady_meets one other w (one.start.tick + suc k) k (may k) i s f p.0,
        of_fair (λ x. is_open_wire x ≡ false) other w k (may k) i s f p.1 (λ g y n. absurd (none k g (omega arith) y (n ∙ p.0.number))) (λ g y. refl) (λ g x z. shut_closed g x z),
      ))
      (one.met k) (en.fair k) (ticked_at one k)
      (steady_ticked one other w may en k, aged_shut (suc (links_at one k).tick) ((links_at one k).wire w) (omega (arith, opened_at k (omega arith), (steady_at one other w may en k).tick)))).1

pub neither_open_lem : NeitherOpen
neither_open_lem a e w v m ea ee zero h = absurd (omega arith)
neither_open_lem a e w v m ea ee (suc k) h =
    (shut_at a e w (m + 42) (SentLately e v) ea mute k (omega arith), ap is_open_wire (silent_at e a v m (λ k h. (k < m) × SentLately a w k h) ee none k (omega arith)))
  where
    none : (k : ℕ) (h : Hello) → m ≤ k → (k < m) × SentLately a w k h → ⊥
    none k h l p = omega (arith, p.0)

    mute : (k : ℕ) (h : Hello) → m + 42 ≤ k → SentLately e v k h → h.heard ≡ a.start.drawn → ⊥
    mute k h l p q =
        let s : (ticked_at e p.step).wire v ≡ Silent = silent_ticked e a v m (λ k h. (k < m) × SentLately a w k h) ee none p.step (omega (arith, p.lately)) in
        let z : h.heard ≡ 0 = ap (λ (g : Hello). g.heard) p.is ∙ ap heard_on s in
        omega (arith, ea.drew)
