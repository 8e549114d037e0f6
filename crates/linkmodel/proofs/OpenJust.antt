-- A wire is open just when its last hello fits.
use Rattle.std.proofs.Common.{◌≡◌, ℕ, suc, ◌+◌, ◌<◌, ◌≤◌, Bool, true, false, cond, not, ◌&&◌, ◌||◌, T, eqb, ltb, ◌⊎◌, List, [], ◌∷◌, ◌++◌, sym, refl, ap, ◌∙◌, subst, inl, inr, arith, ltb-true, le-ltb, lt-ltb, eq-eqb, ne_eqb, eqb-true}
use borrow.Author.Tests.{eqb-false}
use Rattle.std.proofs.lemmas.Bool.Decides.{nat_tests}
use Rattle.model.proofs.Tests.{of_cond, cond-true, cond-false}
use Rattle.linkmodel.proofs.Bools.{T-is, is_T, decide}
use Rattle.linkmodel.specs.Links.{Wire, Silent, Heard, Open, Hello, Links, holds_for, aged, closed_to, greeted, fresh, hears_hello}
use Rattle.linkmodel.specs.Hellos.{Input, Passes, Hears, Rewires, Fell, links_after, accepts, is_open_wire, ticks_in, undisturbed, Fits, OpenJustWhen}
use Rattle.linkmodel.specs.Relinked.{Sound}
use Rattle.linkmodel.proofs.Wires.{shut_wire, aged_open, row_at, row_off, OpenedBy, OpenBefore, greeted_open}
use Rattle.linkmodel.proofs.Sounds.{sound_fresh, sound_after}

-- the hello that opened a wire, with its age
pub record OpenWas (s : Links) (is : List Input) (w f d t : ℕ) : Type 0 where
  pub later : List Input
  pub before : List Input
  pub hello : Hello
  pub split : is ≡ later ++ (Hears w hello ∷ before)
  pub was_taken : accepts w hello (links_after s before) ≡ true
  pub names : hello.heard ≡ (links_after s is).drawn
  pub counts : t + ticks_in later ≡ (links_after s is).tick
  pub recent : ticks_in later ≤ holds_for
  pub since : T (undisturbed s w hello later (Hears w hello ∷ before))
  pub who : hello.from ≡ f
  pub which : hello.drawn ≡ d

-- another hello that leaves an open wire open
leaves : (acc : Bool) (v w f g d c : ℕ) → (acc ≡ true → (w ≡ v → ⊥) × ((f ≡ g → ⊥) ⊎ (c ≡ d))) → T (not acc || (not (eqb v w) && (not (eqb g f) || eqb c d)))
leaves false v w f g d c h = tt
leaves true v w f g d c h = go (h refl).0 (h refl).1
  where
    go : (w ≡ v → ⊥) → (f ≡ g → ⊥) ⊎ (c ≡ d) → T (not (eqb v w) && (not (eqb g f) || eqb c d))
    go a (inl b) = is_T (not (eqb v w) && (not (eqb g f) || eqb c d)) (rw (ne_eqb v w (λ q. a (sym q)), ne_eqb g f (λ q. b (sym q))))
    go a (inr b) = is_T (not (eqb v w) && (not (eqb g f) || eqb c d)) (rw (ne_eqb v w (λ q. a (sym q)), eq-eqb c d b) (or_true (not (eqb g f))))
      where
        or_true : (b : Bool) → (b || true) ≡ true
        or_true true = refl
        or_true false = refl

T_and : (a b : Bool) → T a → T b → T (a && b)
T_and true b x y = y
T_and false b x y = x

pub open_was_lem : (s : Links) → Sound s → ((w : ℕ) → s.wire w ≡ Silent) → (is : List Input) (w f d t : ℕ) → (links_after s is).wire w ≡ Open f d t → OpenWas s is w f d t
unfolding links_after ticks_in undisturbed
open_was_lem s k q [] w f d t e = shut_wire f d t (sym (q w) ∙ e)
open_was_lem s k q (Passes ∷ is) w f d t e =
    let x = links_after s is in
    let p = aged_open (suc x.tick) (x.wire w) f d t e in
    let o = open_was_lem s k q is w f d t p.0 in
    record {
      later = Passes ∷ o.later;
      before = o.before;
      hello = o.hello;
      split = ap (λ (l : List Input). Passes ∷ l) o.split;
      was_taken = o.was_taken;
      names = o.names;
      counts = omega (arith, o.counts);
      recent = omega (arith, o.counts, p.1);
      since = o.since;
      who = o.who;
      which = o.which;
    }
open_was_lem s k q (Hears v g ∷ is) w f d t e =
    go (accepts v g (links_after s is)) refl (λ z. open_was_lem s k q is w f d t z)
  where
    more : OpenWas s is w f d t → (accepts v g (links_after s is) ≡ true → (w ≡ v → ⊥) × ((f ≡ g.from → ⊥) ⊎ (g.drawn ≡ d))) → (hears_hello v g (links_after s is)).drawn ≡ (links_after s is).drawn → (hears_hello v g (links_after s is)).tick ≡ (links_after s is).tick → OpenWas s (Hears v g ∷ is) w f d t
    more o h dr ti = record {
      later = Hears v g ∷ o.later;
      before = o.before;
      hello = o.hello;
      split = ap (λ (l : List Input). Hears v g ∷ l) o.split;
      was_taken = o.was_taken;
      names = o.names ∙ sym dr;
      counts = o.counts ∙ sym ti;
      recent = o.recent;
      since = T_and (not (accepts v g (links_after s (o.later ++ (Hears w o.hello ∷ o.before)))) || (not (eqb v w) && (not (eqb g.from o.hello.from) || eqb g.drawn o.hello.drawn)))
          (undisturbed s w o.hello o.later (Hears w o.hello ∷ o.before))
          (leaves (accepts v g (links_after s (o.later ++ (Hears w o.hello ∷ o.before)))) v w o.hello.from g.from o.hello.drawn g.drawn
          (λ z. rw (o.who, o.which) (h (subst (λ (l : List Input). accepts v g (links_after s l) ≡ true) (sym o.split) z))))
          o.since;
      who = o.who;
      which = o.which;
    }

    go : (b : Bool) → accepts v g (links_after s is) ≡ b → ((links_after s is).wire w ≡ Open f d t → OpenWas s is w f d t) → OpenWas s (Hears v g ∷ is) w f d t
    go true a ih =
        let c : hears_hello v g (links_after s is) ≡ greeted v g (links_after s is) = cond-true (accepts v g (links_after s is)) (greeted v g (links_after s is)) (links_after s is) a in
        opened (greeted_open v g (links_after s is) w f d t (sym (ap (λ (y : Links). y.wire w) c) ∙ e)) c
      where
        opened : OpenedBy v g (links_after s is) w f d t ⊎ OpenBefore v g (links_after s is) w f d t → hears_hello v g (links_after s is) ≡ greeted v g (links_after s is) → OpenWas s (Hears v g ∷ is) w f d t
        opened (inl o) c = record {
          later = [];
          before = is;
          hello = g;
          split = ap (λ (y : ℕ). Hears y g ∷ is) (sym o.here);
          was_taken = rw o.here a;
          names = o.names ∙ sym (ap (λ (y : Links). y.drawn) c);
          counts = omega (arith, o.when, ap (λ (y : Links). y.tick) c);
          recent = omega arith;
          since = tt;
          who = sym o.who;
          which = sym o.which;
        }
        opened (inr o) c = more (ih o.was) (λ _. (o.away, agree o.same)) (ap (λ (y : Links). y.drawn) c) (ap (λ (y : Links). y.tick) c)
          where
            agree : ((links_after s is).last g.from ≡ g.drawn) ⊎ (f ≡ g.from → ⊥) → (f ≡ g.from → ⊥) ⊎ (g.drawn ≡ d)
            agree (inr z) = inl z
            agree (inl z) = elim (decide (eqb f g.from)) [ inl j ↦ inr (sym z ∙ (ap (links_after s is).last (sym (eqb-true f g.from j)) ∙ ((sound_after s is k).known w f d t o.was).1.1.0)) | inr j ↦ inl (eqb-false f g.from j) ]
    go false a ih =
        let c : hears_hello v g (links_after s is) ≡ links_after s is = cond-false (accepts v g (links_after s is)) (greeted v g (links_after s is)) (links_after s is) a in
        more (ih (sym (ap (λ (y : Links). y.wire w) c) ∙ e)) (λ z. let n : ◌≡◌ {A = ℕ} 0 1 = cc in absurd (omega arith)) (ap (λ (y : Links). y.drawn) c) (ap (λ (y : Links). y.tick) c)
open_was_lem s k q (Rewires c ∷ is) w f d t e = go (eqb (c w) 0) refl (λ z. open_was_lem s k q is w f d t z)
  where
    go : (b : Bool) → eqb (c w) 0 ≡ b → ((links_after s is).wire w ≡ Open f d t → OpenWas s is w f d t) → OpenWas s (Rewires c ∷ is) w f d t
    go true a ih = shut_wire f d t (sym (cond-true (eqb (c w) 0) Silent ((links_after s is).wire w) a) ∙ e)
    go false a ih =
        let o = ih (sym (cond-false (eqb (c w) 0) Silent ((links_after s is).wire w) a) ∙ e) in
        let pos : 0 < c w = omega (arith, eqb-false (c w) 0 a) in
        record {
          later = Rewires c ∷ o.later;
          before = o.before;
          hello = o.hello;
          split = ap (λ (l : List Input). Rewires c ∷ l) o.split;
          was_taken = o.was_taken;
          names = o.names;
          counts = o.counts;
          recent = o.recent;
          since = T_and (ltb 0 (c w)) (undisturbed s w o.hello o.later (Hears w o.hello ∷ o.before)) (is_T (ltb 0 (c w)) (lt-ltb 0 (c w) pos)) o.since;
          who = o.who;
          which = o.which;
        }
open_was_lem s k q (Fell c ∷ is) w f d t e = shut_wire f d t e

-- what a hello that leaves an open wire open is
left_open : (acc : Bool) (v w f g d c : ℕ) → acc ≡ true → T (not acc || (not (eqb v w) && (not (eqb g f) || eqb c d))) → (w ≡ v → ⊥) × (f ≡ g → c ≡ d)
left_open false v w f g d c e h = let n : ◌≡◌ {A = ℕ} 0 1 = cc in absurd (omega arith)
left_open true v w f g d c e h = (apart v w f g d c (T-is (not (eqb v w) && (not (eqb g f) || eqb c d)) h), level v w f g d c (T-is (not (eqb v w) && (not (eqb g f) || eqb c d)) h))
  where
    apart : (v w f g d c : ℕ) → (not (eqb v w) && (not (eqb g f) || eqb c d)) ≡ true → w ≡ v → ⊥
    apart v w f g d c h q = grind (arith, nat_tests)

    level : (v w f g d c : ℕ) → (not (eqb v w) && (not (eqb g f) || eqb c d)) ≡ true → f ≡ g → c ≡ d
    level v w f g d c h q = grind (arith, nat_tests)

T-left : (a b : Bool) → T (a && b) → T a
T-left true b x = tt
T-left false b x = x

T-right : (a b : Bool) → T (a && b) → T b
T-right true b x = x
T-right false b x = absurd x

-- a hello that names the drawn number opens its wire
pub greeted_here : (w : ℕ) (h : Hello) (s : Links) → h.heard ≡ s.drawn → (greeted w h s).wire w ≡ Open h.from h.drawn s.tick
greeted_here w h s e =
    row_at w (cond (eqb h.heard s.drawn) (Open h.from h.drawn s.tick) (Heard h.from h.drawn s.tick)) (λ v. cond (eqb (s.last h.from) h.drawn) (s.wire v) (closed_to h.from (s.wire v)))
    ∙ cond-true (eqb h.heard s.drawn) (Open h.from h.drawn s.tick) (Heard h.from h.drawn s.tick) (eq-eqb h.heard s.drawn e)

-- an open wire stays as it is when a hello comes on another, unless it brings another number of its box
pub greeted_there : (v : ℕ) (g : Hello) (s : Links) (w f d t : ℕ) → s.wire w ≡ Open f d t → s.last f ≡ d → (w ≡ v → ⊥) → (f ≡ g.from → g.drawn ≡ d) → (greeted v g s).wire w ≡ Open f d t
greeted_there v g s w f d t e l a b =
    row_off v w (cond (eqb g.heard s.drawn) (Open g.from g.drawn s.tick) (Heard g.from g.drawn s.tick)) (λ x. cond (eqb (s.last g.from) g.drawn) (s.wire x) (closed_to g.from (s.wire x))) a
    ∙ of_cond (λ (y : Wire). y ≡ Open f d t) (eqb (s.last g.from) g.drawn) (s.wire w) (closed_to g.from (s.wire w)) (λ _. e)
    (λ j. ap (closed_to g.from) e ∙ of_cond (λ (y : Wire). y ≡ Open f d t) (eqb f g.from) (Heard f d t) (Open f d t)
    (λ i. let q : f ≡ g.from = eqb-true f g.from i in absurd (eqb-false (s.last g.from) g.drawn j (ap s.last (sym q) ∙ (l ∙ sym (b q))))) (λ _. refl))

-- an open wire that isn't too old stays open at a tick
pub aged_young : (now f d t : ℕ) → now ≤ t + holds_for → aged now (Open f d t) ≡ Open f d t
aged_young now f d t h = cond-false (ltb (t + holds_for) now) Silent (Open f d t) (le-ltb (t + holds_for) now h)

pub fits_open : (s : Links) → Sound s → (later before : List Input) (w : ℕ) (h : Hello) → accepts w h (links_after s before) ≡ true → h.heard ≡ (links_after s (later ++ (Hears w h ∷ before))).drawn → ticks_in later ≤ holds_for → T (undisturbed s w h later (Hears w h ∷ before)) →
    ((links_after s (later ++ (Hears w h ∷ before))).wire w ≡ Open h.from h.drawn (links_after s before).tick) × ((links_after s before).tick + ticks_in later ≡ (links_after s (later ++ (Hears w h ∷ before))).tick)
unfolding links_after ticks_in undisturbed
fits_open s k [] before w h a m r u =
    let x = links_after s before in
    let c : hears_hello w h x ≡ greeted w h x = cond-true (accepts w h x) (greeted w h x) x a in
    (ap (λ (y : Links). y.wire w) c ∙ greeted_here w h x (m ∙ ap (λ (y : Links). y.drawn) c), omega (arith, ap (λ (y : Links). y.tick) c))
fits_open s k (Passes ∷ later) before w h a m r u =
    let x = links_after s (later ++ (Hears w h ∷ before)) in
    let p = fits_open s k later before w h a m (omega arith) u in
    (ap (aged (suc x.tick)) p.0 ∙ aged_young (suc x.tick) h.from h.drawn (links_after s before).tick (omega (arith, p.1)), omega (arith, p.1))
fits_open s k (Hears v g ∷ later) before w h a m r u = go (accepts v g x) refl (λ e. fits_open s k later before w h a e r (T-right (not (accepts v g x) || (not (eqb v w) && (not (eqb g.from h.from) || eqb g.drawn h.drawn))) (undisturbed s w h later (Hears w h ∷ before)) u))
  where
    x : Links
    x = links_after s (later ++ (Hears w h ∷ before))

    go : (b : Bool) → accepts v g (links_after s (later ++ (Hears w h ∷ before))) ≡ b →
        (h.heard ≡ (links_after s (later ++ (Hears w h ∷ before))).drawn → ((links_after s (later ++ (Hears w h ∷ before))).wire w ≡ Open h.from h.drawn (links_after s before).tick) × ((links_after s before).tick + ticks_in later ≡ (links_after s (later ++ (Hears w h ∷ before))).tick)) →
        ((hears_hello v g (links_after s (later ++ (Hears w h ∷ before)))).wire w ≡ Open h.from h.drawn (links_after s before).tick) × ((links_after s before).tick + ticks_in later ≡ (hears_hello v g (links_after s (later ++ (Hears w h ∷ before)))).tick)
    go true b ih =
        let y : Links = links_after s (later ++ (Hears w h ∷ before)) in
        let c : hears_hello v g y ≡ greeted v g y = cond-true (accepts v g y) (greeted v g y) y b in
        let p = ih (m ∙ ap (λ (z : Links). z.drawn) c) in
        let l = left_open (accepts v g y) v w h.from g.from h.drawn g.drawn b (T-left (not (accepts v g y) || (not (eqb v w) && (not (eqb g.from h.from) || eqb g.drawn h.drawn))) (undisturbed s w h later (Hears w h ∷ before)) u) in
        let sd : y.last h.from ≡ h.drawn = ((sound_after s (later ++ (Hears w h ∷ before)) k).known w h.from h.drawn (links_after s before).tick p.0).1.1.0 in
        (ap (λ (z : Links). z.wire w) c ∙ greeted_there v g y w h.from h.drawn (links_after s before).tick p.0 sd l.0 l.1, p.1 ∙ sym (ap (λ (z : Links). z.tick) c))
    go false b ih =
        let y : Links = links_after s (later ++ (Hears w h ∷ before)) in
        let c : hears_hello v g y ≡ y = cond-false (accepts v g y) (greeted v g y) y b in
        let p = ih (m ∙ ap (λ (z : Links). z.drawn) c) in
        (ap (λ (z : Links). z.wire w) c ∙ p.0, p.1 ∙ sym (ap (λ (z : Links). z.tick) c))
fits_open s k (Rewires c ∷ later) before w h a m r u =
    let x = links_after s (later ++ (Hears w h ∷ before)) in
    let p = fits_open s k later before w h a m r (T-right (ltb 0 (c w)) (undisturbed s w h later (Hears w h ∷ before)) u) in
    let pos : 0 < c w = ltb-true 0 (c w) (T-is (ltb 0 (c w)) (T-left (ltb 0 (c w)) (undisturbed s w h later (Hears w h ∷ before)) u)) in
    (cond-false (eqb (c w) 0) Silent (x.wire w) (ne_eqb (c w) 0 (λ q. omega arith)) ∙ p.0, p.1)
fits_open s k (Fell c ∷ later) before w h a m r u = absurd u

-- an open wire is open to somebody
pub is_open_lem : (x : Wire) → is_open_wire x ≡ true → (f : ℕ) × (d : ℕ) × (t : ℕ) × (x ≡ Open f d t)
is_open_lem Silent e = let n : ◌≡◌ {A = ℕ} 0 1 = cc in absurd (omega arith)
is_open_lem (Heard f d t) e = let n : ◌≡◌ {A = ℕ} 0 1 = cc in absurd (omega arith)
is_open_lem (Open f d t) e = (f, d, t, refl)

pub open_just_when_lem : OpenJustWhen
open_just_when_lem n me d is w = (there, back)
  where
    there : is_open_wire ((links_after (fresh n me d) is).wire w) ≡ true → Fits (fresh n me d) w is
    there e =
        let p = is_open_lem ((links_after (fresh n me d) is).wire w) e in
        let o = open_was_lem (fresh n me d) (sound_fresh n me d) (λ v. refl) is w p.0 p.1 p.2 p.3 in
        record { later = o.later; before = o.before; hello = o.hello; split = o.split; accepted = o.was_taken; names = o.names; recent = o.recent; since = o.since }

    back : Fits (fresh n me d) w is → is_open_wire ((links_after (fresh n me d) is).wire w) ≡ true
    back o = subst (λ (l : List Input). is_open_wire ((links_after (fresh n me d) l).wire w) ≡ true) (sym o.split)
        (ap is_open_wire (fits_open (fresh n me d) (sound_fresh n me d) o.later o.before w o.hello o.accepted (subst (λ (l : List Input). o.hello.heard ≡ (links_after (fresh n me d) l).drawn) o.split o.names) o.recent o.since).0)
