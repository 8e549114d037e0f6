-- Where enough hellos come at both ends of a wire, both hold it open to each other.
use Rattle.std.proofs.Common.{◌≡◌, ℕ, zero, suc, ◌+◌, ◌-◌, ◌≤◌, Bool, true, false, cond, not, eqb, ltb, ◌⊎◌, List, [], ◌∷◌, sym, refl, ap, ◌∙◌, subst, inl, inr, arith, le-ltb, eq-eqb, ne_eqb, eqb-true}
use borrow.Author.Tests.{eqb-false}
use Rattle.model.proofs.Tests.{of_cond, cond-true, cond-false}
use Rattle.linkmodel.proofs.Bools.{decide}
use Rattle.linkmodel.specs.Links.{Wire, Silent, Heard, Open, Hello, Links, holds_for, heard_on, aged, closed_to, taken, greeted, passes, hello_for}
use Rattle.linkmodel.specs.Hellos.{Input, Passes, Hears, Rewires, Fell, meets, links_after, accepts}
use Rattle.linkmodel.specs.Agreeing.{Run, links_at, ticked_at, is_of, when_on, SentLately, Fair, End, Enough, OpenTo, NoThird, BothOpen, BothOpenSooner}
use Rattle.linkmodel.proofs.Wires.{heard_wire, aged_open, closed_open, accepting, row_at, row_off}
use Rattle.linkmodel.proofs.OpenJust.{greeted_here}
use Rattle.linkmodel.proofs.Runs.{Steady, steady_meets, of_list, of_fair, steady_at, steady_ticked, sent_tenth, Arrival, arrival}

-- the wire was heard of f under d at t; and it is open if that is asked
abbrev pub Mark : Bool → ℕ → ℕ → ℕ → Wire → Type 0
Mark true f d t x = x ≡ Open f d t
Mark false f d t x = (x ≡ Open f d t) ⊎ (x ≡ Heard f d t)

-- box f is known on wire w under d, since the tick since
pub record Known (op : Bool) (w f d since : ℕ) (s : Links) : Type 0 where
  pub last : s.last f ≡ d
  pub when : ℕ
  pub lasts : since ≤ when
  pub mark : Mark op f d when (s.wire w)

open_aged : (now f d t : ℕ) → now ≤ t + holds_for → aged now (Open f d t) ≡ Open f d t
open_aged now f d t h = cond-false (ltb (t + holds_for) now) Silent (Open f d t) (le-ltb (t + holds_for) now h)

heard_aged : (now f d t : ℕ) → now ≤ t + holds_for → aged now (Heard f d t) ≡ Heard f d t
heard_aged now f d t h = cond-false (ltb (t + holds_for) now) Silent (Heard f d t) (le-ltb (t + holds_for) now h)

mark_aged : (op : Bool) (now f d t : ℕ) (x : Wire) → now ≤ t + holds_for → Mark op f d t x → Mark op f d t (aged now x)
mark_aged true now f d t x h e = ap (aged now) e ∙ open_aged now f d t h
mark_aged false now f d t x h (inl e) = inl (ap (aged now) e ∙ open_aged now f d t h)
mark_aged false now f d t x h (inr e) = inr (ap (aged now) e ∙ heard_aged now f d t h)

open_other : (g f d t : ℕ) → (f ≡ g → ⊥) → closed_to g (Open f d t) ≡ Open f d t
open_other g f d t h = cond-false (eqb f g) (Heard f d t) (Open f d t) (ne_eqb f g h)

mark_closed : (op : Bool) (g f d t : ℕ) (x : Wire) → (f ≡ g → ⊥) → Mark op f d t x → Mark op f d t (closed_to g x)
mark_closed true g f d t x h e = ap (closed_to g) e ∙ open_other g f d t h
mark_closed false g f d t x h (inl e) = inl (ap (closed_to g) e ∙ open_other g f d t h)
mark_closed false g f d t x h (inr e) = inr (ap (closed_to g) e)

pub mark_heard : (op : Bool) (f d t : ℕ) (x : Wire) → Mark op f d t x → heard_on x ≡ d
mark_heard true f d t x e = ap heard_on e
mark_heard false f d t x (inl e) = ap heard_on e
mark_heard false f d t x (inr e) = ap heard_on e

pub known_passes : (op : Bool) (w f d since : ℕ) (s : Links) → suc s.tick ≤ since + holds_for → Known op w f d since s → Known op w f d since (passes s)
known_passes op w f d since s h k = record { last = k.last; when = k.when; lasts = k.lasts; mark = mark_aged op (suc s.tick) f d k.when (s.wire w) (omega (arith, k.lasts)) k.mark }

mark_greeted : (op : Bool) (w : ℕ) (h : Hello) (s : Links) → (op ≡ true → h.heard ≡ s.drawn) → Mark op h.from h.drawn s.tick ((greeted w h s).wire w)
mark_greeted true w h s n = greeted_here w h s (n refl)
mark_greeted false w h s n =
    subst (λ (x : Wire). (x ≡ Open h.from h.drawn s.tick) ⊎ (x ≡ Heard h.from h.drawn s.tick))
    (sym (row_at w (cond (eqb h.heard s.drawn) (Open h.from h.drawn s.tick) (Heard h.from h.drawn s.tick)) (λ v. cond (eqb (s.last h.from) h.drawn) (s.wire v) (closed_to h.from (s.wire v)))))
    (of_cond (λ (x : Wire). (x ≡ Open h.from h.drawn s.tick) ⊎ (x ≡ Heard h.from h.drawn s.tick)) (eqb h.heard s.drawn) (Open h.from h.drawn s.tick) (Heard h.from h.drawn s.tick) (λ _. inl refl) (λ _. inr refl))

-- who says hello on a wire is known there
pub known_greeted : (op : Bool) (w f d : ℕ) (h : Hello) (s : Links) → h.from ≡ f → h.drawn ≡ d → (op ≡ true → h.heard ≡ s.drawn) → Known op w f d s.tick (greeted w h s)
known_greeted op w f d h s a b n =
    subst (λ (x : ℕ). Known op w x d s.tick (greeted w h s)) a (subst (λ (x : ℕ). Known op w h.from x s.tick (greeted w h s)) b
    (record { last = row_at h.from h.drawn s.last; when = s.tick; lasts = omega arith; mark = mark_greeted op w h s n }))

-- and stays known when a hello comes on another wire, if this has the same number or is of another box
known_away : (op : Bool) (w f d since u : ℕ) (g : Hello) (s : Links) → (w ≡ u → ⊥) → (g.from ≡ f → g.drawn ≡ d) → Known op w f d since s → Known op w f d since (greeted u g s)
known_away op w f d since u g s a b k = record {
  last = of_cond (λ (x : ℕ). x ≡ d) (eqb f g.from) g.drawn (s.last f) (λ i. b (sym (eqb-true f g.from i))) (λ _. k.last);
  when = k.when;
  lasts = k.lasts;
  mark = subst (Mark op f d k.when)
      (sym (row_off u w (cond (eqb g.heard s.drawn) (Open g.from g.drawn s.tick) (Heard g.from g.drawn s.tick)) (λ v. cond (eqb (s.last g.from) g.drawn) (s.wire v) (closed_to g.from (s.wire v))) a))
      (of_cond (Mark op f d k.when) (eqb (s.last g.from) g.drawn) (s.wire w) (closed_to g.from (s.wire w)) (λ _. k.mark)
      (λ j. mark_closed op g.from f d k.when (s.wire w) (λ e. eqb-false (s.last g.from) g.drawn j (ap s.last (sym e) ∙ (k.last ∙ sym (b (sym e))))) k.mark));
}

known_since : (op : Bool) (w f d t since : ℕ) (s : Links) → since ≤ t → Known op w f d t s → Known op w f d since s
known_since op w f d t since s h k = record { last = k.last; when = k.when; lasts = omega (arith, k.lasts); mark = k.mark }

-- open to nobody but f
abbrev pub Free : ℕ → Wire → Type 0
Free f x = (g d t : ℕ) → x ≡ Open g d t → g ≡ f

free_taken : (f : ℕ) (x : Wire) → Free f x → taken f x ≡ false
free_taken f Silent h = refl
free_taken f (Heard g d t) h = refl
free_taken f (Open g d t) h = ap not (eq-eqb g f (h g d t refl))

module _ (one other : Run) (w v : ℕ) (en : End one other w (SentLately other v)) (may : ℕ → Hello → Type 0) (eo : End other one v may) where
  -- what comes on the joined wire is of the other box, under its number
  sent_by_lem : (k : ℕ) (h : Hello) → SentLately other v k h → (h.from ≡ other.start.me) × (h.drawn ≡ other.start.drawn)
  sent_by_lem k h p = (ap (λ (g : Hello). g.from) p.is ∙ (steady_ticked other one v may eo p.step).self, ap (λ (g : Hello). g.drawn) p.is ∙ (steady_ticked other one v may eo p.step).number)

  -- a third box was heard no later than at the start
  third_at : (k g d t : ℕ) → (links_at one k).wire w ≡ Open g d t → (g ≡ other.start.me → ⊥) → t ≤ one.start.tick
  unfolding links_at
  third_at zero = λ g d t e n. let z : when_on (one.start.wire w) ≡ t = ap when_on e in omega (arith, en.past)
  third_at (suc k) = of_list (λ s. Third (s.wire w)) (Fair other w k (SentLately other v k))
      (λ i s f q. of_fair Third other w k (SentLately other v k) i s f q
      (λ h p _ g d t e n. let z : h.from ≡ g = cc in absurd (n (sym z ∙ (sent_by_lem k h p).0)))
      (λ h p g d t e n. heard_wire h.from h.drawn s.tick g d t e)
      (λ f x r g d t e n. r g d t (closed_open f x g d t e).0 n))
      (one.met k) (en.fair k) (ticked_at one k) (λ g d t e n. third_at k g d t (aged_open (suc (links_at one k).tick) ((links_at one k).wire w) g d t e).0 n)
    where
      Third : Wire → Type 0
      Third x = (g d t : ℕ) → x ≡ Open g d t → (g ≡ other.start.me → ⊥) → t ≤ one.start.tick

  -- so the wire is free after 40 steps
  pub free_ticked : (k : ℕ) → 40 ≤ k → Free other.start.me ((ticked_at one k).wire w)
  free_ticked k h g d t e =
      let p = aged_open (suc (links_at one k).tick) ((links_at one k).wire w) g d t e in
      elim (decide (eqb g other.start.me)) [ inl j ↦ eqb-true g other.start.me j | inr j ↦ absurd (omega (arith, p.1, (steady_at one other w (SentLately other v) en k).tick, third_at k g d t p.0 (eqb-false g other.start.me j))) ]

  free_meets : (k : ℕ) (i : Input) (s : Links) → Fair other w k (SentLately other v k) i → Free other.start.me (s.wire w) → Free other.start.me ((meets i s).wire w)
  free_meets k i s f q = of_fair (Free other.start.me) other w k (SentLately other v k) i s f q
      (λ h p _ g d t e. let z : h.from ≡ g = cc in sym z ∙ (sent_by_lem k h p).0)
      (λ h p g d t e. heard_wire h.from h.drawn s.tick g d t e)
      (λ f x r g d t e. r g d t (closed_open f x g d t e).0)

  -- and from the start on if it is free then
  free_at : NoThird other (one.start.wire w) → (k : ℕ) → Free other.start.me ((links_at one k).wire w)
  unfolding links_at
  free_at h zero = h
  free_at h (suc k) = of_list (λ s. Free other.start.me (s.wire w)) (Fair other w k (SentLately other v k)) (free_meets k) (one.met k) (en.fair k) (ticked_at one k)
      (λ g d t e. free_at h k g d t (aged_open (suc (links_at one k).tick) ((links_at one k).wire w) g d t e).0)

  pub free_start : NoThird other (one.start.wire w) → (k : ℕ) → 0 ≤ k → Free other.start.me ((ticked_at one k).wire w)
  free_start h k l g d t e = free_at h k g d t (aged_open (suc (links_at one k).tick) ((links_at one k).wire w) g d t e).0

  -- from step q on each hello that comes names this box's number, if that is asked
  abbrev Naming : Bool → ℕ → Type 0
  Naming op q = op ≡ true → (k : ℕ) (h : Hello) → q ≤ k → SentLately other v k h → h.heard ≡ one.start.drawn

  known_meets : (op : Bool) (q : ℕ) → Naming op q → (k now since : ℕ) → q ≤ k → since ≤ now → (i : Input) (s : Links) → Fair other w k (SentLately other v k) i → Steady one w now s → Known op w other.start.me other.start.drawn since s → Known op w other.start.me other.start.drawn since (meets i s)
  known_meets op q nm k now since l b Passes s f st kn = absurd f
  known_meets op q nm k now since l b (Hears u h) s f st kn = of_cond (Known op w other.start.me other.start.drawn since) (accepts u h s) (greeted u h s) s (λ _. go (eqb w u) refl) (λ _. kn)
    where
      go : (c : Bool) → eqb w u ≡ c → Known op w other.start.me other.start.drawn since (greeted u h s)
      go true e =
          let z : w ≡ u = eqb-true w u e in
          let p : SentLately other v k h = f.0 (sym z) in
          subst (λ (x : ℕ). Known op w other.start.me other.start.drawn since (greeted x h s)) z
          (known_since op w other.start.me other.start.drawn s.tick since (greeted w h s) (omega (arith, st.tick))
          (known_greeted op w other.start.me other.start.drawn h s (sent_by_lem k h p).0 (sent_by_lem k h p).1 (λ o. nm o k h l p ∙ sym st.number)))
      go false e = known_away op w other.start.me other.start.drawn since u h s (eqb-false w u e) (λ z. f.1 (λ y. eqb-false w u e (sym y)) z ∙ (steady_at other one v may eo k).number) kn
  known_meets op q nm k now since l b (Rewires c) s f st kn = record {
    last = kn.last;
    when = kn.when;
    lasts = kn.lasts;
    mark = of_cond (Mark op other.start.me other.start.drawn kn.when) (eqb (c w) 0) Silent (s.wire w) (λ j. let z : c w ≡ 0 = eqb-true (c w) 0 j in absurd (omega arith)) (λ _. kn.mark);
  }
  known_meets op q nm k now since l b (Fell d) s f st kn = absurd f

  -- a hello that comes makes the other known
  known_comes : (op : Bool) (q : ℕ) → Naming op q → (k now : ℕ) → q ≤ k → (h : Hello) → SentLately other v k h → (is : List Input) → ((i : Input) → is_of i is → Fair other w k (SentLately other v k) i) → is_of (Hears w h) is → (s : Links) → Steady one w now s → Free other.start.me (s.wire w) →
      Known op w other.start.me other.start.drawn now (links_after s is)
  unfolding is_of links_after
  known_comes op q nm k now l h p [] f m s st fr = absurd m
  known_comes op q nm k now l h p (i ∷ is) f (inr m) s st fr =
      known_meets op q nm k now now l (omega arith) i (links_after s is) (f i (inl refl)) (of_list (Steady one w now) (Fair other w k (SentLately other v k)) (λ i s f. steady_meets one other w now k (SentLately other v k) i s f) is (λ j y. f j (inr y)) s st)
      (known_comes op q nm k now l h p is (λ j y. f j (inr y)) m s st fr)
  known_comes op q nm k now l h p (i ∷ is) f (inl m) s st fr =
      let x = links_after s is in
      let sx : Steady one w now x = of_list (Steady one w now) (Fair other w k (SentLately other v k)) (λ i s f. steady_meets one other w now k (SentLately other v k) i s f) is (λ j y. f j (inr y)) s st in
      let fx : Free other.start.me (x.wire w) = of_list (λ s. Free other.start.me (s.wire w)) (Fair other w k (SentLately other v k)) (free_meets k) is (λ j y. f j (inr y)) s fr in
      let b = sent_by_lem k h p in
      let acc : accepts w h x ≡ true = accepting w h x en.there sx.costs (rw (b.0, sx.boxes, en.net) eo.box) (λ z. en.apart (sym sx.self ∙ (sym z ∙ b.0))) (rw b.1 eo.drew) (rw b.0 (free_taken other.start.me (x.wire w) fx)) in
      subst (λ (y : Input). Known op w other.start.me other.start.drawn now (meets y x)) m
      (subst (Known op w other.start.me other.start.drawn now) (sym (cond-true (accepts w h x) (greeted w h x) x acc))
      (known_since op w other.start.me other.start.drawn x.tick now (greeted w h x) (omega (arith, sx.tick)) (known_greeted op w other.start.me other.start.drawn h x b.0 b.1 (λ o. nm o k h l p ∙ sym sx.number))))

  known_new : (op : Bool) (q : ℕ) → Naming op q → (j : ℕ) → q ≤ j → Free other.start.me ((ticked_at one j).wire w) → (h : Hello) → is_of (Hears w h) (one.met j) → Known op w other.start.me other.start.drawn (one.start.tick + suc j) (links_at one (suc j))
  unfolding links_at
  known_new op q nm j l b h m = known_comes op q nm j (one.start.tick + suc j) l h ((en.fair j (Hears w h) m).0 refl) (one.met j) (en.fair j) m (ticked_at one j) (steady_ticked one other w (SentLately other v) en j) b

  -- and it stays known for 40 steps
  known_hold : (op : Bool) (j : ℕ) → Naming op j → Free other.start.me ((ticked_at one j).wire w) → (h : Hello) → is_of (Hears w h) (one.met j) → (k : ℕ) → suc j ≤ k → k ≤ j + 41 → Known op w other.start.me other.start.drawn (one.start.tick + suc j) (links_at one k)
  unfolding links_at
  known_hold op j nm b h m zero x y = absurd (omega arith)
  known_hold op j nm b h m (suc k) x y = go (eqb j k) refl (λ z. known_hold op j nm b h m k z (omega arith))
    where
      go : (c : Bool) → eqb j k ≡ c → (suc j ≤ k → Known op w other.start.me other.start.drawn (one.start.tick + suc j) (links_at one k)) → Known op w other.start.me other.start.drawn (one.start.tick + suc j) (links_at one (suc k))
      go true e ih = subst (λ (z : ℕ). Known op w other.start.me other.start.drawn (one.start.tick + suc j) (links_at one (suc z))) (eqb-true j k e) (known_new op j nm j (omega arith) b h m)
      go false e ih =
          let z : suc j ≤ k = omega (arith, eqb-false j k e) in
          (of_list (λ s. Steady one w (one.start.tick + suc k) s × Known op w other.start.me other.start.drawn (one.start.tick + suc j) s) (Fair other w k (SentLately other v k))
          (λ i s f p. (
            steady_meets one other w (one.start.tick + suc k) k (SentLately other v k) i s f p.0,
            known_meets op j nm k (one.start.tick + suc k) (one.start.tick + suc j) (omega arith) (omega arith) i s f p.0 p.1,
          ))
          (one.met k) (en.fair k) (ticked_at one k)
          (steady_ticked one other w (SentLately other v) en k, known_passes op w other.start.me other.start.drawn (one.start.tick + suc j) (links_at one k) (omega (arith, (steady_at one other w (SentLately other v) en k).tick)) (ih z))).1

  -- hellos don't overtake each other: what comes from an arrival on was sent no earlier than what came then
  in_order : (q : ℕ) (a : Arrival one other w v q) (k : ℕ) (h : Hello) → a.step ≤ k → (p : SentLately other v k h) → q ≤ p.step
  in_order q a k h l p = omega (arith, a.from_on, a.so_far, a.tenth, p.lately, sent_tenth other one v may eo p.step p.goes)

  -- what was sent from step q on names this box's number, if that is asked
  abbrev pub Names : Bool → ℕ → Type 0
  Names op q = op ≡ true → (k : ℕ) → q ≤ k → heard_on ((ticked_at other k).wire v) ≡ one.start.drawn

  -- the other is known from 32 steps on after enough came
  pub known_at : (op : Bool) (m q : ℕ) → Enough one other w v m → Names op q → m ≤ q → ((k : ℕ) → q ≤ k → Free other.start.me ((ticked_at one k).wire w)) → (k : ℕ) → q + 32 ≤ k →
      (t : ℕ) × Mark op other.start.me other.start.drawn t ((links_at one k).wire w) × Mark op other.start.me other.start.drawn t ((ticked_at one k).wire w)
  known_at op m q en' nm l b k h =
      let a = arrival one other w v m may eo en' (k - 32) (omega arith) in
      let kn = known_hold op a.step (λ o i g z p. ap (λ (x : Hello). x.heard) p.is ∙ nm o p.step (omega (arith, in_order (k - 32) a i g z p))) (b a.step (omega (arith, a.from_on, a.so_far)))
      (hello_for v (ticked_at other a.sent)) a.comes k (omega (arith, a.soon)) (omega (arith, a.from_on, a.so_far)) in
      (kn.when, kn.mark, mark_aged op (suc (links_at one k).tick) other.start.me other.start.drawn kn.when ((links_at one k).wire w) (omega (arith, kn.lasts, (steady_at one other w (SentLately other v) en k).tick, a.from_on, a.so_far)) kn.mark)

-- what one box sends from 32 steps on names the other's number; z is when its wire is free
names_at : (one other : Run) (w v m z : ℕ) → End one other w (SentLately other v) → End other one v (SentLately one w) → Enough one other w v m → ((k : ℕ) → z ≤ k → Free other.start.me ((ticked_at one k).wire w)) → (k : ℕ) → m + z + 32 ≤ k → heard_on ((ticked_at one k).wire w) ≡ other.start.drawn
names_at one other w v m z en eo h fr k l =
    let p = known_at one other w v en (SentLately one w) eo false m (m + z) h (λ e. let z : ◌≡◌ {A = ℕ} 0 1 = cc in absurd (omega arith)) (omega arith) (λ k b. fr k (omega arith)) k l in
    mark_heard false other.start.me other.start.drawn p.0 ((ticked_at one k).wire w) p.2

-- so that it opens the other's wire in 32 steps more
open_at : (one other : Run) (w v m z : ℕ) → End one other w (SentLately other v) → End other one v (SentLately one w) → Enough one other w v m → Enough other one v w m →
    ((k : ℕ) → z ≤ k → Free other.start.me ((ticked_at one k).wire w)) → ((k : ℕ) → z ≤ k → Free one.start.me ((ticked_at other k).wire v)) → (k : ℕ) → m + z + 64 ≤ k → OpenTo other k ((links_at one k).wire w)
open_at one other w v m z en eo h g fr fo k l =
    let p = known_at one other w v en (SentLately one w) eo true m (m + z + 32) h (λ o. names_at other one v w m z eo en g fo) (omega arith) (λ k b. fr k (omega arith)) k (omega arith) in
    (p.0, p.1 ∙ ap (λ (d : ℕ). Open other.start.me d p.0) (sym (steady_at other one v (SentLately one w) eo k).number))

pub both_open_lem : BothOpen
both_open_lem a e w v m ea ee ha he k l =
    let fa = free_ticked a e w v ea (SentLately a w) ee in
    let fe = free_ticked e a v w ee (SentLately e v) ea in
    (open_at a e w v m 40 ea ee ha he fa fe k (omega arith), open_at e a v w m 40 ee ea he ha fe fa k (omega arith))

pub both_open_sooner_lem : BothOpenSooner
both_open_sooner_lem a e w v m ea ee ha he na ne k l =
    let fa = free_start a e w v ea (SentLately a w) ee na in
    let fe = free_start e a v w ee (SentLately e v) ea ne in
    (open_at a e w v m 0 ea ee ha he fa fe k (omega arith), open_at e a v w m 0 ee ea he ha fe fa k (omega arith))
