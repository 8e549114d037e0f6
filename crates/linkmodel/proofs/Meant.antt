-- What an open wire means in a net: the box that it is open to has heard this one, in this life of both.
use Rattle.std.proofs.Common.{◌≡◌, ℕ, zero, suc, ◌+◌, ◌<◌, Bool, true, false, cond, not, ◌&&◌, eqb, ltb, ◌⊎◌, List, [], ◌∷◌, ◌++◌, Some, Option, sym, refl, ap, subst, inl, inr, arith, ltb-true, eq-eqb}
use Rattle.model.specs.Flood.{row}
use Rattle.model.specs.Words.{is_in}
use Rattle.model.proofs.Tests.{of_cond, cond-true}
use Rattle.model.proofs.Kept.{Each, each_more}
use Rattle.linkmodel.specs.Links.{Wire, Silent, Heard, Open, Hello, Links, wires, holds_for, heard_on, who_on, aged, closed_to, hello_for, sends_hello, greeted, passes, rewired, fell}
use Rattle.linkmodel.specs.Hellos.{Hellos, Move, Ticks, Arrives, Wired, Falls, on_box, hellos_out, arrives_nth, move, hellos, Drawn, accepts, OpenMeans}
use Rattle.linkmodel.proofs.Wires.{shut_wire, aged_open, OpenedBy, OpenBefore, greeted_open}
use Rattle.linkmodel.proofs.Moments.{Once, once_now, once_more, Had, of_move, drawn_once}

-- P is so of whoever was heard on a wire, and of the number heard
abbrev pub Heards : (ℕ → ℕ → Type 0) → Wire → Type 0
Heards P x = (f : ℕ) → who_on x ≡ Some f → P f (heard_on x)

pub heards_silent : (P : ℕ → ℕ → Type 0) → Heards P Silent
heards_silent P f e = let z : ◌≡◌ {A = ℕ} 0 1 = cc in absurd (omega arith)

pub heards_aged : (P : ℕ → ℕ → Type 0) (now : ℕ) (x : Wire) → Heards P x → Heards P (aged now x)
heards_aged P now Silent h = h
heards_aged P now (Heard f d t) h = of_cond (Heards P) (ltb (t + holds_for) now) Silent (Heard f d t) (λ _. heards_silent P) (λ _. h)
heards_aged P now (Open f d t) h = of_cond (Heards P) (ltb (t + holds_for) now) Silent (Open f d t) (λ _. heards_silent P) (λ _. h)

pub heards_closed : (P : ℕ → ℕ → Type 0) (a : ℕ) (x : Wire) → Heards P x → Heards P (closed_to a x)
heards_closed P a Silent h = h
heards_closed P a (Heard f d t) h = h
heards_closed P a (Open f d t) h = of_cond (Heards P) (eqb f a) (Heard f d t) (Open f d t) (λ _. h) (λ _. h)

some_path : (P : ℕ → ℕ → Type 0) (f d : ℕ) → P f d → (g : ℕ) → ◌≡◌ {A = Option ℕ} (Some f) (Some g) → P g d
some_path P f d p g e = let q : f ≡ g = cc in subst (λ (k : ℕ). P k d) q p

pub heards_greeted : (P : ℕ → ℕ → Type 0) (v : ℕ) (h : Hello) (s : Links) → P h.from h.drawn → ((w : ℕ) → Heards P (s.wire w)) → (w : ℕ) → Heards P ((greeted v h s).wire w)
heards_greeted P v h s p k w =
    of_cond (Heards P) (eqb w v) (cond (eqb h.heard s.drawn) (Open h.from h.drawn s.tick) (Heard h.from h.drawn s.tick)) (cond (eqb (s.last h.from) h.drawn) (s.wire w) (closed_to h.from (s.wire w)))
    (λ _. of_cond (Heards P) (eqb h.heard s.drawn) (Open h.from h.drawn s.tick) (Heard h.from h.drawn s.tick) (λ _. some_path P h.from h.drawn p) (λ _. some_path P h.from h.drawn p))
    (λ _. of_cond (Heards P) (eqb (s.last h.from) h.drawn) (s.wire w) (closed_to h.from (s.wire w)) (λ _. k w) (λ _. heards_closed P h.from (s.wire w) (k w)))

-- once e, with the number r, had heard box b under the number x on some wire
abbrev pub Met : (n : ℕ) (first : ℕ → ℕ) (ms : List Move) (e r b x : ℕ) → Type 0
Met n first ms e r b x = Once n first ms (λ y. ((y.box e).drawn ≡ r) × ((v : ℕ) × (who_on ((y.box e).wire v) ≡ Some b) × (heard_on ((y.box e).wire v) ≡ x)))

-- a hello was sent by a box under its number, and what it says was heard was heard
pub record Honest (n : ℕ) (first : ℕ → ℕ) (ms : List Move) (h : Hello) : Type 0 where
  pub one : h.from < n
  pub drew : Had n first ms h.from h.drawn
  pub met : (h.heard ≡ 0) ⊎ ((b : ℕ) × (b < n) × Had n first ms b h.heard × Met n first ms h.from h.drawn b h.heard)

honest_more : (n : ℕ) (first : ℕ → ℕ) (m : Move) (ms : List Move) (h : Hello) → Honest n first ms h → Honest n first (m ∷ ms) h
honest_more n first m ms h k = record { one = k.one; drew = once_more n first m ms (λ x. (x.box h.from).drawn ≡ h.drawn) k.drew; met = go k.met }
  where
    go : (h.heard ≡ 0) ⊎ ((b : ℕ) × (b < n) × Had n first ms b h.heard × Met n first ms h.from h.drawn b h.heard) → (h.heard ≡ 0) ⊎ ((b : ℕ) × (b < n) × Had n first (m ∷ ms) b h.heard × Met n first (m ∷ ms) h.from h.drawn b h.heard)
    go (inl z) = inl z
    go (inr z) = inr (
      z.0,
      z.1,
      once_more n first m ms (λ x. (x.box z.0).drawn ≡ h.heard) z.2,
      once_more n first m ms (λ y. ((y.box h.from).drawn ≡ h.drawn) × ((v : ℕ) × (who_on ((y.box h.from).wire v) ≡ Some z.0) × (heard_on ((y.box h.from).wire v) ≡ h.heard))) z.3,
    )

-- all boxes know themselves, what was sent is honest, and what is heard and open on their wires is so
pub record Sane (n : ℕ) (first : ℕ → ℕ) (ms : List Move) : Type 0 where
  pub self : (a : ℕ) → a < n → (((hellos n first ms).box a).me ≡ a) × (0 < ((hellos n first ms).box a).drawn)
  pub sent : Each (Honest n first ms) (hellos n first ms).sent
  pub heard : (a : ℕ) → a < n → (w : ℕ) → Heards (λ f d. (f < n) × Had n first ms f d) (((hellos n first ms).box a).wire w)
  pub opens : (a : ℕ) → a < n → (w e r t : ℕ) → ((hellos n first ms).box a).wire w ≡ Open e r t → Met n first ms e r a ((hellos n first ms).box a).drawn

sane_start : (n : ℕ) (first : ℕ → ℕ) → Drawn n first → Sane n first []
unfolding hellos Each
sane_start n first dr = record { self = λ a h. (refl, dr.0 a h); sent = tt; heard = λ a h w. heards_silent (λ f d. (f < n) × Had n first [] f d); opens = λ a h w e r t q. shut_wire e r t q }

each_append : {A : Type 0} (G : A → Type 0) (xs ys : List A) → Each G xs → Each G ys → Each G (xs ++ ys)
unfolding Each
each_append G [] ys p q = q
each_append G (x ∷ xs) ys p q = (p.0, each_append G xs ys p.1 q)

each_out : (G : Hello → Type 0) (s : Links) → ((w : ℕ) → G (hello_for w s)) → (k : ℕ) → Each G (hellos_out s k)
unfolding Each hellos_out
each_out G s h zero = tt
each_out G s h (suc k) = of_cond (Each G) (sends_hello k s) (hello_for k s ∷ hellos_out s k) (hellos_out s k) (λ _. (h k, each_out G s h k)) (λ _. each_out G s h k)

-- what holds of all sent, of all that a box that ticks sends
of_sent : (G : Hello → Type 0) (n : ℕ) (m : Move) (x : Hellos) → Each G x.sent → ((a w : ℕ) → a < n → (move n m x).box a ≡ passes (x.box a) → G (hello_for w (passes (x.box a)))) → Each G (move n m x).sent
unfolding arrives_nth
of_sent G n (Ticks b) x k h = go (ltb b n) refl (h b)
  where
    go : (c : Bool) → ltb b n ≡ c → ((w : ℕ) → b < n → (cond (ltb b n) (record { box = row b (passes (x.box b)) x.box; sent = hellos_out (passes (x.box b)) wires ++ x.sent; drawn = x.drawn }) x).box b ≡ passes (x.box b) → G (hello_for w (passes (x.box b)))) → Each G (cond (ltb b n) (record { box = row b (passes (x.box b)) x.box; sent = hellos_out (passes (x.box b)) wires ++ x.sent; drawn = x.drawn }) x).sent
    go true e f = rw e (each_append G (hellos_out (passes (x.box b)) wires) x.sent
        (each_out G (passes (x.box b)) (λ w. f w (ltb-true b n e) (rw e (cond-true (eqb b b) (passes (x.box b)) (x.box b) (eq-eqb b b refl)))) wires) k)
    go false e f = rw e k
of_sent G n (Arrives i b w) x k h = of_cond (λ (y : Hellos). Each G y.sent) (ltb b n) (arrives_nth i b w x.sent x) x (λ _. nth i x.sent) (λ _. k)
  where
    nth : (i : ℕ) (hs : List Hello) → Each G (arrives_nth i b w hs x).sent
    nth i [] = k
    nth zero (y ∷ hs) = k
    nth (suc i) (y ∷ hs) = nth i hs
of_sent G n (Wired b c) x k h = of_cond (λ (y : Hellos). Each G y.sent) (ltb b n) (on_box b (rewired c) x) x (λ _. k) (λ _. k)
of_sent G n (Falls b d) x k h = of_cond (λ (y : Hellos). Each G y.sent) (ltb b n && (ltb 0 d && not (is_in d x.drawn))) (record { box = row b (fell d (x.box b)) x.box; sent = x.sent; drawn = d ∷ x.drawn }) x (λ _. k) (λ _. k)

-- a wire that was heard, or whose number is 0
who_heard : (x : Wire) → (heard_on x ≡ 0) ⊎ ((f : ℕ) × (who_on x ≡ Some f))
who_heard Silent = inl refl
who_heard (Heard f d t) = inr (f, refl)
who_heard (Open f d t) = inr (f, refl)

module _ (n : ℕ) (first : ℕ → ℕ) (dr : Drawn n first) (m : Move) (ms : List Move) (k : Sane n first ms) where
  more_had : (f d : ℕ) → (f < n) × Had n first ms f d → (f < n) × Had n first (m ∷ ms) f d
  more_had f d p = (p.0, once_more n first m ms (λ x. (x.box f).drawn ≡ d) p.1)

  more_met : (e r b x : ℕ) → Met n first ms e r b x → Met n first (m ∷ ms) e r b x
  more_met e r b x p = once_more n first m ms (λ y. ((y.box e).drawn ≡ r) × ((v : ℕ) × (who_on ((y.box e).wire v) ≡ Some b) × (heard_on ((y.box e).wire v) ≡ x))) p

  self_step : (a : ℕ) → a < n → (((hellos n first (m ∷ ms)).box a).me ≡ a) × (0 < ((hellos n first (m ∷ ms)).box a).drawn)
  unfolding hellos
  self_step a h = of_move (λ s. (s.me ≡ a) × (0 < s.drawn)) (Honest n first ms) n m (hellos n first ms) a k.sent (k.self a h) (k.self a h)
      (λ w g _. of_cond (λ (s : Links). (s.me ≡ a) × (0 < s.drawn)) (accepts w g ((hellos n first ms).box a)) (greeted w g ((hellos n first ms).box a)) ((hellos n first ms).box a) (λ _. k.self a h) (λ _. k.self a h))
      (λ c. k.self a h) (λ d p _. ((k.self a h).0, p))

  heard_step : (a : ℕ) → a < n → (w : ℕ) → Heards (λ f d. (f < n) × Had n first (m ∷ ms) f d) (((hellos n first (m ∷ ms)).box a).wire w)
  unfolding hellos
  heard_step a h = of_move (λ s. (w : ℕ) → Heards (λ f d. (f < n) × Had n first (m ∷ ms) f d) (s.wire w)) (Honest n first ms) n m (hellos n first ms) a k.sent old
      (λ w. heards_aged (λ f d. (f < n) × Had n first (m ∷ ms) f d) (suc ((hellos n first ms).box a).tick) (((hellos n first ms).box a).wire w) (old w))
      (λ v g p. of_cond (λ (s : Links). (w : ℕ) → Heards (λ f d. (f < n) × Had n first (m ∷ ms) f d) (s.wire w)) (accepts v g ((hellos n first ms).box a)) (greeted v g ((hellos n first ms).box a)) ((hellos n first ms).box a)
      (λ _. heards_greeted (λ f d. (f < n) × Had n first (m ∷ ms) f d) v g ((hellos n first ms).box a) (more_had g.from g.drawn (p.one, p.drew)) old) (λ _. old))
      (λ c w. of_cond (Heards (λ f d. (f < n) × Had n first (m ∷ ms) f d)) (eqb (c w) 0) Silent (((hellos n first ms).box a).wire w) (λ _. heards_silent (λ f d. (f < n) × Had n first (m ∷ ms) f d)) (λ _. old w))
      (λ d _ _ w. heards_silent (λ f d. (f < n) × Had n first (m ∷ ms) f d))
    where
      old : (w : ℕ) → Heards (λ f d. (f < n) × Had n first (m ∷ ms) f d) (((hellos n first ms).box a).wire w)
      old w f q = more_had f (heard_on (((hellos n first ms).box a).wire w)) (k.heard a h w f q)

  sent_step : Each (Honest n first (m ∷ ms)) (hellos n first (m ∷ ms)).sent
  unfolding hellos
  sent_step = of_sent (Honest n first (m ∷ ms)) n m (hellos n first ms) (each_more (Honest n first ms) (Honest n first (m ∷ ms)) (honest_more n first m ms) (hellos n first ms).sent k.sent) new
    where
      new : (a w : ℕ) → a < n → (hellos n first (m ∷ ms)).box a ≡ passes ((hellos n first ms).box a) → Honest n first (m ∷ ms) (hello_for w (passes ((hellos n first ms).box a)))
      new a w h e = subst (λ (s : Links). Honest n first (m ∷ ms) (hello_for w s)) e (record {
        one = rw (self_step a h).0 h;
        drew = rw (self_step a h).0 (once_now n first (m ∷ ms) (λ x. (x.box a).drawn ≡ ((hellos n first (m ∷ ms)).box a).drawn) refl);
        met = met (who_heard (((hellos n first (m ∷ ms)).box a).wire w));
      })
        where
          met : (heard_on (((hellos n first (m ∷ ms)).box a).wire w) ≡ 0) ⊎ ((f : ℕ) × (who_on (((hellos n first (m ∷ ms)).box a).wire w) ≡ Some f)) →
              (heard_on (((hellos n first (m ∷ ms)).box a).wire w) ≡ 0) ⊎ ((b : ℕ) × (b < n) × Had n first (m ∷ ms) b (heard_on (((hellos n first (m ∷ ms)).box a).wire w)) × Met n first (m ∷ ms) ((hellos n first (m ∷ ms)).box a).me ((hellos n first (m ∷ ms)).box a).drawn b (heard_on (((hellos n first (m ∷ ms)).box a).wire w)))
          met (inl z) = inl z
          met (inr z) =
              let p = heard_step a h w z.0 z.1 in
              inr (
                z.0,
                p.0,
                p.1,
                rw (self_step a h).0 (once_now n first (m ∷ ms)
                    (λ y. ((y.box a).drawn ≡ ((hellos n first (m ∷ ms)).box a).drawn) × ((v : ℕ) × (who_on ((y.box a).wire v) ≡ Some z.0) × (heard_on ((y.box a).wire v) ≡ heard_on (((hellos n first (m ∷ ms)).box a).wire w)))) (refl, (w, z.1, refl))),
              )

  opens_step : (a : ℕ) → a < n → (w e r t : ℕ) → ((hellos n first (m ∷ ms)).box a).wire w ≡ Open e r t → Met n first (m ∷ ms) e r a ((hellos n first (m ∷ ms)).box a).drawn
  unfolding hellos
  opens_step a h = of_move (λ s. (w e r t : ℕ) → s.wire w ≡ Open e r t → Met n first (m ∷ ms) e r a s.drawn) (Honest n first ms) n m (hellos n first ms) a k.sent old
      (λ w e r t q. old w e r t (aged_open (suc ((hellos n first ms).box a).tick) (((hellos n first ms).box a).wire w) e r t q).0)
      (λ v g p. of_cond (λ (s : Links). (w e r t : ℕ) → s.wire w ≡ Open e r t → Met n first (m ∷ ms) e r a s.drawn) (accepts v g ((hellos n first ms).box a)) (greeted v g ((hellos n first ms).box a)) ((hellos n first ms).box a)
      (λ _ w e r t q. greets v g p w e r t (greeted_open v g ((hellos n first ms).box a) w e r t q)) (λ _. old))
      (λ c w e r t. of_cond (λ (y : Wire). y ≡ Open e r t → Met n first (m ∷ ms) e r a ((hellos n first ms).box a).drawn) (eqb (c w) 0) Silent (((hellos n first ms).box a).wire w) (λ _ q. shut_wire e r t q) (λ _ q. old w e r t q))
      (λ d _ _ w e r t q. shut_wire e r t q)
    where
      old : (w e r t : ℕ) → ((hellos n first ms).box a).wire w ≡ Open e r t → Met n first (m ∷ ms) e r a ((hellos n first ms).box a).drawn
      old w e r t q = more_met e r a ((hellos n first ms).box a).drawn (k.opens a h w e r t q)

      by_hello : (g : Hello) → (g.heard ≡ 0) ⊎ ((b : ℕ) × (b < n) × Had n first ms b g.heard × Met n first ms g.from g.drawn b g.heard) → g.heard ≡ ((hellos n first ms).box a).drawn → Met n first ms g.from g.drawn a ((hellos n first ms).box a).drawn
      by_hello g (inl z) q = absurd (omega (arith, (k.self a h).1))
      by_hello g (inr z) q =
          let b : z.0 ≡ a = drawn_once n first dr ms z.0 a g.heard z.1 h z.2 (once_now n first ms (λ x. (x.box a).drawn ≡ g.heard) (sym q)) in
          subst (λ (x : ℕ). Met n first ms g.from g.drawn a x) q (subst (λ (x : ℕ). Met n first ms g.from g.drawn x g.heard) b z.3)

      greets : (v : ℕ) (g : Hello) → Honest n first ms g → (w e r t : ℕ) → OpenedBy v g ((hellos n first ms).box a) w e r t ⊎ OpenBefore v g ((hellos n first ms).box a) w e r t → Met n first (m ∷ ms) e r a ((hellos n first ms).box a).drawn
      greets v g p w e r t (inl o) = more_met e r a ((hellos n first ms).box a).drawn (subst (λ (x : ℕ). Met n first ms x r a ((hellos n first ms).box a).drawn) (sym o.who) (subst (λ (x : ℕ). Met n first ms g.from x a ((hellos n first ms).box a).drawn) (sym o.which) (by_hello g p.met o.names)))
      greets v g p w e r t (inr o) = old w e r t o.was

  sane_step : Sane n first (m ∷ ms)
  sane_step = record { self = self_step; sent = sent_step; heard = heard_step; opens = opens_step }

pub sane : (n : ℕ) (first : ℕ → ℕ) → Drawn n first → (ms : List Move) → Sane n first ms
sane n first dr [] = sane_start n first dr
sane n first dr (m ∷ ms) = sane_step n first dr m ms (sane n first dr ms)

pub open_means_lem : OpenMeans
open_means_lem n first ms dr a w e r t h q =
    let o = (sane n first dr ms).opens a h w e r t q in
    (((sane n first dr ms).heard a h w e (ap who_on q)).0, (o.later, o.before, o.so.1.0, o.split, o.so.0, o.so.1.1, o.so.1.2))
