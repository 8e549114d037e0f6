-- Moments of a history of hellos, and that no number is drawn by two boxes.
use Rattle.std.proofs.Common.{◌≡◌, ℕ, zero, suc, ◌<◌, Bool, true, false, not, ◌&&◌, ◌||◌, eqb, ltb, ◌⊎◌, List, [], ◌∷◌, ◌++◌, sym, refl, ap, ◌∙◌, subst, inl, inr, arith, ltb-true, eq-eqb, eqb-true}
use borrow.Author.Tests.{eqb-false}
use Rattle.model.specs.Flood.{row}
use Rattle.model.specs.Words.{is_in}
use Rattle.model.proofs.Tests.{of_cond, or_left, or_right}
use Rattle.linkmodel.proofs.Bools.{and_left, and_right, not-was}
use Rattle.model.proofs.Kept.{Each}
use Rattle.linkmodel.specs.Links.{Hello, Links, wires, greeted, passes, hears_hello, rewired, fell}
use Rattle.linkmodel.specs.Hellos.{Hellos, Move, Ticks, Arrives, Wired, Falls, on_box, hellos_out, arrives_nth, move, first_drawn, hellos, Drawn, accepts}

-- something was so at some moment
pub record Once (n : ℕ) (first : ℕ → ℕ) (ms : List Move) (P : Hellos → Type 0) : Type 0 where
  pub later : List Move
  pub before : List Move
  pub split : ms ≡ later ++ before
  pub so : P (hellos n first before)

pub once_now : (n : ℕ) (first : ℕ → ℕ) (ms : List Move) (P : Hellos → Type 0) → P (hellos n first ms) → Once n first ms P
once_now n first ms P h = record { later = []; before = ms; split = refl; so = h }

pub once_more : (n : ℕ) (first : ℕ → ℕ) (m : Move) (ms : List Move) (P : Hellos → Type 0) → Once n first ms P → Once n first (m ∷ ms) P
once_more n first m ms P o = record { later = m ∷ o.later; before = o.before; split = ap (λ (l : List Move). m ∷ l) o.split; so = o.so }

-- it is so now, or was before the last move
pub once_split : (n : ℕ) (first : ℕ → ℕ) (m : Move) (ms : List Move) (P : Hellos → Type 0) → Once n first (m ∷ ms) P → P (hellos n first (m ∷ ms)) ⊎ Once n first ms P
once_split n first m ms P o = go o.later o.split
  where
    go : (l : List Move) → (m ∷ ms) ≡ l ++ o.before → P (hellos n first (m ∷ ms)) ⊎ Once n first ms P
    go [] e = inl (subst (λ (l : List Move). P (hellos n first l)) (sym e) o.so)
    go (x ∷ l) e = let q : ms ≡ l ++ o.before = cc in inr (record { later = l; before = o.before; split = q; so = o.so })

pub once_first : (n : ℕ) (first : ℕ → ℕ) (P : Hellos → Type 0) → Once n first [] P → P (hellos n first [])
once_first n first P o = go o.later o.split
  where
    go : (l : List Move) → [] ≡ l ++ o.before → P (hellos n first [])
    go [] e = subst (λ (l : List Move). P (hellos n first l)) (sym e) o.so
    go (x ∷ l) e = let z : ◌≡◌ {A = ℕ} 0 1 = cc in absurd (omega arith)

-- box a once had the number r
abbrev pub Had : (n : ℕ) (first : ℕ → ℕ) (ms : List Move) (a r : ℕ) → Type 0
Had n first ms a r = Once n first ms (λ x. (x.box a).drawn ≡ r)

-- a property of every box after a move, from what can happen to it; G is so of each hello that was sent
pub of_move : (Q : Links → Type 0) (G : Hello → Type 0) (n : ℕ) (m : Move) (x : Hellos) (e : ℕ) → Each G x.sent → Q (x.box e) → Q (passes (x.box e)) → ((w : ℕ) (h : Hello) → G h → Q (hears_hello w h (x.box e))) →
    ((c : ℕ → ℕ) → Q (rewired c (x.box e))) → ((d : ℕ) → 0 < d → is_in d x.drawn ≡ false → Q (fell d (x.box e))) → Q ((move n m x).box e)
unfolding arrives_nth Each
of_move Q G n (Ticks a) x e g q p h c f = of_cond (λ (y : Hellos). Q (y.box e)) (ltb a n) (record { box = row a (passes (x.box a)) x.box; sent = hellos_out (passes (x.box a)) wires ++ x.sent; drawn = x.drawn }) x
    (λ _. of_cond Q (eqb e a) (passes (x.box a)) (x.box e) (λ i. subst (λ (k : ℕ). Q (passes (x.box k))) (eqb-true e a i) p) (λ _. q)) (λ _. q)
of_move Q G n (Arrives k a w) x e g q p h c f = of_cond (λ (y : Hellos). Q (y.box e)) (ltb a n) (arrives_nth k a w x.sent x) x (λ _. nth k x.sent g) (λ _. q)
  where
    nth : (k : ℕ) (hs : List Hello) → Each G hs → Q ((arrives_nth k a w hs x).box e)
    nth k [] z = q
    nth zero (y ∷ hs) z = of_cond Q (eqb e a) (hears_hello w y (x.box a)) (x.box e) (λ i. subst (λ (k : ℕ). Q (hears_hello w y (x.box k))) (eqb-true e a i) (h w y z.0)) (λ _. q)
    nth (suc k) (y ∷ hs) z = nth k hs z.1
of_move Q G n (Wired a cs) x e g q p h c f = of_cond (λ (y : Hellos). Q (y.box e)) (ltb a n) (on_box a (rewired cs) x) x
    (λ _. of_cond Q (eqb e a) (rewired cs (x.box a)) (x.box e) (λ i. subst (λ (k : ℕ). Q (rewired cs (x.box k))) (eqb-true e a i) (c cs)) (λ _. q)) (λ _. q)
of_move Q G n (Falls a d) x e g q p h c f = of_cond (λ (y : Hellos). Q (y.box e)) (ltb a n && (ltb 0 d && not (is_in d x.drawn))) (record { box = row a (fell d (x.box a)) x.box; sent = x.sent; drawn = d ∷ x.drawn }) x
    (λ j. of_cond Q (eqb e a) (fell d (x.box a)) (x.box e) (λ i. subst (λ (k : ℕ). Q (fell d (x.box k))) (eqb-true e a i)
    (f d (ltb-true 0 d (and_left (ltb 0 d) (not (is_in d x.drawn)) (and_right (ltb a n) (ltb 0 d && not (is_in d x.drawn)) j)))
    (not-was (is_in d x.drawn) (and_right (ltb 0 d) (not (is_in d x.drawn)) (and_right (ltb a n) (ltb 0 d && not (is_in d x.drawn)) j))))) (λ _. q)) (λ _. q)

-- a box has the number that it had, or has just drawn a new one
pub move_drawn : (n : ℕ) (m : Move) (x : Hellos) (a : ℕ) → (((move n m x).box a).drawn ≡ (x.box a).drawn) ⊎ ((m ≡ Falls a ((move n m x).box a).drawn) × ((is_in ((move n m x).box a).drawn x.drawn ≡ false) × (is_in ((move n m x).box a).drawn (move n m x).drawn ≡ true)))
unfolding is_in arrives_nth
move_drawn n (Ticks b) x a = inl (of_cond (λ (y : Hellos). (y.box a).drawn ≡ (x.box a).drawn) (ltb b n) (record { box = row b (passes (x.box b)) x.box; sent = hellos_out (passes (x.box b)) wires ++ x.sent; drawn = x.drawn }) x
    (λ _. of_cond (λ (y : Links). y.drawn ≡ (x.box a).drawn) (eqb a b) (passes (x.box b)) (x.box a) (λ i. ap (λ (k : ℕ). (x.box k).drawn) (sym (eqb-true a b i))) (λ _. refl)) (λ _. refl))
move_drawn n (Arrives k b w) x a = inl (of_cond (λ (y : Hellos). (y.box a).drawn ≡ (x.box a).drawn) (ltb b n) (arrives_nth k b w x.sent x) x (λ _. nth k x.sent) (λ _. refl))
  where
    nth : (k : ℕ) (hs : List Hello) → ((arrives_nth k b w hs x).box a).drawn ≡ (x.box a).drawn
    nth k [] = refl
    nth zero (h ∷ hs) = of_cond (λ (y : Links). y.drawn ≡ (x.box a).drawn) (eqb a b) (hears_hello w h (x.box b)) (x.box a)
        (λ i. of_cond (λ (y : Links). y.drawn ≡ (x.box a).drawn) (accepts w h (x.box b)) (greeted w h (x.box b)) (x.box b) (λ _. ap (λ (k : ℕ). (x.box k).drawn) (sym (eqb-true a b i))) (λ _. ap (λ (k : ℕ). (x.box k).drawn) (sym (eqb-true a b i)))) (λ _. refl)
    nth (suc k) (h ∷ hs) = nth k hs
move_drawn n (Wired b c) x a = inl (of_cond (λ (y : Hellos). (y.box a).drawn ≡ (x.box a).drawn) (ltb b n) (on_box b (rewired c) x) x
    (λ _. of_cond (λ (y : Links). y.drawn ≡ (x.box a).drawn) (eqb a b) (rewired c (x.box b)) (x.box a) (λ i. ap (λ (k : ℕ). (x.box k).drawn) (sym (eqb-true a b i))) (λ _. refl)) (λ _. refl))
move_drawn n (Falls b d) x a =
    of_cond (λ (y : Hellos). ((y.box a).drawn ≡ (x.box a).drawn) ⊎ ((Falls b d ≡ Falls a (y.box a).drawn) × ((is_in (y.box a).drawn x.drawn ≡ false) × (is_in (y.box a).drawn y.drawn ≡ true))))
    (ltb b n && (ltb 0 d && not (is_in d x.drawn))) (record { box = row b (fell d (x.box b)) x.box; sent = x.sent; drawn = d ∷ x.drawn }) x
    (λ j. of_cond (λ (y : Links). (y.drawn ≡ (x.box a).drawn) ⊎ ((Falls b d ≡ Falls a y.drawn) × ((is_in y.drawn x.drawn ≡ false) × (is_in y.drawn (d ∷ x.drawn) ≡ true)))) (eqb a b) (fell d (x.box b)) (x.box a)
    (λ i. inr (ap (λ (k : ℕ). Falls k d) (sym (eqb-true a b i)), (not-was (is_in d x.drawn) (and_right (ltb 0 d) (not (is_in d x.drawn)) (and_right (ltb b n) (ltb 0 d && not (is_in d x.drawn)) j)), or_left (eqb d d) (is_in d x.drawn) (eq-eqb d d refl))))
    (λ _. inl refl))
    (λ _. inl refl)

-- what was drawn stays drawn
pub still_drawn : (n : ℕ) (m : Move) (x : Hellos) (r : ℕ) → is_in r x.drawn ≡ true → is_in r (move n m x).drawn ≡ true
unfolding is_in arrives_nth
still_drawn n (Ticks b) x r e = of_cond (λ (y : Hellos). is_in r y.drawn ≡ true) (ltb b n) (record { box = row b (passes (x.box b)) x.box; sent = hellos_out (passes (x.box b)) wires ++ x.sent; drawn = x.drawn }) x (λ _. e) (λ _. e)
still_drawn n (Arrives k b w) x r e = of_cond (λ (y : Hellos). is_in r y.drawn ≡ true) (ltb b n) (arrives_nth k b w x.sent x) x (λ _. nth k x.sent) (λ _. e)
  where
    nth : (k : ℕ) (hs : List Hello) → is_in r (arrives_nth k b w hs x).drawn ≡ true
    nth k [] = e
    nth zero (h ∷ hs) = e
    nth (suc k) (h ∷ hs) = nth k hs
still_drawn n (Wired b c) x r e = of_cond (λ (y : Hellos). is_in r y.drawn ≡ true) (ltb b n) (on_box b (rewired c) x) x (λ _. e) (λ _. e)
still_drawn n (Falls b d) x r e = of_cond (λ (y : Hellos). is_in r y.drawn ≡ true) (ltb b n && (ltb 0 d && not (is_in d x.drawn))) (record { box = row b (fell d (x.box b)) x.box; sent = x.sent; drawn = d ∷ x.drawn }) x
    (λ _. or_right (eqb d r) (is_in r x.drawn) e) (λ _. e)

-- each first number is drawn
pub first_drawn_lem : (first : ℕ → ℕ) (n a : ℕ) → a < n → is_in (first a) (first_drawn first n) ≡ true
unfolding is_in first_drawn
first_drawn_lem first zero a h = absurd (omega arith)
first_drawn_lem first (suc k) a h = go (eqb a k) refl (λ z. first_drawn_lem first k a z)
  where
    go : (b : Bool) → eqb a k ≡ b → (a < k → is_in (first a) (first_drawn first k) ≡ true) → (eqb (first k) (first a) || is_in (first a) (first_drawn first k)) ≡ true
    go true e ih = or_left (eqb (first k) (first a)) (is_in (first a) (first_drawn first k)) (eq-eqb (first k) (first a) (ap first (sym (eqb-true a k e))))
    go false e ih = or_right (eqb (first k) (first a)) (is_in (first a) (first_drawn first k)) (ih (omega (arith, eqb-false a k e)))

-- a box's number is among those drawn
now_drawn : (n : ℕ) (first : ℕ → ℕ) (ms : List Move) (a : ℕ) → a < n → is_in ((hellos n first ms).box a).drawn (hellos n first ms).drawn ≡ true
unfolding hellos
now_drawn n first [] a h = first_drawn_lem first n a h
now_drawn n first (m ∷ ms) a h = go (move_drawn n m (hellos n first ms) a) (now_drawn n first ms a h)
  where
    go : (((hellos n first (m ∷ ms)).box a).drawn ≡ ((hellos n first ms).box a).drawn) ⊎ ((m ≡ Falls a ((hellos n first (m ∷ ms)).box a).drawn) × ((is_in ((hellos n first (m ∷ ms)).box a).drawn (hellos n first ms).drawn ≡ false) × (is_in ((hellos n first (m ∷ ms)).box a).drawn (hellos n first (m ∷ ms)).drawn ≡ true))) →
        is_in ((hellos n first ms).box a).drawn (hellos n first ms).drawn ≡ true → is_in ((hellos n first (m ∷ ms)).box a).drawn (hellos n first (m ∷ ms)).drawn ≡ true
    go (inl q) ih = subst (λ (r : ℕ). is_in r (hellos n first (m ∷ ms)).drawn ≡ true) (sym q) (still_drawn n m (hellos n first ms) ((hellos n first ms).box a).drawn ih)
    go (inr q) ih = q.1.1

-- and so is each that it ever had
pub once_drawn : (n : ℕ) (first : ℕ → ℕ) (ms : List Move) (a r : ℕ) → a < n → Had n first ms a r → is_in r (hellos n first ms).drawn ≡ true
unfolding hellos
once_drawn n first [] a r h o = subst (λ (k : ℕ). is_in k (hellos n first []).drawn ≡ true) (once_first n first (λ x. (x.box a).drawn ≡ r) o) (now_drawn n first [] a h)
once_drawn n first (m ∷ ms) a r h o = go (once_split n first m ms (λ x. (x.box a).drawn ≡ r) o) (λ z. once_drawn n first ms a r h z)
  where
    go : (((hellos n first (m ∷ ms)).box a).drawn ≡ r) ⊎ Had n first ms a r → (Had n first ms a r → is_in r (hellos n first ms).drawn ≡ true) → is_in r (hellos n first (m ∷ ms)).drawn ≡ true
    go (inl q) ih = subst (λ (k : ℕ). is_in k (hellos n first (m ∷ ms)).drawn ≡ true) q (now_drawn n first (m ∷ ms) a h)
    go (inr q) ih = still_drawn n m (hellos n first ms) r (ih q)

-- a number that a box has had was had before the last move, or was just drawn
had_cases : (n : ℕ) (first : ℕ → ℕ) (m : Move) (ms : List Move) (a r : ℕ) → Had n first (m ∷ ms) a r → Had n first ms a r ⊎ ((m ≡ Falls a r) × (is_in r (hellos n first ms).drawn ≡ false))
unfolding hellos
had_cases n first m ms a r o = go (once_split n first m ms (λ x. (x.box a).drawn ≡ r) o) (move_drawn n m (hellos n first ms) a)
  where
    go : (((hellos n first (m ∷ ms)).box a).drawn ≡ r) ⊎ Had n first ms a r → (((hellos n first (m ∷ ms)).box a).drawn ≡ ((hellos n first ms).box a).drawn) ⊎ ((m ≡ Falls a ((hellos n first (m ∷ ms)).box a).drawn) × ((is_in ((hellos n first (m ∷ ms)).box a).drawn (hellos n first ms).drawn ≡ false) × (is_in ((hellos n first (m ∷ ms)).box a).drawn (hellos n first (m ∷ ms)).drawn ≡ true))) →
        Had n first ms a r ⊎ ((m ≡ Falls a r) × (is_in r (hellos n first ms).drawn ≡ false))
    go (inr q) z = inl q
    go (inl q) (inl p) = inl (once_now n first ms (λ x. (x.box a).drawn ≡ r) (sym p ∙ q))
    go (inl q) (inr p) = inr (subst (λ (k : ℕ). (m ≡ Falls a k) × (is_in k (hellos n first ms).drawn ≡ false)) q (p.0, p.1.0))

-- no number is drawn by two boxes
pub drawn_once : (n : ℕ) (first : ℕ → ℕ) → Drawn n first → (ms : List Move) (a e r : ℕ) → a < n → e < n → Had n first ms a r → Had n first ms e r → a ≡ e
unfolding hellos
drawn_once n first dr [] a e r ha he p q = dr.1 a e ha he (once_first n first (λ x. (x.box a).drawn ≡ r) p ∙ sym (once_first n first (λ x. (x.box e).drawn ≡ r) q))
drawn_once n first dr (m ∷ ms) a e r ha he p q = go (had_cases n first m ms a r p) (had_cases n first m ms e r q) (λ x y. drawn_once n first dr ms a e r ha he x y)
  where
    go : Had n first ms a r ⊎ ((m ≡ Falls a r) × (is_in r (hellos n first ms).drawn ≡ false)) → Had n first ms e r ⊎ ((m ≡ Falls e r) × (is_in r (hellos n first ms).drawn ≡ false)) → (Had n first ms a r → Had n first ms e r → a ≡ e) → a ≡ e
    go (inl x) (inl y) ih = ih x y
    go (inl x) (inr y) ih = let f : is_in r (hellos n first ms).drawn ≡ true = once_drawn n first ms a r ha x in let b : is_in r (hellos n first ms).drawn ≡ false = y.1 in cc
    go (inr x) (inl y) ih = let f : is_in r (hellos n first ms).drawn ≡ true = once_drawn n first ms e r he y in let b : is_in r (hellos n first ms).drawn ≡ false = x.1 in cc
    go (inr x) (inr y) ih = let u : m ≡ Falls a r = x.0 in let v : m ≡ Falls e r = y.0 in cc
