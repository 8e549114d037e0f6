-- One box step by step: what stays the same, what its joined wire can become, and when hellos come.
use Rattle.std.proofs.Common.{◌≡◌, ℕ, zero, suc, ◌+◌, ◌-◌, ◌%◌, ◌<◌, ◌≤◌, true, cond, eqb, ltb, ◌⊎◌, List, [], ◌∷◌, sym, refl, ap, subst, inl, inr, arith, lt-ltb, eq-eqb, eqb-true}
use Rattle.model.proofs.Tests.{of_cond}
use Rattle.linkmodel.proofs.Bools.{and_both, and_right}
use Rattle.linkmodel.specs.Links.{Wire, Silent, Heard, Open, Hello, Links, hello_every, closed_to, greeted, passes, hello_for, sends_hello}
use Rattle.linkmodel.specs.Hellos.{Input, Passes, Hears, Rewires, Fell, meets, links_after, accepts}
use Rattle.linkmodel.specs.Agreeing.{Run, links_at, ticked_at, is_of, Fair, End, Came, Enough}

-- what stays the same: who the box is, of how many, its number, and that its wire w is there; and its tick is now
pub record Steady (one : Run) (w now : ℕ) (s : Links) : Type 0 where
  pub boxes : s.n ≡ one.start.n
  pub self : s.me ≡ one.start.me
  pub number : s.drawn ≡ one.start.drawn
  pub costs : 0 < s.cost w
  pub tick : s.tick ≡ now

pub steady_meets : (one other : Run) (w now k : ℕ) (may : Hello → Type 0) (i : Input) (s : Links) → Fair other w k may i → Steady one w now s → Steady one w now (meets i s)
steady_meets one other w now k may Passes s f st = absurd f
steady_meets one other w now k may (Hears u h) s f st = of_cond (Steady one w now) (accepts u h s) (greeted u h s) s (λ _. record { boxes = st.boxes; self = st.self; number = st.number; costs = st.costs; tick = st.tick }) (λ _. st)
steady_meets one other w now k may (Rewires c) s f st = record { boxes = st.boxes; self = st.self; number = st.number; costs = f; tick = st.tick }
steady_meets one other w now k may (Fell d) s f st = absurd f

pub steady_passes : (one : Run) (w now : ℕ) (s : Links) → Steady one w now s → Steady one w (suc now) (passes s)
steady_passes one w now s st = record { boxes = st.boxes; self = st.self; number = st.number; costs = st.costs; tick = ap suc st.tick }

-- what each fair input keeps, all of them keep
pub of_list : (I : Links → Type 0) (F : Input → Type 0) → ((i : Input) (s : Links) → F i → I s → I (meets i s)) → (is : List Input) → ((i : Input) → is_of i is → F i) → (s : Links) → I s → I (links_after s is)
unfolding links_after is_of
of_list I F h [] f s k = k
of_list I F h (i ∷ is) f s k = h i (links_after s is) (f i (inl refl)) (of_list I F h is (λ j p. f j (inr p)) s k)

-- a property of the joined wire after a fair input
pub of_fair : (Q : Wire → Type 0) (other : Run) (w k : ℕ) (may : Hello → Type 0) (i : Input) (s : Links) → Fair other w k may i → Q (s.wire w) →
    ((h : Hello) → may h → h.heard ≡ s.drawn → Q (Open h.from h.drawn s.tick)) → ((h : Hello) → may h → Q (Heard h.from h.drawn s.tick)) → ((f : ℕ) (x : Wire) → Q x → Q (closed_to f x)) → Q ((meets i s).wire w)
of_fair Q other w k may Passes s f q o h c = absurd f
of_fair Q other w k may (Hears u g) s f q o h c =
    of_cond (λ (y : Links). Q (y.wire w)) (accepts u g s) (greeted u g s) s
    (λ _. of_cond Q (eqb w u) (cond (eqb g.heard s.drawn) (Open g.from g.drawn s.tick) (Heard g.from g.drawn s.tick)) (cond (eqb (s.last g.from) g.drawn) (s.wire w) (closed_to g.from (s.wire w)))
    (λ e. let m : may g = f.0 (sym (eqb-true w u e)) in of_cond Q (eqb g.heard s.drawn) (Open g.from g.drawn s.tick) (Heard g.from g.drawn s.tick) (λ j. o g m (eqb-true g.heard s.drawn j)) (λ _. h g m))
    (λ _. of_cond Q (eqb (s.last g.from) g.drawn) (s.wire w) (closed_to g.from (s.wire w)) (λ _. q) (λ _. c g.from (s.wire w) q)))
    (λ _. q)
of_fair Q other w k may (Rewires c) s f q o h cl = of_cond Q (eqb (c w) 0) Silent (s.wire w) (λ j. let z : c w ≡ 0 = eqb-true (c w) 0 j in absurd (omega arith)) (λ _. q)
of_fair Q other w k may (Fell d) s f q o h c = absurd f

module _ (one other : Run) (w : ℕ) (may : ℕ → Hello → Type 0) (en : End one other w may) where
  pub steady_step : (k : ℕ) (now : ℕ) (s : Links) → Steady one w now s → Steady one w now (links_after s (one.met k))
  steady_step k now s st = of_list (Steady one w now) (Fair other w k (may k)) (λ i s f. steady_meets one other w now k (may k) i s f) (one.met k) (en.fair k) s st

  pub steady_at : (k : ℕ) → Steady one w (one.start.tick + k) (links_at one k)
  unfolding links_at
  steady_at zero = record { boxes = refl; self = refl; number = refl; costs = en.costs; tick = omega arith }
  steady_at (suc k) =
      let e : suc (one.start.tick + k) ≡ one.start.tick + suc k = omega arith in
      subst (λ (t : ℕ). Steady one w t (links_at one (suc k))) e (steady_step k (suc (one.start.tick + k)) (passes (links_at one k)) (steady_passes one w (one.start.tick + k) (links_at one k) (steady_at k)))

  pub steady_ticked : (k : ℕ) → Steady one w (one.start.tick + suc k) (ticked_at one k)
  steady_ticked k =
      let e : suc (one.start.tick + k) ≡ one.start.tick + suc k = omega arith in
      subst (λ (t : ℕ). Steady one w t (ticked_at one k)) e (steady_passes one w (one.start.tick + k) (links_at one k) (steady_at k))

  -- its hellos go out at every tenth tick
  pub sends_at : (k : ℕ) → (one.start.tick + suc k) % hello_every ≡ 0 → sends_hello w (ticked_at one k) ≡ true
  sends_at k e = and_both (ltb 0 ((ticked_at one k).cost w)) (eqb ((ticked_at one k).tick % hello_every) 0) (lt-ltb 0 ((ticked_at one k).cost w) (steady_ticked k).costs) (eq-eqb ((ticked_at one k).tick % hello_every) 0 (rw (steady_ticked k).tick e))

  -- and at no other
  pub sent_tenth : (k : ℕ) → sends_hello w (ticked_at one k) ≡ true → (one.start.tick + suc k) % hello_every ≡ 0
  sent_tenth k e = rw (sym (steady_ticked k).tick) (eqb-true ((ticked_at one k).tick % hello_every) 0 (and_right (ltb 0 ((ticked_at one k).cost w)) (eqb ((ticked_at one k).tick % hello_every) 0) e))

-- one of ten numbers is 0 modulo 10
pub next_send : (t m : ℕ) → (j : ℕ) × (m ≤ j) × (j ≤ m + 9) × ((t + suc j) % hello_every ≡ 0)
next_send t m = (m + (9 - (t + m) % 10), omega arith, omega arith, omega arith)

-- a hello comes that was sent in step q or later, no more than 31 steps after q
pub record Arrival (one other : Run) (w v q : ℕ) : Type 0 where
  pub sent : ℕ
  pub step : ℕ
  pub from_on : q ≤ sent
  pub so_far : sent ≤ step
  pub soon : step ≤ q + 31
  pub tenth : (other.start.tick + suc sent) % hello_every ≡ 0
  pub comes : is_of (Hears w (hello_for v (ticked_at other sent))) (one.met step)

pub arrival : (one other : Run) (w v m : ℕ) (may : ℕ → Hello → Type 0) → End other one v may → Enough one other w v m → (q : ℕ) → m ≤ q → Arrival one other w v q
arrival one other w v m may en h q l =
    let n = next_send other.start.tick q in
    go n.0 n.1 n.2 n.3 (h n.0 (omega (arith, n.1)) (sends_at other one v may en n.0 n.3))
  where
    go : (j : ℕ) → q ≤ j → j ≤ q + 9 → (other.start.tick + suc j) % hello_every ≡ 0 → Came one other w v j ⊎ (Came one other w v (j + hello_every) ⊎ Came one other w v (j + hello_every + hello_every)) → Arrival one other w v q
    go j a b t (inl c) = record { sent = j; step = c.0; from_on = a; so_far = c.1; soon = omega (arith, c.2); tenth = t; comes = c.3 }
    go j a b t (inr (inl c)) = record { sent = j + hello_every; step = c.0; from_on = omega arith; so_far = c.1; soon = omega (arith, c.2); tenth = omega arith; comes = c.3 }
    go j a b t (inr (inr c)) = record { sent = j + hello_every + hello_every; step = c.0; from_on = omega arith; so_far = c.1; soon = omega (arith, c.2); tenth = omega arith; comes = c.3 }
