-- The first turn, and what stands when no box is open any more.
-- Assumes nothing.
use Rattle.std.proofs.Common.{◌≡◌, ℕ, zero, suc, ◌+◌, ◌<◌, ◌≤◌, Bool, true, false, cond, T, eqb, ◌⊎◌, sym, refl, ap, ◌∙◌, subst, inl, inr, arith, ne_eqb, eqb-true}
use borrow.Author.Tests.{eqb-false}
use Rattle.model.specs.Map.{Map, Far, Never, At, far, Nowhere, To, hop, has_way}
use Rattle.model.proofs.Counts.{count, count_lt, count_below}
use Rattle.model.proofs.Fars.{at_inj, never_at}
use Rattle.model.proofs.Settled.{far_self}
use Rattle.model.proofs.Hopping.{hop_home, hop_never}
use Rattle.ways.specs.Numbers.{hop_of}
use Rattle.ways.proofs.Firsts.{Lowest, lowest_hop}
use Rattle.ways.proofs.Goes.{first_by, first_here, Going, beyond}
use Rattle.ways.proofs.Turn.{Turn, open_not}

-- only s is gone through, and open are the ends of its roads
pub record Start (z : Map) (s : ℕ) (g o : ℕ → Far) (x : ℕ → ℕ) : Type 0 where
  pub home : g s ≡ At 0
  pub shut : o s ≡ Never
  pub own : x s ≡ 255
  pub others : (k : ℕ) → k < z.n → (k ≡ s → ⊥) → g k ≡ Never
  pub roads : (k : ℕ) → k < z.n → (k ≡ s → ⊥) → 0 < z.cost s k → (o k ≡ At (z.cost s k)) × (x k ≡ k)
  pub none : (k : ℕ) → k < z.n → (k ≡ s → ⊥) → z.cost s k ≡ 0 → (o k ≡ Never) × (x k ≡ 255)

-- who is gone through is s
only_s : (z : Map) (s : ℕ) (g o : ℕ → Far) (x : ℕ → ℕ) → Start z s g o x → (k c : ℕ) → k < z.n → g k ≡ At c → (k ≡ s) × (c ≡ 0)
only_s z s g o x t k c lk h = go (eqb k s) refl
  where
    go : (b : Bool) → eqb k s ≡ b → (k ≡ s) × (c ≡ 0)
    go true i = let q : k ≡ s = eqb-true k s i in (q, at_inj c 0 (sym h ∙ ap g q ∙ t.home))
    go false i = absurd (never_at c (sym (t.others k lk (eqb-false k s i)) ∙ h))

-- who isn't is another
not_s : (z : Map) (s : ℕ) (g o : ℕ → Far) (x : ℕ → ℕ) → Start z s g o x → (u : ℕ) → g u ≡ Never → u ≡ s → ⊥
not_s z s g o x t u h q = never_at 0 (sym h ∙ ap g q ∙ t.home)

road_or : (c : ℕ) → (0 < c) ⊎ (c ≡ 0)
road_or zero = inr refl
road_or (suc c) = inl (omega arith)

-- what holds between turns holds after the first
pub begin : (z : Map) (s : ℕ) (g o : ℕ → Far) (x : ℕ → ℕ) → s < z.n → Start z s g o x → Going z s g o x
begin z s g o x ls t =
    record {
      home = t.home;
      home_x = t.own;
      done = λ k c lk h. done k c (only_s z s g o x t k c lk h);
      most = λ u p c lu lp hu hp r. most u p c lu hu r (only_s z s g o x t p c lp hp);
      had = λ u m lu hu hm. had u m lu hu hm (road_or (z.cost s u));
      low = λ u m p c lu lp hu hm hp r q. low u p lu hu r (only_s z s g o x t p c lp hp).0;
      none = λ u lu hu hn. none u lu hu hn (road_or (z.cost s u));
    }
  where
    done : (k c : ℕ) → (k ≡ s) × (c ≡ 0) → (far z k s ≡ At c) × (o k ≡ Never) × ((s ≡ k → ⊥) → Lowest z s k (x k))
    done k c q = (ap (λ (i : ℕ). far z i s) q.0 ∙ far_self z s ∙ ap At (sym q.1), ap o q.0 ∙ t.shut, λ ne. absurd (ne (sym q.0)))

    most : (u p c : ℕ) → u < z.n → g u ≡ Never → 0 < z.cost p u → (p ≡ s) × (c ≡ 0) → (m : ℕ) × (o u ≡ At m) × (m ≤ c + z.cost p u)
    most u p c lu hu r q =
        let e : z.cost p u ≡ z.cost s u = ap (λ (i : ℕ). z.cost i u) q.0 in
        (z.cost s u, (t.roads u lu (not_s z s g o x t u hu) (omega arith)).0, omega arith)

    had : (u m : ℕ) → u < z.n → g u ≡ Never → o u ≡ At m → (0 < z.cost s u) ⊎ (z.cost s u ≡ 0) →
        (p : ℕ) × (c : ℕ) × (p < z.n) × (g p ≡ At c) × (0 < z.cost p u) × (m ≡ c + z.cost p u) × (x u ≡ first_by s x p u)
    had u m lu hu hm (inl r) =
        let y = t.roads u lu (not_s z s g o x t u hu) r in
        (s, 0, ls, t.home, r, omega (arith, at_inj m (z.cost s u) (sym hm ∙ y.0)), y.1 ∙ sym (first_here s x s u refl))
    had u m lu hu hm (inr r) = absurd (never_at m (sym (t.none u lu (not_s z s g o x t u hu) r).0 ∙ hm))

    low : (u p : ℕ) → u < z.n → g u ≡ Never → 0 < z.cost p u → p ≡ s → x u ≤ first_by s x p u
    low u p lu hu r q =
        let e : z.cost p u ≡ z.cost s u = ap (λ (i : ℕ). z.cost i u) q in
        omega (arith, (t.roads u lu (not_s z s g o x t u hu) (omega arith)).1, first_here s x p u q)

    none : (u : ℕ) → u < z.n → g u ≡ Never → o u ≡ Never → (0 < z.cost s u) ⊎ (z.cost s u ≡ 0) → x u ≡ 255
    none u lu hu hn (inl r) = absurd (never_at (z.cost s u) (sym hn ∙ (t.roads u lu (not_s z s g o x t u hu) r).0))
    none u lu hu hn (inr r) = (t.none u lu (not_s z s g o x t u hu) r).1

-- no box is open
abbrev pub AllShut : Map → (ℕ → Far) → Type 0
AllShut z o = (k : ℕ) → k < z.n → o k ≡ Never

-- then the boxes not gone through can't be reached
pub unreached : (z : Map) (s : ℕ) (g o : ℕ → Far) (x : ℕ → ℕ) → Going z s g o x → s < z.n → AllShut z o → (d : ℕ) → d < z.n → g d ≡ Never → far z d s ≡ Never
unreached z s g o x w ls shut d ld h = go (far z d s) refl
  where
    go : (f : Far) → far z d s ≡ f → f ≡ Never
    go Never i = refl
    go (At c) i =
        let l : suc c ≤ c = beyond z s g o x w ls (suc c) (λ k m lk e. absurd (never_at m (sym (shut k lk) ∙ e))) (suc c) d c ld (omega arith) h i in
        absurd (omega arith)

-- and all distances are what they should be
pub end_far : (z : Map) (s : ℕ) (g o : ℕ → Far) (x : ℕ → ℕ) → Going z s g o x → s < z.n → AllShut z o → (d : ℕ) → d < z.n → g d ≡ far z d s
end_far z s g o x w ls shut d ld = go (g d) refl
  where
    go : (f : Far) → g d ≡ f → f ≡ far z d s
    go Never i = sym (unreached z s g o x w ls shut d ld i)
    go (At c) i = sym (w.done d c ld i).0

-- the number of a box stands for it
hop_to : (v : ℕ) → v < 64 → hop_of v ≡ To v
hop_to v l = ap (λ (b : Bool). cond b Nowhere (To v)) (ne_eqb v 255 (λ q. omega arith))

-- as are all next boxes
pub end_hop : (z : Map) (s : ℕ) (g o : ℕ → Far) (x : ℕ → ℕ) → Going z s g o x → s < z.n → z.n ≤ 64 → AllShut z o → (d : ℕ) → d < z.n → hop_of (x d) ≡ hop z d s
end_hop z s g o x w ls ln shut d ld = go (g d) refl (eqb s d) refl
  where
    go : (f : Far) → g d ≡ f → (b : Bool) → eqb s d ≡ b → hop_of (x d) ≡ hop z d s
    go Never i b j = ap hop_of (w.none d ld i (shut d ld)) ∙ sym (hop_never z d s (unreached z s g o x w ls shut d ld i))
    go (At c) i true j = let q : s ≡ d = eqb-true s d j in ap (λ (k : ℕ). hop_of (x k)) (sym q) ∙ ap hop_of w.home_x ∙ sym (hop_home z s) ∙ ap (λ (k : ℕ). hop z k s) q
    go (At c) i false j =
        let ne : s ≡ d → ⊥ = eqb-false s d j in
        let l = (w.done d c ld i).2 ne in
        hop_to (x d) (omega (arith, l.fits.below)) ∙ sym (lowest_hop z s d (x d) ne l)

-- how many boxes are gone through
abbrev pub gone_of : Map → (ℕ → Far) → ℕ
gone_of z g = count z.n (λ k. has_way (g k))

-- each turn goes through one more
pub gone_more : (z : Map) (s : ℕ) (g o : ℕ → Far) (x : ℕ → ℕ) (g' o' : ℕ → Far) (x' : ℕ → ℕ) (v b : ℕ) → Going z s g o x → v < z.n → o v ≡ At b → Turn z v b g o x g' o' x' → gone_of z g < gone_of z g'
gone_more z s g o x g' o' x' v b w lv e t =
    count_lt z.n (λ k. has_way (g k)) (λ k. has_way (g' k)) keep v lv (ap has_way gv) (ap has_way t.gone)
  where
    gv : g v ≡ Never
    gv = open_not z s g o x w v b lv e

    keep : (k : ℕ) → k < z.n → T (has_way (g k)) → T (has_way (g' k))
    keep k lk h = subst (λ (f : Far). T (has_way f)) (sym (t.others k lk (λ q. subst (λ (f : Far). T (has_way f)) (ap g q ∙ gv) h))) h

-- so once all are, none is open
pub all_gone : (z : Map) (s : ℕ) (g o : ℕ → Far) (x : ℕ → ℕ) → Going z s g o x → z.n ≤ gone_of z g → AllShut z o
all_gone z s g o x w l k lk = go (g k) refl
  where
    go : (f : Far) → g k ≡ f → o k ≡ Never
    go Never i = let h : gone_of z g < z.n = count_below z.n (λ j. has_way (g j)) k lk (ap has_way i) in absurd (omega arith)
    go (At c) i = (w.done k c lk i).1

-- one is after the first turn
pub gone_one : (z : Map) (s : ℕ) (g o : ℕ → Far) (x : ℕ → ℕ) → Start z s g o x → s < z.n → 1 ≤ gone_of z g
gone_one z s g o x t ls =
    let h : count z.n (λ k. false) < gone_of z g = count_lt z.n (λ k. false) (λ k. has_way (g k)) (λ k l u. absurd u) s ls refl (ap has_way t.home) in
    omega arith
