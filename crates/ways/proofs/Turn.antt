-- One turn: the nearest open box is gone through, and its neighbours are offered the way over it.
-- Assumes nothing.
use Rattle.std.proofs.Common.{◌≡◌, ℕ, zero, suc, ◌+◌, ◌<◌, ◌≤◌, Bool, true, false, cond, eqb, ◌⊎◌, sym, refl, ap, ◌∙◌, subst, inl, inr, arith, eqb-true}
use borrow.Author.Tests.{eqb-false}
use Rattle.model.specs.Map.{Map, Far, Never, At, far}
use Rattle.model.proofs.Fars.{at_inj, never_at}
use Rattle.ways.proofs.Firsts.{Lowest}
use Rattle.ways.proofs.Goes.{first_by, first_there, Going, NoneNearer, not_home, exact, lowest_at}

-- what an offer of sum and f does to an open distance and a next box: the offer is taken, or at most its next box is
pub data Out (o o' : Far) (x x' sum f : ℕ) : Type 0 where
  Taken : ((m : ℕ) → o ≡ At m → sum < m) → o' ≡ At sum → x' ≡ f → Out o o' x x' sum f
  Kept : (m : ℕ) → o ≡ At m → o' ≡ At m → m ≤ sum → x' ≤ x → (m ≡ sum → x' ≤ f) → (x' ≡ x) ⊎ ((m ≡ sum) × (x' ≡ f)) → Out o o' x x' sum f

pub record Turn (z : Map) (v b : ℕ) (g o : ℕ → Far) (x : ℕ → ℕ) (g' o' : ℕ → Far) (x' : ℕ → ℕ) : Type 0 where
  pub gone : g' v ≡ At b
  pub shut : o' v ≡ Never
  pub own : x' v ≡ x v
  pub others : (k : ℕ) → k < z.n → (k ≡ v → ⊥) → g' k ≡ g k
  pub still : (k : ℕ) → k < z.n → (k ≡ v → ⊥) → ((c : ℕ) × (g k ≡ At c)) ⊎ (z.cost v k ≡ 0) → (o' k ≡ o k) × (x' k ≡ x k)
  pub out : (k : ℕ) → k < z.n → (k ≡ v → ⊥) → g k ≡ Never → 0 < z.cost v k → Out (o k) (o' k) (x k) (x' k) (b + z.cost v k) (x v)

-- an open box isn't gone through
pub open_not : (z : Map) (s : ℕ) (g o : ℕ → Far) (x : ℕ → ℕ) → Going z s g o x → (v b : ℕ) → v < z.n → o v ≡ At b → g v ≡ Never
open_not z s g o x w v b lv e = go (g v) refl
  where
    go : (f : Far) → g v ≡ f → f ≡ Never
    go Never i = refl
    go (At c) i = absurd (never_at b (sym (w.done v c lv i).1 ∙ e))

-- a box that isn't gone through after the turn wasn't before, and isn't v
pub fresh : (z : Map) (v b : ℕ) (g o : ℕ → Far) (x : ℕ → ℕ) (g' o' : ℕ → Far) (x' : ℕ → ℕ) → Turn z v b g o x g' o' x' → (u : ℕ) → u < z.n → g' u ≡ Never → (u ≡ v → ⊥) × (g u ≡ Never)
fresh z v b g o x g' o' x' t u lu h =
    let ne : u ≡ v → ⊥ = λ q. never_at b (sym h ∙ ap g' q ∙ t.gone) in
    (ne, sym (t.others u lu ne) ∙ h)

-- a box that is after the turn is v or was before
gone_by : (z : Map) (v b : ℕ) (g o : ℕ → Far) (x : ℕ → ℕ) (g' o' : ℕ → Far) (x' : ℕ → ℕ) → Turn z v b g o x g' o' x' → (p c : ℕ) → p < z.n → g' p ≡ At c → ((p ≡ v) × (c ≡ b)) ⊎ ((p ≡ v → ⊥) × (g p ≡ At c))
gone_by z v b g o x g' o' x' t p c lp h = go (eqb p v) refl
  where
    go : (y : Bool) → eqb p v ≡ y → ((p ≡ v) × (c ≡ b)) ⊎ ((p ≡ v → ⊥) × (g p ≡ At c))
    go true i = let q : p ≡ v = eqb-true p v i in inl (q, at_inj c b (sym h ∙ ap g' q ∙ t.gone))
    go false i = let q : p ≡ v → ⊥ = eqb-false p v i in inr (q, sym (t.others p lp q) ∙ h)

-- a road there is or there isn't
road_or : (c : ℕ) → (0 < c) ⊎ (c ≡ 0)
road_or zero = inr refl
road_or (suc c) = inl (omega arith)

-- the turn at one box that isn't gone through after it: nothing over v, or an offer
at_box : (z : Map) (v b : ℕ) (g o : ℕ → Far) (x : ℕ → ℕ) (g' o' : ℕ → Far) (x' : ℕ → ℕ) → Turn z v b g o x g' o' x' → (u : ℕ) → u < z.n → g' u ≡ Never →
    ((z.cost v u ≡ 0) × (o' u ≡ o u) × (x' u ≡ x u)) ⊎ ((0 < z.cost v u) × Out (o u) (o' u) (x u) (x' u) (b + z.cost v u) (x v))
at_box z v b g o x g' o' x' t u lu h =
    let f = fresh z v b g o x g' o' x' t u lu h in
    elim (road_or (z.cost v u)) [ inl p ↦ inr (p, t.out u lu f.0 f.1 p) | inr p ↦ let s = t.still u lu f.0 (inr p) in inl (p, s.0, s.1) ]

-- the next box by a road from a box gone through before stays
first_same : (z : Map) (v b : ℕ) (g o : ℕ → Far) (x : ℕ → ℕ) (g' o' : ℕ → Far) (x' : ℕ → ℕ) → Turn z v b g o x g' o' x' → (s p c u : ℕ) → p < z.n → (p ≡ v → ⊥) → g p ≡ At c → first_by s x' p u ≡ first_by s x p u
first_same z v b g o x g' o' x' t s p c u lp ne h = ap (λ (y : ℕ). cond (eqb p s) u y) (t.still p lp ne (inl (c, h))).1

-- what holds between turns holds after one more
pub turn : (z : Map) (s : ℕ) (g o : ℕ → Far) (x : ℕ → ℕ) (g' o' : ℕ → Far) (x' : ℕ → ℕ) (v b : ℕ) → Going z s g o x → s < z.n → v < z.n → o v ≡ At b → NoneNearer z o b → Turn z v b g o x g' o' x' → Going z s g' o' x'
turn z s g o x g' o' x' v b w ls lv e near t =
    record {
      home = t.others s ls nv ∙ w.home;
      home_x = (t.still s ls nv (inl (0, w.home))).1 ∙ w.home_x;
      done = λ k c lk h. done k c lk (gone_by z v b g o x g' o' x' t k c lk h);
      most = λ u p c lu lp hu hp r. most u p c lu lp hu r (gone_by z v b g o x g' o' x' t p c lp hp) (at_box z v b g o x g' o' x' t u lu hu);
      had = λ u m lu hu hm. had u m lu hu hm (at_box z v b g o x g' o' x' t u lu hu);
      low = λ u m p c lu lp hu hm hp r q. low u m p c lu lp hu hm r q (gone_by z v b g o x g' o' x' t p c lp hp) (at_box z v b g o x g' o' x' t u lu hu);
      none = λ u lu hu hn. none u lu hu hn (at_box z v b g o x g' o' x' t u lu hu);
    }
  where
    gv : g v ≡ Never
    gv = open_not z s g o x w v b lv e

    nv : s ≡ v → ⊥
    nv = not_home z s g o x w v gv

    old : (u : ℕ) → u < z.n → g' u ≡ Never → g u ≡ Never
    old u lu h = (fresh z v b g o x g' o' x' t u lu h).1

    -- the next box by a road from v
    by_v : (p u : ℕ) → p ≡ v → first_by s x' p u ≡ x v
    by_v p u q = first_there s x' p u (λ i. nv (sym i ∙ q)) ∙ ap x' q ∙ t.own

    done : (k c : ℕ) → k < z.n → ((k ≡ v) × (c ≡ b)) ⊎ ((k ≡ v → ⊥) × (g k ≡ At c)) → (far z k s ≡ At c) × (o' k ≡ Never) × ((s ≡ k → ⊥) → Lowest z s k (x' k))
    done k c lk (inl q) =
        let P : ℕ → Type 0 = λ i. (far z i s ≡ At c) × (o' i ≡ Never) × ((s ≡ i → ⊥) → Lowest z s i (x' i)) in
        subst P (sym q.0) (exact z s g o x w ls v b lv gv e near ∙ ap At (sym q.1), t.shut, λ i. subst (λ (y : ℕ). Lowest z s v y) (sym t.own) (lowest_at z s g o x w ls v b lv gv e near))
    done k c lk (inr q) =
        let d = w.done k c lk q.1 in
        let y = t.still k lk q.0 (inl (c, q.1)) in
        (d.0, y.0 ∙ d.1, λ i. subst (λ (a : ℕ). Lowest z s k a) (sym y.1) (d.2 i))

    most : (u p c : ℕ) → u < z.n → p < z.n → g' u ≡ Never → 0 < z.cost p u → ((p ≡ v) × (c ≡ b)) ⊎ ((p ≡ v → ⊥) × (g p ≡ At c)) →
        ((z.cost v u ≡ 0) × (o' u ≡ o u) × (x' u ≡ x u)) ⊎ ((0 < z.cost v u) × Out (o u) (o' u) (x u) (x' u) (b + z.cost v u) (x v)) → (m : ℕ) × (o' u ≡ At m) × (m ≤ c + z.cost p u)
    most u p c lu lp hu r (inl q) (inl y) = absurd (omega (arith, r, y.0, ap (λ (i : ℕ). z.cost i u) q.0))
    most u p c lu lp hu r (inl q) (inr (_, Taken i j k)) = (b + z.cost v u, j, omega (arith, q.1, ap (λ (i : ℕ). z.cost i u) q.0))
    most u p c lu lp hu r (inl q) (inr (_, Kept m i j l _ _ _)) = (m, j, omega (arith, l, q.1, ap (λ (i : ℕ). z.cost i u) q.0))
    most u p c lu lp hu r (inr q) (inl y) = let m = w.most u p c lu lp (old u lu hu) q.1 r in (m.0, y.1 ∙ m.1, m.2)
    most u p c lu lp hu r (inr q) (inr (_, Taken i j k)) = let m = w.most u p c lu lp (old u lu hu) q.1 r in (b + z.cost v u, j, omega (arith, i m.0 m.1, m.2))
    most u p c lu lp hu r (inr q) (inr (_, Kept m' i j l _ _ _)) =
        let m = w.most u p c lu lp (old u lu hu) q.1 r in
        (m', j, omega (arith, m.2, at_inj m' m.0 (sym i ∙ m.1)))

    -- what held before where the next box stays
    had_old : (u m : ℕ) → u < z.n → g' u ≡ Never → o u ≡ At m → x' u ≡ x u → (p : ℕ) × (c : ℕ) × (p < z.n) × (g' p ≡ At c) × (0 < z.cost p u) × (m ≡ c + z.cost p u) × (x' u ≡ first_by s x' p u)
    had_old u m lu hu hm q =
        let r = w.had u m lu (old u lu hu) hm in
        let np : r.0 ≡ v → ⊥ = λ i. never_at r.1 (sym gv ∙ ap g (sym i) ∙ r.3) in
        (r.0, r.1, r.2, t.others r.0 r.2 np ∙ r.3, r.4, r.5, q ∙ r.6 ∙ sym (first_same z v b g o x g' o' x' t s r.0 r.1 u r.2 np r.3))

    had_v : (u m : ℕ) → 0 < z.cost v u → m ≡ b + z.cost v u → x' u ≡ x v → (p : ℕ) × (c : ℕ) × (p < z.n) × (g' p ≡ At c) × (0 < z.cost p u) × (m ≡ c + z.cost p u) × (x' u ≡ first_by s x' p u)
    had_v u m r i j = (v, b, lv, t.gone, r, i, j ∙ sym (by_v v u refl))

    had : (u m : ℕ) → u < z.n → g' u ≡ Never → o' u ≡ At m →
        ((z.cost v u ≡ 0) × (o' u ≡ o u) × (x' u ≡ x u)) ⊎ ((0 < z.cost v u) × Out (o u) (o' u) (x u) (x' u) (b + z.cost v u) (x v)) →
        (p : ℕ) × (c : ℕ) × (p < z.n) × (g' p ≡ At c) × (0 < z.cost p u) × (m ≡ c + z.cost p u) × (x' u ≡ first_by s x' p u)
    had u m lu hu hm (inl y) = had_old u m lu hu (sym y.1 ∙ hm) y.2
    had u m lu hu hm (inr (r, Taken i j k)) = had_v u m r (at_inj m (b + z.cost v u) (sym hm ∙ j)) k
    had u m lu hu hm (inr (r, Kept m' i j l _ _ (inl k))) = had_old u m lu hu (i ∙ sym j ∙ hm) k
    had u m lu hu hm (inr (r, Kept m' i j l _ _ (inr k))) = had_v u m r (at_inj m m' (sym hm ∙ j) ∙ k.0) k.1

    low : (u m p c : ℕ) → u < z.n → p < z.n → g' u ≡ Never → o' u ≡ At m → 0 < z.cost p u → m ≡ c + z.cost p u → ((p ≡ v) × (c ≡ b)) ⊎ ((p ≡ v → ⊥) × (g p ≡ At c)) →
        ((z.cost v u ≡ 0) × (o' u ≡ o u) × (x' u ≡ x u)) ⊎ ((0 < z.cost v u) × Out (o u) (o' u) (x u) (x' u) (b + z.cost v u) (x v)) → x' u ≤ first_by s x' p u
    low u m p c lu lp hu hm r q (inl y) (inl a) = absurd (omega (arith, r, a.0, ap (λ (i : ℕ). z.cost i u) y.0))
    low u m p c lu lp hu hm r q (inl y) (inr (_, Taken i j k)) = omega (arith, k, by_v p u y.0)
    low u m p c lu lp hu hm r q (inl y) (inr (_, Kept m' i j l _ k _)) =
        omega (arith, k (at_inj m' m (sym j ∙ hm) ∙ q ∙ ap (λ (a : ℕ). a + z.cost p u) y.1 ∙ ap (λ (a : ℕ). b + z.cost a u) y.0), by_v p u y.0)
    low u m p c lu lp hu hm r q (inr y) (inl a) =
        let l : x u ≤ first_by s x p u = w.low u m p c lu lp (old u lu hu) (sym a.1 ∙ hm) y.1 r q in
        omega (arith, l, a.2, first_same z v b g o x g' o' x' t s p c u lp y.0 y.1)
    low u m p c lu lp hu hm r q (inr y) (inr (_, Taken i j k)) =
        let n = w.most u p c lu lp (old u lu hu) y.1 r in
        absurd (omega (arith, i n.0 n.1, n.2, q, at_inj m (b + z.cost v u) (sym hm ∙ j)))
    low u m p c lu lp hu hm r q (inr y) (inr (_, Kept m' i j l k _ _)) =
        let h : x u ≤ first_by s x p u = w.low u m p c lu lp (old u lu hu) (i ∙ sym j ∙ hm) y.1 r q in
        omega (arith, h, k, first_same z v b g o x g' o' x' t s p c u lp y.0 y.1)

    none : (u : ℕ) → u < z.n → g' u ≡ Never → o' u ≡ Never →
        ((z.cost v u ≡ 0) × (o' u ≡ o u) × (x' u ≡ x u)) ⊎ ((0 < z.cost v u) × Out (o u) (o' u) (x u) (x' u) (b + z.cost v u) (x v)) → x' u ≡ 255
    none u lu hu hn (inl y) = y.2 ∙ w.none u lu (old u lu hu) (sym y.1 ∙ hn)
    none u lu hu hn (inr (_, Taken i j k)) = absurd (never_at (b + z.cost v u) (sym hn ∙ j))
    none u lu hu hn (inr (_, Kept m i j l _ _ _)) = absurd (never_at m (sym hn ∙ j))
