-- A box has no more roads than wires: how many there are, to whom, and what they cost.
use Rattle.std.proofs.Common.{◌≡◌, ℕ, zero, suc, ◌+◌, ◌^◌, ◌<◌, ◌≤◌, ◌≢◌, Bool, true, false, cond, eqb, sym, refl, ◌∙◌, subst, arith, eqb-true, ne_eqb}
use borrow.Author.Tests.{eqb-false}
use Rattle.model.proofs.Tests.{of_cond, cond-false}
use Rattle.linkmodel.proofs.Bools.{true_not_false}
use Rattle.linkmodel.specs.Links.{Wire, Silent, Heard, Open, Links, wires, opens_to, lowest_to, road_cost}
use Rattle.linkmodel.specs.Relinked.{Sound}
use Rattle.netmodel.specs.Fits.{roads_below}

-- one more place counts for one at most
one_at_most : (c : ℕ) → cond (eqb c 0) 0 1 ≤ 1
one_at_most c = of_cond (λ (y : ℕ). y ≤ 1) (eqb c 0) 0 1 (λ _. omega arith) (λ _. omega arith)

-- the same roads are as many
roads_same : (f g : ℕ → ℕ) (m : ℕ) → ((e : ℕ) → e < m → f e ≡ g e) → roads_below f m ≡ roads_below g m
unfolding roads_below
roads_same f g zero h = refl
roads_same f g (suc m) h = rw (roads_same f g m (λ e l. h e (omega arith)), h m (omega arith)) refl

-- with another at one place there are one more at most
roads_but_one : (f g : ℕ → ℕ) (p m : ℕ) → ((e : ℕ) → (e ≢ p) → f e ≡ g e) → roads_below f m ≤ suc (roads_below g m)
unfolding roads_below
roads_but_one f g p zero h = omega arith
roads_but_one f g p (suc m) h = go (eqb m p) refl (roads_but_one f g p m h)
  where
    go : (b : Bool) → eqb m p ≡ b → roads_below f m ≤ suc (roads_below g m) → roads_below f m + cond (eqb (f m) 0) 0 1 ≤ suc (roads_below g m + cond (eqb (g m) 0) 0 1)
    go true z ih =
        let mp : m ≡ p = eqb-true m p z in
        omega (arith, roads_same f g m (λ e l. h e (λ q. let y : ⊥ = omega arith in y)), one_at_most (f m))
    go false z ih = rw (h m (eqb-false m p z)) (omega arith)

-- no road is none
roads_none : (m : ℕ) → roads_below (λ e. 0) m ≡ 0
unfolding roads_below
roads_none zero = refl
roads_none (suc m) = omega (arith, roads_none m)

-- a wire is open to one box at most
one_wire : (x : Wire) (c : ℕ) (g : ℕ → ℕ) (m : ℕ) → roads_below (λ e. cond (opens_to e x) c (g e)) m ≤ suc (roads_below g m)
one_wire Silent c g m = omega arith
one_wire (Heard f d t) c g m = omega arith
one_wire (Open f d t) c g m = roads_but_one (λ e. cond (eqb f e) c (g e)) g f m (λ e h. cond-false (eqb f e) c (g e) (ne_eqb f e (λ z. h (sym z))))

-- so that over k wires there are k roads at most
few_wires : (s : Links) (w k m : ℕ) → roads_below (λ e. lowest_to e s w k) m ≤ k
unfolding lowest_to
few_wires s w zero m = omega (arith, roads_none m)
few_wires s w (suc k) m = omega (arith, one_wire (s.wire w) (s.cost w) (λ e. lowest_to e s (w + 1) k) m, few_wires s (w + 1) k m)

-- what a road costs is what one of its wires costs
lowest_less : (e : ℕ) (s : Links) (b w k : ℕ) → 0 < b → ((v : ℕ) → v < w + k → s.cost v < b) → lowest_to e s w k < b
unfolding lowest_to
lowest_less e s b w zero p h = p
lowest_less e s b w (suc k) p h =
    of_cond (λ (y : ℕ). y < b) (opens_to e (s.wire w)) (s.cost w) (lowest_to e s (w + 1) k)
    (λ _. h w (omega arith)) (λ _. lowest_less e s b (w + 1) k p (λ v l. h v (omega arith)))

-- and a road that isn't closed has a wire
lowest_has : (Q : Type 0) (e : ℕ) (s : Links) (w k : ℕ) → ((v : ℕ) → opens_to e (s.wire v) ≡ true → Q) → (lowest_to e s w k ≢ 0) → Q
unfolding lowest_to
lowest_has Q e s w zero f h = absurd (h refl)
lowest_has Q e s w (suc k) f h =
    of_cond (λ (y : ℕ). (y ≢ 0) → Q) (opens_to e (s.wire w)) (s.cost w) (lowest_to e s (w + 1) k) (λ z _. f w z) (λ _ y. lowest_has Q e s (w + 1) k f y) h

-- whose roads go only to other boxes below n
opened_known : (s : Links) (e v : ℕ) → Sound s → (x : Wire) → s.wire v ≡ x → opens_to e x ≡ true → (e < s.n) × (e ≢ s.me)
opened_known s e v k Silent q h = true_not_false false h refl
opened_known s e v k (Heard f d t) q h = true_not_false false h refl
opened_known s e v k (Open f d t) q h =
    let fe : f ≡ e = eqb-true f e h in
    let p = k.known v f d t q in
    (subst (λ (z : ℕ). z < s.n) fe p.0, λ z. p.1.0 (fe ∙ z))

-- the roads of box a of n
pub record RoadsFit (n a : ℕ) (road : ℕ → ℕ) : Type 0 where
  pub few : roads_below road 64 ≤ 8
  pub below : (i : ℕ) → (road i ≢ 0) → i < n
  pub other : (i : ℕ) → (road i ≢ 0) → i ≢ a
  pub costs : (i : ℕ) → road i < 2 ^ 16

-- the roads that its wires hold open fit
pub roads_fit : (s : Links) → Sound s → ((w : ℕ) → w < wires → s.cost w < 2 ^ 16) → RoadsFit s.n s.me (λ e. road_cost e s)
roads_fit s k c = record {
  few = few_wires s 0 8 64;
  below = λ i h. (lowest_has ((i < s.n) × (i ≢ s.me)) i s 0 8 (λ v q. opened_known s i v k (s.wire v) refl q) h).0;
  other = λ i h. (lowest_has ((i < s.n) × (i ≢ s.me)) i s 0 8 (λ v q. opened_known s i v k (s.wire v) refl q) h).1;
  costs = λ i. lowest_less i s (2 ^ 16) 0 8 (omega arith) (λ v l. c v (omega (arith, l)));
}

-- a box without any road is no exception
pub no_roads_fit : (n a : ℕ) → RoadsFit n a (λ e. 0)
no_roads_fit n a = record {
  few = omega (arith, roads_none 64);
  below = λ i h. absurd (h refl);
  other = λ i h. absurd (h refl);
  costs = λ i. omega arith;
}
