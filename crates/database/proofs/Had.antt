-- A table that is kept as a fact answers what the map says: both are about numbers.
use Rattle.std.proofs.Common.{◌≡◌, ℕ, suc, ◌≤◌, Bool, true, false, cond, ltb, None, Some, Option, get_or, refl, ap, arith, ltb-false, ltb-true}
use mathlib.Core.Logic.{∥∥₁_elim}
use native.Mathlib.Nat.{ℕ_set}
use Rattle.model.specs.Map.{Map, Far, Never, At, Hop, Nowhere, To, far, hop}
use Rattle.ways.specs.Numbers.{far_of, hop_of}
use Rattle.ways.specs.Table.{Found}
use Rattle.database.specs.State.{distance_in, hop_of as hop_to, next_in}
use Rattle.database.specs.declared.table.RoutingTable.{RoutingTable}

-- a next box as a number
hop_number : Hop → ℕ
hop_number Nowhere = 0
hop_number (To e) = suc e

same_hop : (x y : Hop) → hop_number x ≡ hop_number y → x ≡ y
unfolding hop_number
same_hop Nowhere Nowhere e = refl
same_hop Nowhere (To b) e = absurd (omega arith)
same_hop (To a) Nowhere e = absurd (omega arith)
same_hop (To a) (To b) e = let q : a ≡ b = omega arith in ap To q

-- and a distance
far_number : Far → ℕ
far_number Never = 0
far_number (At e) = suc e

same_far : (x y : Far) → far_number x ≡ far_number y → x ≡ y
unfolding far_number
same_far Never Never e = refl
same_far Never (At b) e = absurd (omega arith)
same_far (At a) Never e = absurd (omega arith)
same_far (At a) (At b) e = let q : a ≡ b = omega arith in ap At q

module _ (z : Map) (me : ℕ) (t : RoutingTable) (few : z.n ≤ 64) where
  next_found : Found z me t.far t.next → (d : ℕ) → next_in d t ≡ cond (ltb d z.n) (hop z d me) Nowhere
  next_found f d = go (ltb d z.n) refl (ltb d 64) refl
    where
      go : (b : Bool) → ltb d z.n ≡ b → (c : Bool) → ltb d 64 ≡ c → cond c (hop_of (get_or t.next d 0)) Nowhere ≡ cond b (hop z d me) Nowhere
      go true q true r = f.nexts d (ltb-true d z.n q)
      go true q false r = absurd (omega (arith, few, ltb-true d z.n q, ltb-false d 64 r))
      go false q true r = ap hop_of (f.no_nexts d (ltb-false d z.n q) (ltb-true d 64 r))
      go false q false r = refl

  distance_found : Found z me t.far t.next → (d : ℕ) → distance_in d t ≡ cond (ltb d z.n) (far z d me) Never
  distance_found f d = go (ltb d z.n) refl (ltb d 64) refl
    where
      go : (b : Bool) → ltb d z.n ≡ b → (c : Bool) → ltb d 64 ≡ c → cond c (far_of (get_or t.far d 0)) Never ≡ cond b (far z d me) Never
      go true q true r = f.dists d (ltb-true d z.n q)
      go true q false r = absurd (omega (arith, few, ltb-true d z.n q, ltb-false d 64 r))
      go false q true r = ap far_of (f.no_dists d (ltb-false d z.n q) (ltb-true d 64 r))
      go false q false r = refl

  pub next_had : ∥ Found z me t.far t.next ∥₁ → (d : ℕ) → next_in d t ≡ cond (ltb d z.n) (hop z d me) Nowhere
  next_had h d =
      let one = next_in d t in
      let other : Hop = cond (ltb d z.n) (hop z d me) Nowhere in
      same_hop one other (∥∥₁_elim h (ℕ_set (hop_number one) (hop_number other)) (λ f. ap hop_number (next_found f d)))

  pub distance_had : ∥ Found z me t.far t.next ∥₁ → (d : ℕ) → distance_in d t ≡ cond (ltb d z.n) (far z d me) Never
  distance_had h d =
      let one = distance_in d t in
      let other : Far = cond (ltb d z.n) (far z d me) Never in
      same_far one other (∥∥₁_elim h (ℕ_set (far_number one) (far_number other)) (λ f. ap far_number (distance_found f d)))

-- nowhere is no box
pub no_hop : (o : Option ℕ) → hop_to o ≡ Nowhere → o ≡ None
unfolding hop_number
no_hop None e = refl
no_hop (Some d) e = let z : ◌≡◌ {A = ℕ} (suc d) 0 = ap hop_number e in absurd (omega (arith, z))
