-- What goes out at a tick and in answer to words is what the box has, and goes over the wire to whom it is for.
use Rattle.std.proofs.Common.{◌≡◌, ℕ, zero, suc, ◌+◌, ◌<◌, ◌≤◌, ◌%◌, Bool, true, false, not, ◌&&◌, cond, eqb, ltb, List, [], ◌∷◌, Some, None, Option, sym, refl, subst, arith, ltb-true}
use Rattle.model.specs.Words.{newer}
use Rattle.model.specs.Code.{pick}
use Rattle.model.specs.Box.{tells}
use Rattle.model.proofs.Tests.{of_cond}
use Rattle.linkmodel.specs.Links.{Open, Links, wires, opens_to, lowest_to, road_cost, hello_for, sends_hello}
use Rattle.linkmodel.specs.Station.{Station, Item, Bundle, Sight, Frame, Greets, Tells, Shows, Out, tells_every, lowest_wire, wire_to, seens_for, news_for, seens_out, words_out, answers, hellos_on, items_of, tells_on, tick_out}
use Rattle.linkmodel.proofs.Relinks.{opens_to_lem}
use Rattle.linkmodel.proofs.Fitting.{Every}
use Rattle.linkmodel.proofs.Outgoing.{every_append}
use Rattle.netmodel.specs.Net.{Plug}
use Rattle.netmodel.proofs.Sent.{Had, Said}

-- the lowest open wire to a box is open to it
lowest_open : (e : ℕ) (s : Links) (w k : ℕ) → 0 < lowest_to e s w k → (d : ℕ) × (t : ℕ) × (s.wire (lowest_wire e s w k) ≡ Open e d t)
unfolding lowest_to lowest_wire
lowest_open e s w zero h = absurd (omega arith)
lowest_open e s w (suc k) h = go (opens_to e (s.wire w)) refl h (lowest_open e s (w + 1) k)
  where
    go : (b : Bool) → opens_to e (s.wire w) ≡ b → 0 < cond b (s.cost w) (lowest_to e s (w + 1) k) → (0 < lowest_to e s (w + 1) k → (d : ℕ) × (t : ℕ) × (s.wire (lowest_wire e s (w + 1) k) ≡ Open e d t)) →
        (d : ℕ) × (t : ℕ) × (s.wire (cond b w (lowest_wire e s (w + 1) k)) ≡ Open e d t)
    go true q h f = opens_to_lem e (s.wire w) q
    go false q h f = f h

-- and so is the wire over which it would be told
pub open_wire : (e : ℕ) (s : Links) → 0 < road_cost e s → (d : ℕ) × (t : ℕ) × (s.wire (wire_to e s) ≡ Open e d t)
open_wire e s h = lowest_open e s 0 wires h

-- an open wire that is joined leads to whom it is open, and that is a box
abbrev pub Leads : ℕ → (ℕ → Option Plug) → Links → Type 0
Leads n j s = (w f d t : ℕ) (p : Plug) → s.wire w ≡ Open f d t → j w ≡ Some p → (f ≡ p.at) × (p.at < n)

module _ (n : ℕ) (j : ℕ → Option Plug) (s : Station) (leads : Leads n j s.links) (roads : (e : ℕ) → s.box.cost e ≡ road_cost e s.links) where
  abbrev AllSaid : List Out → Type 0
  AllSaid out = Every (λ (o : Out). Said n s.box (j o.on) o.frame) out

  unsaid : (o : Option Plug) (f : Frame) → ((p : Plug) → Said n s.box (Some p) f) → Said n s.box o f
  unsaid None f h = tt
  unsaid (Some p) f h = h p

  words_said : (k : ℕ) (xs : List Item) → 0 < road_cost k s.links → Every (Had n s.box) xs → AllSaid (words_out k xs s.links)
  words_said k [] h q = tt
  words_said k (x ∷ xs) h q = (go (j (wire_to k s.links)) refl, tt)
    where
      go : (o : Option Plug) → j (wire_to k s.links) ≡ o → Said n s.box o (Tells (record { drawn = s.links.drawn; items = x ∷ xs }))
      go None e = tt
      go (Some p) e =
          let o = open_wire k s.links h in
          let l = leads (wire_to k s.links) k o.0 o.1 p o.2 e in
          (l.1, subst (λ (z : ℕ). 0 < s.box.cost z) l.0 (subst (λ (c : ℕ). 0 < c) (sym (roads k)) h), q)

  seens_said : (k : ℕ) (xs : List Sight) → AllSaid (seens_out k xs s.links)
  seens_said k [] = tt
  seens_said k (x ∷ xs) = (unsaid (j (wire_to k s.links)) (Shows (record { drawn = s.links.drawn; items = x ∷ xs })) (λ p. tt), tt)

  hellos_said : (k : ℕ) → AllSaid (hellos_on s.links k)
  unfolding hellos_on
  hellos_said zero = tt
  hellos_said (suc k) =
      every_append (λ (o : Out). Said n s.box (j o.on) o.frame) (hellos_on s.links k) (cond (sends_hello k s.links) (record { on = k; frame = Greets (hello_for k s.links) } ∷ []) []) (hellos_said k)
      (of_cond AllSaid (sends_hello k s.links) (record { on = k; frame = Greets (hello_for k s.links) } ∷ []) [] (λ _. (unsaid (j k) (Greets (hello_for k s.links)) (λ p. tt), tt)) (λ _. tt))

  -- what is picked of the boxes
  picked_had : (m k : ℕ) (f : ℕ → Bool) (i : ℕ) → i + m ≤ n → Every (Had n s.box) (items_of (pick m k f i) s.box)
  unfolding pick items_of
  picked_had zero k f i h = tt
  picked_had (suc m) zero f i h = tt
  picked_had (suc m) (suc k) f i h = of_cond (λ (l : List ℕ). Every (Had n s.box) (items_of l s.box)) (f i) (i ∷ pick m k f (i + 1)) (pick m (suc k) f (i + 1))
      (λ _. ((omega arith, refl), picked_had m k f (i + 1) (omega arith))) (λ _. picked_had m (suc k) f (i + 1) (omega arith))

  tells_said : s.box.n ≡ n → (k : ℕ) → AllSaid (tells_on s k)
  unfolding tells_on
  tells_said q zero = tt
  tells_said q (suc k) =
      every_append (λ (o : Out). Said n s.box (j o.on) o.frame) (tells_on s k) (cond (ltb 0 (road_cost k s.links)) (words_out k (items_of (tells k s.box) s.box) s.links) []) (tells_said q k)
      (of_cond AllSaid (ltb 0 (road_cost k s.links)) (words_out k (items_of (tells k s.box) s.box) s.links) []
      (λ h. words_said k (items_of (tells k s.box) s.box) (ltb-true 0 (road_cost k s.links) h) (picked_had s.box.n 4 (λ i. ltb 0 (s.box.word i).number && not (s.box.shown k i)) 0 (omega (arith, q)))) (λ _. tt))

  -- all that goes out at a tick
  pub tick_said : s.box.n ≡ n → AllSaid (tick_out s)
  tick_said q =
      every_append (λ (o : Out). Said n s.box (j o.on) o.frame) (hellos_on s.links wires) (cond (eqb (s.links.tick % tells_every) 0) (tells_on s s.links.n) []) (hellos_said wires)
      (of_cond AllSaid (eqb (s.links.tick % tells_every) 0) (tells_on s s.links.n) [] (λ _. tells_said q s.links.n) (λ _. tt))

  news_had : (xs : List Item) → Every (λ (x : Item). x.about < n) xs → Every (Had n s.box) (news_for xs s.box)
  unfolding news_for
  news_had [] h = tt
  news_had (x ∷ xs) h =
      of_cond (Every (Had n s.box)) (newer (s.box.word x.about) x.entry) (record { about = x.about; entry = s.box.word x.about } ∷ news_for xs s.box) (news_for xs s.box)
      (λ _. ((h.0, refl), news_had xs h.1)) (λ _. news_had xs h.1)

  -- and in answer to words about boxes
  pub answers_said : (e : ℕ) (p : Bundle) → 0 < road_cost e s.links → Every (λ (x : Item). x.about < n) p.items → AllSaid (answers e p s)
  answers_said e p o h =
      every_append (λ (o : Out). Said n s.box (j o.on) o.frame) (seens_out e (seens_for p.items s.box) s.links) (words_out e (news_for p.items s.box) s.links)
      (seens_said e (seens_for p.items s.box)) (words_said e (news_for p.items s.box) o (news_had p.items h))
