-- The events of changed links lead a box where they should.
use Rattle.std.proofs.Common.{◌≡◌, ℕ, zero, suc, ◌+◌, ◌<◌, ◌≤◌, Bool, true, false, cond, not, ◌&&◌, eqb, ltb, List, [], ◌∷◌, ◌++◌, sym, refl, ap, ◌∙◌, subst, append_assoc, arith, ltb-false, le-ltb, lt-ltb, eq-eqb, ne_eqb, eqb-true}
use borrow.Author.Tests.{eqb-false}
use Rattle.std.proofs.lemmas.Bool.Decides.{nat_tests}
use Rattle.model.specs.Words.{World, Ev, Road, at2, step, world}
use Rattle.model.specs.Box.{Box, Stands}
use Rattle.model.proofs.Tests.{of_cond, cond-true, cond-false}
use Rattle.model.proofs.Sizes.{world_n}
use Rattle.linkmodel.specs.Links.{Wire, Silent, Heard, Open, Links, wires, opens_to, lowest_to, road_cost, is_anew, road_events, relinks}
use Rattle.linkmodel.specs.Hellos.{Input, meets}
use Rattle.linkmodel.specs.Relinked.{Sound, relinked, RelinkSo}
use Rattle.linkmodel.proofs.Sounds.{sound_meets, meets_same}

-- a wire that is open to e
pub opens_to_lem : (e : ℕ) (x : Wire) → opens_to e x ≡ true → (d : ℕ) × (t : ℕ) × (x ≡ Open e d t)
opens_to_lem e Silent q = let z : ◌≡◌ {A = ℕ} 0 1 = cc in absurd (omega arith)
opens_to_lem e (Heard f d t) q = let z : ◌≡◌ {A = ℕ} 0 1 = cc in absurd (omega arith)
opens_to_lem e (Open f d t) q = (d, t, ap (λ (k : ℕ). Open k d t) (eqb-true f e q))

lowest_none : (e : ℕ) (s : Links) → ((w : ℕ) → opens_to e (s.wire w) ≡ true → ⊥) → (w k : ℕ) → lowest_to e s w k ≡ 0
unfolding lowest_to
lowest_none e s h w zero = refl
lowest_none e s h w (suc k) = of_cond (λ (x : ℕ). x ≡ 0) (opens_to e (s.wire w)) (s.cost w) (lowest_to e s (w + 1) k) (λ q. absurd (h w q)) (λ _. lowest_none e s h (w + 1) k)

-- no road leads to the box itself, nor to a number of no box
pub road_self : (s : Links) → Sound s → road_cost s.me s ≡ 0
road_self s k = lowest_none s.me s (λ w q. let o = opens_to_lem s.me (s.wire w) q in (k.known w s.me o.0 o.1 o.2).1.0 refl) 0 wires

pub road_beyond : (s : Links) (e : ℕ) → Sound s → s.n ≤ e → road_cost e s ≡ 0
road_beyond s e k h = lowest_none e s (λ w q. let o = opens_to_lem e (s.wire w) q in let b : e < s.n = (k.known w e o.0 o.1 o.2).0 in omega arith) 0 wires

-- a road that is open over a wire costs something
pub road_open : (s : Links) (e w : ℕ) → Sound s → w < wires → opens_to e (s.wire w) ≡ true → 0 < road_cost e s
unfolding lowest_to
road_open s e w k h q = lowest 0 wires (omega arith) (omega arith)
  where
    costs : (v : ℕ) → opens_to e (s.wire v) ≡ true → 0 < s.cost v
    costs v z = go (eqb (s.cost v) 0) refl
      where
        go : (b : Bool) → eqb (s.cost v) 0 ≡ b → 0 < s.cost v
        go true i = let y : opens_to e (s.wire v) ≡ false = ap (opens_to e) (k.silent v (eqb-true (s.cost v) 0 i)) in let c : ◌≡◌ {A = ℕ} 0 1 = cc in absurd (omega arith)
        go false i = omega (arith, eqb-false (s.cost v) 0 i)

    lowest : (v j : ℕ) → v ≤ w → w < v + j → 0 < lowest_to e s v j
    lowest v zero a b = absurd (omega arith)
    lowest v (suc j) a b = of_cond (λ (x : ℕ). 0 < x) (opens_to e (s.wire v)) (s.cost v) (lowest_to e s (v + 1) j) (costs v)
        (λ i. lowest (v + 1) j (go (eqb v w) refl i) (omega arith))
      where
        go : (b : Bool) → eqb v w ≡ b → opens_to e (s.wire v) ≡ false → v + 1 ≤ w
        go true y i = let u : opens_to e (s.wire w) ≡ false = subst (λ (x : ℕ). opens_to e (s.wire x) ≡ false) (eqb-true v w y) i in let c : ◌≡◌ {A = ℕ} 0 1 = cc in absurd (omega arith)
        go false y i = omega (arith, eqb-false v w y)

-- a world that differs from another in box a's road to e, which costs c, and in no box's words
record RoadNow (a e c : ℕ) (w v : World) : Type 0 where
  boxes : v.n ≡ w.n
  real : (x : ℕ) → v.real a x ≡ cond (eqb x e) c (w.real a x)
  knows : (i : ℕ) → v.knows a i ≡ w.knows a i

road_step : (a e c : ℕ) (w : World) → a < w.n → e < w.n → (a ≡ e → ⊥) → RoadNow a e c w (step (Road a e c) w)
road_step a e c w ha he ne =
    let ok : (ltb a w.n && (ltb e w.n && not (eqb a e))) ≡ true = rw (lt-ltb a w.n ha, lt-ltb e w.n he, ne_eqb a e ne) in
    subst (RoadNow a e c w) (sym (cond-true (ltb a w.n && (ltb e w.n && not (eqb a e))) (record { n = w.n; real = at2 a e c w.real; knows = w.knows; flight = w.flight; drawn = w.drawn }) w ok))
    (record { boxes = refl; real = λ x. ap (λ (b : Bool). cond (b && eqb x e) c (w.real a x)) (eq-eqb a a refl); knows = λ i. refl })

road_twice : (a e b c : ℕ) (w v u : World) → RoadNow a e b w v → RoadNow a e c v u → RoadNow a e c w u
road_twice a e b c w v u p q = record {
  boxes = q.boxes ∙ p.boxes;
  real = λ x. q.real x ∙ go x (eqb x e) refl;
  knows = λ i. q.knows i ∙ p.knows i;
}
  where
    go : (x : ℕ) (t : Bool) → eqb x e ≡ t → cond (eqb x e) c (v.real a x) ≡ cond (eqb x e) c (w.real a x)
    go x true i = rw i refl
    go x false i = rw i (p.real x ∙ cond-false (eqb x e) b (w.real a x) i)

road_same : (a e c : ℕ) (w : World) → w.real a e ≡ c → RoadNow a e c w w
road_same a e c w h = record { boxes = refl; real = λ x. of_cond (λ (y : ℕ). w.real a x ≡ y) (eqb x e) c (w.real a x) (λ i. ap (w.real a) (eqb-true x e i) ∙ h) (λ _. refl); knows = λ i. refl }

-- the events of one road
road_leads : (before after : Links) (n a e : ℕ) (es : List Ev) → after.me ≡ a → (world n es).n ≡ n → a < n → e < n → (a ≡ e → ⊥) → (world n es).real a e ≡ road_cost e before → RoadNow a e (road_cost e after) (world n es) (world n (road_events before after e ++ es))
unfolding world
road_leads before after n a e es me wn ha he ne h =
    subst (λ (m : ℕ). RoadNow a e (road_cost e after) (world n es) (world n (cond (is_anew before after e && (ltb 0 (road_cost e before) && ltb 0 (road_cost e after))) (Road m e (road_cost e after) ∷ Road m e 0 ∷ [])
    (cond (eqb (road_cost e before) (road_cost e after)) [] (Road m e (road_cost e after) ∷ [])) ++ es))) (sym me)
    (of_cond (λ (l : List Ev). RoadNow a e (road_cost e after) (world n es) (world n (l ++ es))) (is_anew before after e && (ltb 0 (road_cost e before) && ltb 0 (road_cost e after)))
    (Road a e (road_cost e after) ∷ Road a e 0 ∷ []) (cond (eqb (road_cost e before) (road_cost e after)) [] (Road a e (road_cost e after) ∷ []))
    (λ _. road_twice a e 0 (road_cost e after) (world n es) (step (Road a e 0) (world n es)) (step (Road a e (road_cost e after)) (step (Road a e 0) (world n es))) one
    (road_step a e (road_cost e after) (step (Road a e 0) (world n es)) (rw (one.boxes, wn) ha) (rw (one.boxes, wn) he) ne))
    (λ _. of_cond (λ (l : List Ev). RoadNow a e (road_cost e after) (world n es) (world n (l ++ es))) (eqb (road_cost e before) (road_cost e after)) [] (Road a e (road_cost e after) ∷ [])
    (λ i. road_same a e (road_cost e after) (world n es) (h ∙ eqb-true (road_cost e before) (road_cost e after) i))
    (λ _. road_step a e (road_cost e after) (world n es) (rw wn ha) (rw wn he) ne)))
  where
    one : RoadNow a e 0 (world n es) (step (Road a e 0) (world n es))
    one = road_step a e 0 (world n es) (rw wn ha) (rw wn he) ne

-- after the events of the roads to the boxes below k
record RoadsTo (before after : Links) (n a k : ℕ) (w v : World) : Type 0 where
  boxes : v.n ≡ n
  real : (x : ℕ) → v.real a x ≡ cond (ltb x k) (road_cost x after) (road_cost x before)
  knows : (i : ℕ) → v.knows a i ≡ w.knows a i

next_road : (x k p q : ℕ) → cond (eqb x k) p (cond (ltb x k) p q) ≡ cond (ltb x (suc k)) p q
next_road x k p q = grind (arith, nat_tests)

next_self : (x k p q : ℕ) → (x ≡ k → p ≡ q) → cond (ltb x k) p q ≡ cond (ltb x (suc k)) p q
next_self x k p q h = grind (arith, nat_tests)

-- a road that is closed before and after has no events
pub no_events : (before after : Links) (e : ℕ) → road_cost e before ≡ 0 → road_cost e after ≡ 0 → road_events before after e ≡ []
no_events before after e p q = rw (p, q) (cond-false (is_anew before after e && false) (Road after.me e 0 ∷ Road after.me e 0 ∷ []) [] (and-false (is_anew before after e)))
  where
    and-false : (x : Bool) → (x && false) ≡ false
    and-false true = refl
    and-false false = refl

module _ (before after : Links) (b : Box) (es : List Ev) (kb : Sound before) (ka : Sound after) (nb : before.n ≡ b.n) (mb : before.me ≡ b.me) (na : after.n ≡ b.n) (ma : after.me ≡ b.me)
    (cost : (e : ℕ) → b.cost e ≡ road_cost e before) (st : Stands b es) (wn : (world b.n es).n ≡ b.n) where
  roads_to_lem : (k : ℕ) → k ≤ b.n → RoadsTo before after b.n b.me k (world b.n es) (world b.n (relinks before after k ++ es))
  unfolding relinks
  roads_to_lem zero h = record { boxes = wn; real = λ x. st.real x ∙ (cost x ∙ sym (cond-false (ltb x 0) (road_cost x after) (road_cost x before) (le-ltb x 0 (omega arith)))); knows = λ i. refl }
  roads_to_lem (suc k) h =
      subst (λ (l : List Ev). RoadsTo before after b.n b.me (suc k) (world b.n es) (world b.n l)) (sym (append_assoc (road_events before after k) (relinks before after k) es)) (go (eqb b.me k) refl (roads_to_lem k (omega arith)))
    where
      go : (t : Bool) → eqb b.me k ≡ t → RoadsTo before after b.n b.me k (world b.n es) (world b.n (relinks before after k ++ es)) → RoadsTo before after b.n b.me (suc k) (world b.n es) (world b.n (road_events before after k ++ (relinks before after k ++ es)))
      go true i ih =
          let mk : b.me ≡ k = eqb-true b.me k i in
          let p : road_cost k before ≡ 0 = subst (λ (x : ℕ). road_cost x before ≡ 0) (mb ∙ mk) (road_self before kb) in
          let q : road_cost k after ≡ 0 = subst (λ (x : ℕ). road_cost x after ≡ 0) (ma ∙ mk) (road_self after ka) in
          subst (λ (l : List Ev). RoadsTo before after b.n b.me (suc k) (world b.n es) (world b.n (l ++ (relinks before after k ++ es)))) (sym (no_events before after k p q))
          (record { boxes = ih.boxes; real = λ x. ih.real x ∙ next_self x k (road_cost x after) (road_cost x before) (λ y. rw y (q ∙ sym p)); knows = ih.knows })
      go false i ih =
          let r = road_leads before after b.n b.me k (relinks before after k ++ es) ma ih.boxes st.is_one h (eqb-false b.me k i) (ih.real k ∙ cond-false (ltb k k) (road_cost k after) (road_cost k before) (le-ltb k k (omega arith))) in
          record {
            boxes = r.boxes ∙ ih.boxes;
            real = λ x. r.real x ∙ (ap (λ (y : ℕ). cond (eqb x k) (road_cost k after) y) (ih.real x) ∙ (same x ∙ next_road x k (road_cost x after) (road_cost x before)));
            knows = λ j. r.knows j ∙ ih.knows j;
          }
        where
          same : (x : ℕ) → cond (eqb x k) (road_cost k after) (cond (ltb x k) (road_cost x after) (road_cost x before)) ≡ cond (eqb x k) (road_cost x after) (cond (ltb x k) (road_cost x after) (road_cost x before))
          same x = by (eqb x k) refl
            where
              by : (t : Bool) → eqb x k ≡ t → cond (eqb x k) (road_cost k after) (cond (ltb x k) (road_cost x after) (road_cost x before)) ≡ cond (eqb x k) (road_cost x after) (cond (ltb x k) (road_cost x after) (road_cost x before))
              by true e = let q : x ≡ k = eqb-true x k e in ap (λ (y : ℕ). cond (eqb x k) (road_cost y after) (cond (ltb x k) (road_cost x after) (road_cost x before))) (sym q)
              by false e = rw e refl

pub relink_so_lem : RelinkSo
relink_so_lem before after b es kb ka nb mb na ma cost st =
    let wn : (world b.n es).n ≡ b.n = world_n b.n es in
    let r = roads_to_lem before after b es kb ka nb mb na ma cost st wn b.n (omega arith) in
    record {
      is_one = st.is_one;
      real = λ e. r.real e ∙ of_cond (λ (y : ℕ). y ≡ road_cost e after) (ltb e b.n) (road_cost e after) (road_cost e before) (λ _. refl)
          (λ i. let h : b.n ≤ e = ltb-false e b.n i in road_beyond before e kb (omega arith) ∙ sym (road_beyond after e ka (omega arith)));
      knows = λ i. r.knows i ∙ st.knows i;
    }

-- the events of one input lead a box that stands, with the roads of its links, where its links then say
pub relink_input : (s : Links) (i : Input) (b : Box) (es : List Ev) → Sound s → s.n ≡ b.n → s.me ≡ b.me → ((e : ℕ) → b.cost e ≡ road_cost e s) → Stands b es → Stands (relinked s (meets i s) b) (relinks s (meets i s) b.n ++ es)
relink_input s i b es k n m c st = relink_so_lem s (meets i s) b es k (sound_meets i s k) n m ((meets_same i s).0 ∙ n) ((meets_same i s).1 ∙ m) c st
