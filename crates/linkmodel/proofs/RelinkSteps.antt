-- Told of the events of changed links one by one, a box becomes what it should.
use Rattle.std.proofs.Common.{◌≡◌, ℕ, zero, suc, ◌<◌, ◌≤◌, Bool, true, false, cond, not, ◌&&◌, ◌||◌, eqb, ltb, List, [], ◌∷◌, ◌++◌, sym, refl, ap, ◌∙◌, subst, arith, ltb-false, ltb-true, le-ltb, lt-ltb, eq-eqb, ne_eqb, eqb-true}
use mathlib.Core.Path.{fun_ext}
use borrow.Author.Tests.{eqb-false}
use Rattle.std.proofs.lemmas.Bool.Decides.{nat_tests}
use Rattle.model.specs.Words.{Entry, Ev, Road, Says, Sends, Comes, Falls}
use Rattle.model.specs.Box.{Box, road_is}
use Rattle.model.specs.Flood.{row}
use Rattle.model.proofs.Tests.{of_cond, cond-true, cond-false}
use Rattle.linkmodel.proofs.Bools.{and_left, and_right}
use Rattle.linkmodel.specs.Links.{Links, road_cost, is_anew, road_events, relinks}
use Rattle.linkmodel.specs.Relinked.{Sound, relinked, by_roads, RelinkOneByOne}
use Rattle.linkmodel.proofs.Relinks.{road_self, road_beyond, no_events}

by_append : (xs ys : List Ev) (b : Box) → by_roads (xs ++ ys) b ≡ by_roads xs (by_roads ys b)
unfolding by_roads
by_append [] ys b = refl
by_append (Road a e c ∷ xs) ys b = ap (road_is e c) (by_append xs ys b)
by_append (Says a t ∷ xs) ys b = by_append xs ys b
by_append (Sends a e i ∷ xs) ys b = by_append xs ys b
by_append (Comes k t ∷ xs) ys b = by_append xs ys b
by_append (Falls a ∷ xs) ys b = by_append xs ys b

-- a box that differs from another in its road to e
record RoadBy (e c : ℕ) (sh : ℕ → Bool) (s t : Box) : Type 0 where
  boxes : t.n ≡ s.n
  self : t.me ≡ s.me
  word : t.word ≡ s.word
  cost : (x : ℕ) → t.cost x ≡ cond (eqb x e) c (s.cost x)
  shown : (x i : ℕ) → t.shown x i ≡ cond (eqb x e) (sh i) (s.shown x i)

row_in : (b : Bool) (f g : ℕ → Bool) (i : ℕ) → cond b f g i ≡ cond b (f i) (g i)
row_in true f g i = refl
row_in false f g i = refl

road_by_lem : (e c : ℕ) (s : Box) → e < s.n → (s.me ≡ e → ⊥) → RoadBy e c (λ i. ltb 0 (s.cost e) && (ltb 0 c && s.shown e i)) s (road_is e c s)
road_by_lem e c s h ne = record {
  boxes = refl;
  self = refl;
  word = refl;
  cost = λ x. ap (λ (f : ℕ → ℕ). f x) (cond-true (ltb e s.n && not (eqb s.me e)) (row e c s.cost) s.cost (rw (lt-ltb e s.n h, ne_eqb s.me e ne)));
  shown = λ x i. row_in (eqb x e) (λ j. ltb 0 (s.cost e) && (ltb 0 c && s.shown e j)) (s.shown x) i;
}

-- what has been shown over a road, by whether its number stayed, and what it costs before and after: closed and opened, left alone, or changed
twice : (l : Bool) (p q : ℕ) (sh : Bool) → (not l && (ltb 0 p && ltb 0 q)) ≡ true → false ≡ (l && (ltb 0 p && (ltb 0 q && sh)))
twice true p q sh h = let y : ◌≡◌ {A = ℕ} 0 1 = cc in absurd (omega arith)
twice false p q sh h = refl

none : (l : Bool) (p q : ℕ) (sh : Bool) → (sh ≡ true → 0 < p) → (not l && (ltb 0 p && ltb 0 q)) ≡ false → p ≡ q → sh ≡ (l && (ltb 0 p && (ltb 0 q && sh)))
none l p q false f h e = falses l (ltb 0 p) (ltb 0 q)
  where
    falses : (b c d : Bool) → false ≡ (b && (c && (d && false)))
    falses true true true = refl
    falses true true false = refl
    falses true false d = refl
    falses false c d = refl
none true p q true f h e = rw (lt-ltb 0 p (f refl), lt-ltb 0 q (omega (arith, f refl)))
none false p q true f h e =
    let z : (ltb 0 p && ltb 0 q) ≡ true = rw (lt-ltb 0 p (f refl), lt-ltb 0 q (omega (arith, f refl))) in
    sym z ∙ h

once : (l : Bool) (p q : ℕ) (sh : Bool) → (not l && (ltb 0 p && ltb 0 q)) ≡ false → (ltb 0 p && (ltb 0 q && sh)) ≡ (l && (ltb 0 p && (ltb 0 q && sh)))
once true p q sh h = refl
once false p q sh h = go (ltb 0 p) (ltb 0 q) h
  where
    go : (b c : Bool) → (b && c) ≡ false → (b && (c && sh)) ≡ false
    go true true z = let y : ◌≡◌ {A = ℕ} 0 1 = cc in absurd (omega arith)
    go true false z = refl
    go false c z = refl

-- the events of one road, one by one
module _ (before after : Links) (e : ℕ) (s : Box) (he : e < s.n) (ne : s.me ≡ e → ⊥) (co : s.cost e ≡ road_cost e before) (op : (i : ℕ) → s.shown e i ≡ true → 0 < road_cost e before) where
  abbrev Sh : ℕ → Bool
  Sh i = eqb (before.last e) (after.last e) && (ltb 0 (road_cost e before) && (ltb 0 (road_cost e after) && s.shown e i))

  changed : RoadBy e (road_cost e after) Sh s (by_roads (road_events before after e) s)
  unfolding by_roads
  changed =
      by_cases (is_anew before after e && (ltb 0 (road_cost e before) && ltb 0 (road_cost e after))) refl (eqb (road_cost e before) (road_cost e after)) refl
    where
      reshown : (t : Box) (sh : ℕ → Bool) → ((i : ℕ) → sh i ≡ Sh i) → RoadBy e (road_cost e after) sh s t → RoadBy e (road_cost e after) Sh s t
      reshown t sh f r = record { boxes = r.boxes; self = r.self; word = r.word; cost = r.cost; shown = λ x i. r.shown x i ∙ ap (λ (b : Bool). cond (eqb x e) b (s.shown x i)) (f i) }

      by_cases : (c : Bool) → (is_anew before after e && (ltb 0 (road_cost e before) && ltb 0 (road_cost e after))) ≡ c → (d : Bool) → eqb (road_cost e before) (road_cost e after) ≡ d →
          RoadBy e (road_cost e after) Sh s (by_roads (cond (is_anew before after e && (ltb 0 (road_cost e before) && ltb 0 (road_cost e after))) (Road after.me e (road_cost e after) ∷ Road after.me e 0 ∷ [])
          (cond (eqb (road_cost e before) (road_cost e after)) [] (Road after.me e (road_cost e after) ∷ []))) s)
      by_cases true i d j = subst (λ (l : List Ev). RoadBy e (road_cost e after) Sh s (by_roads l s))
          (sym (cond-true (is_anew before after e && (ltb 0 (road_cost e before) && ltb 0 (road_cost e after))) (Road after.me e (road_cost e after) ∷ Road after.me e 0 ∷ []) (cond (eqb (road_cost e before) (road_cost e after)) [] (Road after.me e (road_cost e after) ∷ [])) i)) two
        where
          one : RoadBy e 0 (λ i. ltb 0 (s.cost e) && (ltb 0 0 && s.shown e i)) s (road_is e 0 s)
          one = road_by_lem e 0 s he ne

          more : RoadBy e (road_cost e after) (λ i. ltb 0 ((road_is e 0 s).cost e) && (ltb 0 (road_cost e after) && (road_is e 0 s).shown e i)) (road_is e 0 s) (road_is e (road_cost e after) (road_is e 0 s))
          more = road_by_lem e (road_cost e after) (road_is e 0 s) he ne

          shut : (road_is e 0 s).cost e ≡ 0
          shut = one.cost e ∙ cond-true (eqb e e) 0 (s.cost e) (eq-eqb e e refl)

          two : RoadBy e (road_cost e after) Sh s (road_is e (road_cost e after) (road_is e 0 s))
          two = record {
            boxes = refl;
            self = refl;
            word = refl;
            cost = λ x. more.cost x ∙ of_cond (λ (y : ℕ). cond (eqb x e) (road_cost e after) ((road_is e 0 s).cost x) ≡ y) (eqb x e) (road_cost e after) (s.cost x)
                (λ k. cond-true (eqb x e) (road_cost e after) ((road_is e 0 s).cost x) k) (λ k. cond-false (eqb x e) (road_cost e after) ((road_is e 0 s).cost x) k ∙ (one.cost x ∙ cond-false (eqb x e) 0 (s.cost x) k));
            shown = λ x y. more.shown x y ∙ of_cond (λ (z : Bool). cond (eqb x e) (ltb 0 ((road_is e 0 s).cost e) && (ltb 0 (road_cost e after) && (road_is e 0 s).shown e y)) ((road_is e 0 s).shown x y) ≡ z) (eqb x e) (Sh y) (s.shown x y)
                (λ k. cond-true (eqb x e) (ltb 0 ((road_is e 0 s).cost e) && (ltb 0 (road_cost e after) && (road_is e 0 s).shown e y)) ((road_is e 0 s).shown x y) k
                ∙ (ap (λ (c : ℕ). ltb 0 c && (ltb 0 (road_cost e after) && (road_is e 0 s).shown e y)) shut ∙ twice (eqb (before.last e) (after.last e)) (road_cost e before) (road_cost e after) (s.shown e y) i))
                (λ k. cond-false (eqb x e) (ltb 0 ((road_is e 0 s).cost e) && (ltb 0 (road_cost e after) && (road_is e 0 s).shown e y)) ((road_is e 0 s).shown x y) k ∙ (one.shown x y ∙ cond-false (eqb x e) (ltb 0 (s.cost e) && (ltb 0 0 && s.shown e y)) (s.shown x y) k));
          }
      by_cases false i true j = subst (λ (l : List Ev). RoadBy e (road_cost e after) Sh s (by_roads l s))
          (sym (cond-false (is_anew before after e && (ltb 0 (road_cost e before) && ltb 0 (road_cost e after))) (Road after.me e (road_cost e after) ∷ Road after.me e 0 ∷ []) (cond (eqb (road_cost e before) (road_cost e after)) [] (Road after.me e (road_cost e after) ∷ [])) i
          ∙ cond-true (eqb (road_cost e before) (road_cost e after)) [] (Road after.me e (road_cost e after) ∷ []) j))
          (record {
            boxes = refl;
            self = refl;
            word = refl;
            cost = λ x. of_cond (λ (y : ℕ). s.cost x ≡ y) (eqb x e) (road_cost e after) (s.cost x) (λ k. ap s.cost (eqb-true x e k) ∙ (co ∙ eqb-true (road_cost e before) (road_cost e after) j)) (λ _. refl);
            shown = λ x y. of_cond (λ (z : Bool). s.shown x y ≡ z) (eqb x e) (Sh y) (s.shown x y)
                (λ k. ap (λ (u : ℕ). s.shown u y) (eqb-true x e k) ∙ none (eqb (before.last e) (after.last e)) (road_cost e before) (road_cost e after) (s.shown e y) (op y) i (eqb-true (road_cost e before) (road_cost e after) j)) (λ _. refl);
          })
      by_cases false i false j = subst (λ (l : List Ev). RoadBy e (road_cost e after) Sh s (by_roads l s))
          (sym (cond-false (is_anew before after e && (ltb 0 (road_cost e before) && ltb 0 (road_cost e after))) (Road after.me e (road_cost e after) ∷ Road after.me e 0 ∷ []) (cond (eqb (road_cost e before) (road_cost e after)) [] (Road after.me e (road_cost e after) ∷ [])) i
          ∙ cond-false (eqb (road_cost e before) (road_cost e after)) [] (Road after.me e (road_cost e after) ∷ []) j))
          (reshown (road_is e (road_cost e after) s) (λ y. ltb 0 (s.cost e) && (ltb 0 (road_cost e after) && s.shown e y))
          (λ y. ap (λ (c : ℕ). ltb 0 c && (ltb 0 (road_cost e after) && s.shown e y)) co ∙ once (eqb (before.last e) (after.last e)) (road_cost e before) (road_cost e after) (s.shown e y) i) (road_by_lem e (road_cost e after) s he ne))

-- after the events of the roads to the boxes below k
record RoadsBy (before after : Links) (b : Box) (k : ℕ) (t : Box) : Type 0 where
  boxes : t.n ≡ b.n
  self : t.me ≡ b.me
  word : t.word ≡ b.word
  cost : (x : ℕ) → t.cost x ≡ cond (ltb x k) (road_cost x after) (road_cost x before)
  shown : (x i : ℕ) → t.shown x i ≡ cond (ltb x k) ((relinked before after b).shown x i) (b.shown x i)

next_below : (x k : ℕ) → ltb x (suc k) ≡ (eqb x k || ltb x k)
next_below x k = grind (arith, nat_tests)

-- one more of those below
one_more : {A : Type 0} (x k : ℕ) (p q r : A) → (x ≡ k → r ≡ p) → cond (eqb x k) r (cond (ltb x k) p q) ≡ cond (ltb x (suc k)) p q
one_more x k p q r h = go (eqb x k) refl (ltb x k) ∙ ap (λ (c : Bool). cond c p q) (sym (next_below x k))
  where
    go : (c : Bool) → eqb x k ≡ c → (d : Bool) → cond (eqb x k) r (cond d p q) ≡ cond (eqb x k || d) p q
    go true e d = rw e (h (eqb-true x k e))
    go false e d = rw e refl

module _ (before after : Links) (b : Box) (kb : Sound before) (ka : Sound after) (mb : before.me ≡ b.me) (ma : after.me ≡ b.me)
    (cost : (e : ℕ) → b.cost e ≡ road_cost e before) (op : (e i : ℕ) → b.shown e i ≡ true → 0 < b.cost e) where
  shown_none : (e i : ℕ) → road_cost e before ≡ 0 → b.shown e i ≡ (relinked before after b).shown e i
  shown_none e i z = shut (eqb (before.last e) (after.last e)) (ltb 0 (road_cost e after)) (b.shown e i) refl
    where
      shut : (l q c : Bool) → b.shown e i ≡ c → c ≡ (l && (ltb 0 (road_cost e before) && (q && c)))
      shut l q true s = let p : 0 < b.cost e = op e i s in absurd (omega (arith, cost e))
      shut l q false s = falses l (ltb 0 (road_cost e before)) q
        where
          falses : (b c d : Bool) → false ≡ (b && (c && (d && false)))
          falses true true true = refl
          falses true true false = refl
          falses true false d = refl
          falses false c d = refl

  roads_by_lem : (k : ℕ) → k ≤ b.n → RoadsBy before after b k (by_roads (relinks before after k) b)
  unfolding relinks by_roads
  roads_by_lem zero h = record {
    boxes = refl;
    self = refl;
    word = refl;
    cost = λ x. cost x ∙ sym (cond-false (ltb x 0) (road_cost x after) (road_cost x before) (le-ltb x 0 (omega arith)));
    shown = λ x i. sym (cond-false (ltb x 0) ((relinked before after b).shown x i) (b.shown x i) (le-ltb x 0 (omega arith)));
  }
  roads_by_lem (suc k) h = subst (RoadsBy before after b (suc k)) (sym (by_append (road_events before after k) (relinks before after k) b)) (go (eqb b.me k) refl (roads_by_lem k (omega arith)))
    where
      go : (c : Bool) → eqb b.me k ≡ c → RoadsBy before after b k (by_roads (relinks before after k) b) → RoadsBy before after b (suc k) (by_roads (road_events before after k) (by_roads (relinks before after k) b))
      go true i ih =
          let mk : b.me ≡ k = eqb-true b.me k i in
          let p : road_cost k before ≡ 0 = subst (λ (x : ℕ). road_cost x before ≡ 0) (mb ∙ mk) (road_self before kb) in
          let q : road_cost k after ≡ 0 = subst (λ (x : ℕ). road_cost x after ≡ 0) (ma ∙ mk) (road_self after ka) in
          subst (λ (l : List Ev). RoadsBy before after b (suc k) (by_roads l (by_roads (relinks before after k) b))) (sym (no_events before after k p q))
          (record {
            boxes = ih.boxes;
            self = ih.self;
            word = ih.word;
            cost = λ x. ih.cost x ∙ (same x (road_cost x after) (road_cost x before) (λ e. subst (λ (y : ℕ). road_cost y before ≡ road_cost y after) (sym e) (p ∙ sym q)));
            shown = λ x j. ih.shown x j ∙ (same x ((relinked before after b).shown x j) (b.shown x j) (λ e. subst (λ (y : ℕ). b.shown y j ≡ (relinked before after b).shown y j) (sym e) (shown_none k j p)));
          })
        where
          same : {A : Type 0} (x : ℕ) (p q : A) → (x ≡ k → q ≡ p) → cond (ltb x k) p q ≡ cond (ltb x (suc k)) p q
          same {A} x p q e = by (eqb x k) refl ∙ one_more x k p q q e
            where
              by : (c : Bool) → eqb x k ≡ c → cond (ltb x k) p q ≡ cond (eqb x k) q (cond (ltb x k) p q)
              by true z = cond-false (ltb x k) p q (le-ltb x k (omega (arith, eqb-true x k z))) ∙ sym (cond-true (eqb x k) q (cond (ltb x k) p q) z)
              by false z = sym (cond-false (eqb x k) q (cond (ltb x k) p q) z)
      go false i ih =
          let s = by_roads (relinks before after k) b in
          let below : ltb k k ≡ false = le-ltb k k (omega arith) in
          let sk : (j : ℕ) → s.shown k j ≡ b.shown k j = λ j. ih.shown k j ∙ cond-false (ltb k k) ((relinked before after b).shown k j) (b.shown k j) below in
          let r = changed before after k s (rw ih.boxes h) (λ e. eqb-false b.me k i (sym ih.self ∙ e)) (ih.cost k ∙ cond-false (ltb k k) (road_cost k after) (road_cost k before) below)
          (λ j e. subst (λ (c : ℕ). 0 < c) (cost k) (op k j (sym (sk j) ∙ e))) in
          record {
            boxes = r.boxes ∙ ih.boxes;
            self = r.self ∙ ih.self;
            word = r.word ∙ ih.word;
            cost = λ x. r.cost x ∙ (ap (λ (y : ℕ). cond (eqb x k) (road_cost k after) y) (ih.cost x) ∙ one_more x k (road_cost x after) (road_cost x before) (road_cost k after) (λ e. ap (λ (y : ℕ). road_cost y after) (sym e)));
            shown = λ x j. r.shown x j ∙ (ap (λ (y : Bool). cond (eqb x k) (eqb (before.last k) (after.last k) && (ltb 0 (road_cost k before) && (ltb 0 (road_cost k after) && s.shown k j))) y) (ih.shown x j)
                ∙ one_more x k ((relinked before after b).shown x j) (b.shown x j) (eqb (before.last k) (after.last k) && (ltb 0 (road_cost k before) && (ltb 0 (road_cost k after) && s.shown k j)))
                (λ e. ap (λ (c : Bool). eqb (before.last k) (after.last k) && (ltb 0 (road_cost k before) && (ltb 0 (road_cost k after) && c))) (sk j) ∙ ap (λ (y : ℕ). (relinked before after b).shown y j) (sym e)));
          }

-- two boxes with the same fields
box_path : (s t : Box) → s.n ≡ t.n → s.me ≡ t.me → s.cost ≡ t.cost → s.word ≡ t.word → s.shown ≡ t.shown → s ≡ t
box_path s t a b c d e =
    ap {B = Box} (λ (x : ℕ). record { n = x; me = s.me; cost = s.cost; word = s.word; shown = s.shown }) a
    ∙ (ap {B = Box} (λ (x : ℕ). record { n = t.n; me = x; cost = s.cost; word = s.word; shown = s.shown }) b
    ∙ (ap {B = Box} (λ (x : ℕ → ℕ). record { n = t.n; me = t.me; cost = x; word = s.word; shown = s.shown }) c
    ∙ (ap {B = Box} (λ (x : ℕ → Entry). record { n = t.n; me = t.me; cost = t.cost; word = x; shown = s.shown }) d
    ∙ ap {B = Box} (λ (x : ℕ → ℕ → Bool). record { n = t.n; me = t.me; cost = t.cost; word = t.word; shown = x }) e)))

pub relink_one_by_one_lem : RelinkOneByOne
relink_one_by_one_lem before after b kb ka nb mb na ma cost op =
    let r = roads_by_lem before after b kb ka mb ma cost op b.n (omega arith) in
    let t = by_roads (relinks before after b.n) b in
    box_path t (relinked before after b) r.boxes r.self
    (fun_ext (λ x. r.cost x ∙ of_cond (λ (y : ℕ). y ≡ road_cost x after) (ltb x b.n) (road_cost x after) (road_cost x before) (λ _. refl)
    (λ i. let h : b.n ≤ x = ltb-false x b.n i in road_beyond before x kb (omega arith) ∙ sym (road_beyond after x ka (omega arith)))))
    r.word
    (fun_ext (λ x. fun_ext (λ i. r.shown x i ∙ of_cond (λ (y : Bool). y ≡ (relinked before after b).shown x i) (ltb x b.n) ((relinked before after b).shown x i) (b.shown x i) (λ _. refl)
    (λ j. let h : b.n ≤ x = ltb-false x b.n j in shown_none before after b kb ka mb ma cost op x i (road_beyond before x kb (omega arith))))))

-- what is shown then is shown over an open road
pub relinked_shown : (before after : Links) (b : Box) (e i : ℕ) → (relinked before after b).shown e i ≡ true → 0 < (relinked before after b).cost e
relinked_shown before after b e i h = ltb-true 0 (road_cost e after) (and_left (ltb 0 (road_cost e after)) (b.shown e i)
    (and_right (ltb 0 (road_cost e before)) (ltb 0 (road_cost e after) && b.shown e i) (and_right (eqb (before.last e) (after.last e)) (ltb 0 (road_cost e before) && (ltb 0 (road_cost e after) && b.shown e i)) h)))
