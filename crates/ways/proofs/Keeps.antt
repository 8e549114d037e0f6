-- What the loop over the turns keeps, in the lists of numbers: its start, its step and its end.
-- Assumes nothing.
use Rattle.std.proofs.Common.{◌≡◌, ℕ, ◌+◌, ◌*◌, ◌<◌, ◌≤◌, Bool, true, false, cond, not, ◌&&◌, eqb, ltb, ◌⊎◌, List, length, get_or, set, sym, refl, ap, ◌∙◌, subst, inl, inr, arith, length-set, get_or-set_other, get_or-set_same, ltb-true, le-ltb, lt-ltb, eq-eqb, ne_eqb, eqb-true}
use borrow.Author.Tests.{eqb-false, clash}
use Rattle.model.specs.Map.{Map, Never, At}
use Rattle.ways.specs.Numbers.{far_of, road_by, map_on}
use Rattle.ways.specs.Table.{Found}
use Rattle.ways.specs.Turns.{less_of, next_of, After, Same, begins, Begun}
use Rattle.ways.proofs.Goes.{Going}
use Rattle.ways.proofs.Turn.{Out, Turn, turn}
use Rattle.ways.proofs.Ends.{Start, begin, AllShut, end_far, end_hop, gone_of, gone_more, all_gone, gone_one}
use Rattle.ways.proofs.Lists.{fars, open_of, opens, nums, far_at, far_never, at_far, never_far, open_far, open_zero, open_never, open_at, at_open, offer_out}

-- 0 stands in edge just where a box is gone through
abbrev pub Marked : List ℕ → List ℕ → ℕ → Type 0
Marked dist edge k = ((get_or edge k 0 ≡ 0) × (get_or dist k 0 ≡ 4294967295 → ⊥)) ⊎ ((0 < get_or edge k 0) × (get_or dist k 0 ≡ 4294967295))

-- between turns
pub record Walking (n me : ℕ) (costs : List (List ℕ)) (dist edge next : List ℕ) (done : ℕ) : Type 0 where
  pub going : Going (map_on n costs) me (fars dist) (opens edge) (nums next)
  pub gone : done ≤ gone_of (map_on n costs) (fars dist)
  pub bound : (k : ℕ) → k < n → (get_or edge k 0 ≡ 4294967295) ⊎ (get_or edge k 0 ≤ done * 65535)
  pub mark : (k : ℕ) → k < n → Marked dist edge k
  pub no_dists : (k : ℕ) → n ≤ k → k < 64 → get_or dist k 0 ≡ 4294967295
  pub no_nexts : (k : ℕ) → n ≤ k → k < 64 → get_or next k 0 ≡ 255
  pub long_dist : length dist ≡ 64
  pub long_edge : length edge ≡ 64

-- what a turn that goes through v does to the lists
pub record Through (n : ℕ) (costs : List (List ℕ)) (v : ℕ) (dist edge next edge' next' : List ℕ) : Type 0 where
  pub below : v < n
  pub open' : (0 < get_or edge v 0) × (get_or edge v 0 < 4294967295)
  pub least : (k : ℕ) → k < n → 0 < get_or edge k 0 → get_or edge v 0 ≤ get_or edge k 0
  pub after : (k : ℕ) → k < n → After costs v (get_or edge v 0) (get_or next v 0) (set edge v 0) next edge' next' k
  pub rest : (k : ℕ) → n ≤ k → Same (set edge v 0) next edge' next' k
  pub long_dist : length dist ≡ 64
  pub long_edge : length edge ≡ 64
  pub long_edge' : length edge' ≡ 64

-- a box that isn't offered the way keeps its numbers
unoffered : (costs : List (List ℕ)) (v best first : ℕ) (g x g₁ x₁ : List ℕ) (k : ℕ) → After costs v best first g x g₁ x₁ k → ltb 0 (road_by costs v k) ≡ false → Same g x g₁ x₁ k
unoffered costs v best first g x g₁ x₁ k a h =
    record {
      edges = a.edges ∙ ap (λ (b : Bool). cond b (less_of (best + road_by costs v k) (get_or g k 0)) (get_or g k 0)) h;
      nexts = a.nexts ∙ ap (λ (b : Bool). cond b (next_of (best + road_by costs v k) (get_or g k 0) first (get_or x k 0)) (get_or x k 0)) h;
    }

-- nor does one that is gone through, since no offer is below 0
zeroed : (costs : List (List ℕ)) (v best first : ℕ) (g x g₁ x₁ : List ℕ) (k : ℕ) → After costs v best first g x g₁ x₁ k → get_or g k 0 ≡ 0 → Same g x g₁ x₁ k
zeroed costs v best first g x g₁ x₁ k a h = go (ltb 0 (road_by costs v k)) refl
  where
    go : (b : Bool) → ltb 0 (road_by costs v k) ≡ b → Same g x g₁ x₁ k
    go false i = unoffered costs v best first g x g₁ x₁ k a i
    go true i =
        let p : 0 < road_by costs v k = ltb-true 0 (road_by costs v k) i in
        let l : ltb (best + road_by costs v k) (get_or g k 0) ≡ false = le-ltb (best + road_by costs v k) (get_or g k 0) (omega arith) in
        let e : eqb (best + road_by costs v k) (get_or g k 0) ≡ false = ne_eqb (best + road_by costs v k) (get_or g k 0) (λ q. omega arith) in
        record {
          edges = a.edges ∙ ap (λ (b : Bool). cond b (less_of (best + road_by costs v k) (get_or g k 0)) (get_or g k 0)) i ∙ ap (λ (b : Bool). cond b (best + road_by costs v k) (get_or g k 0)) l;
          nexts =
              a.nexts ∙ ap (λ (b : Bool). cond b (next_of (best + road_by costs v k) (get_or g k 0) first (get_or x k 0)) (get_or x k 0)) i
              ∙ ap (λ (b : Bool). cond b first (cond (eqb (best + road_by costs v k) (get_or g k 0) && ltb first (get_or x k 0)) first (get_or x k 0))) l
              ∙ ap (λ (b : Bool). cond (b && ltb first (get_or x k 0)) first (get_or x k 0)) e;
        }

-- and an open one stays open
positive : (costs : List (List ℕ)) (v best first : ℕ) (g x g₁ x₁ : List ℕ) (k : ℕ) → After costs v best first g x g₁ x₁ k → 0 < best → 0 < get_or g k 0 → 0 < get_or g₁ k 0
positive costs v best first g x g₁ x₁ k a pb pg = go (ltb 0 (road_by costs v k)) refl (ltb (best + road_by costs v k) (get_or g k 0)) refl
  where
    go : (b : Bool) → ltb 0 (road_by costs v k) ≡ b → (d : Bool) → ltb (best + road_by costs v k) (get_or g k 0) ≡ d → 0 < get_or g₁ k 0
    go true i true j = omega (arith, pb, a.edges ∙ ap (λ (b : Bool). cond b (less_of (best + road_by costs v k) (get_or g k 0)) (get_or g k 0)) i ∙ ap (λ (b : Bool). cond b (best + road_by costs v k) (get_or g k 0)) j)
    go true i false j = omega (arith, pg, a.edges ∙ ap (λ (b : Bool). cond b (less_of (best + road_by costs v k) (get_or g k 0)) (get_or g k 0)) i ∙ ap (λ (b : Bool). cond b (best + road_by costs v k) (get_or g k 0)) j)
    go false i d j = omega (arith, pg, a.edges ∙ ap (λ (b : Bool). cond b (less_of (best + road_by costs v k) (get_or g k 0)) (get_or g k 0)) i)

-- so the turn is one
pub through_turn : (n : ℕ) (costs : List (List ℕ)) (v : ℕ) (dist edge next edge' next' : List ℕ) → n ≤ 64 → get_or edge v 0 ≤ 4194240 → ((k : ℕ) → k < n → get_or edge k 0 ≤ 4294967295) → ((k : ℕ) → k < n → Marked dist edge k) → Through n costs v dist edge next edge' next' →
    Turn (map_on n costs) v (get_or edge v 0) (fars dist) (opens edge) (nums next) (fars (set dist v (get_or edge v 0))) (opens edge') (nums next')
through_turn n costs v dist edge next edge' next' ln lb fit mark t =
    record {
      gone = ap far_of own ∙ far_at (get_or edge v 0) (λ h. omega (arith, t.open'.1));
      shut = open_zero (get_or edge' v 0) (at_v.edges ∙ zero_v);
      own = at_v.nexts;
      others = λ k lk ne. ap far_of (get_or-set_other dist v k (get_or edge v 0) 0 ne);
      still = λ k lk ne y. let s = not_there k lk ne y in (ap open_of (s.edges ∙ old k ne), s.nexts);
      out = λ k lk ne h p. out k lk ne h p (mark k lk);
    }
  where
    best : ℕ
    best = get_or edge v 0

    first : ℕ
    first = get_or next v 0

    edge₁ : List ℕ
    edge₁ = set edge v 0

    own : get_or (set dist v best) v 0 ≡ best
    own = get_or-set_same dist v best 0 (omega (arith, t.below, t.long_dist))

    zero_v : get_or edge₁ v 0 ≡ 0
    zero_v = get_or-set_same edge v 0 0 (omega (arith, t.below, t.long_edge))

    old : (k : ℕ) → (k ≡ v → ⊥) → get_or edge₁ k 0 ≡ get_or edge k 0
    old k ne = get_or-set_other edge v k 0 0 ne

    at_v : Same edge₁ next edge' next' v
    at_v = zeroed costs v best first edge₁ next edge' next' v (t.after v t.below) zero_v

    not_there : (k : ℕ) → k < n → (k ≡ v → ⊥) → ((c : ℕ) × (fars dist k ≡ At c)) ⊎ (road_by costs v k ≡ 0) → Same edge₁ next edge' next' k
    not_there k lk ne (inl y) = elim (mark k lk) [ inl m ↦ zeroed costs v best first edge₁ next edge' next' k (t.after k lk) (old k ne ∙ m.0) | inr m ↦ absurd ((at_far (get_or dist k 0) y.0 y.1).1 m.1) ]
    not_there k lk ne (inr y) = unoffered costs v best first edge₁ next edge' next' k (t.after k lk) (le-ltb 0 (road_by costs v k) (omega arith))

    out : (k : ℕ) → k < n → (k ≡ v → ⊥) → fars dist k ≡ Never → 0 < road_by costs v k → Marked dist edge k → Out (opens edge k) (opens edge' k) (nums next k) (nums next' k) (best + road_by costs v k) first
    out k lk ne h p (inl m) = absurd (m.1 (never_far (get_or dist k 0) h))
    out k lk ne h p (inr m) =
        let a = t.after k lk in
        let y : ltb 0 (road_by costs v k) ≡ true = lt-ltb 0 (road_by costs v k) p in
        offer_out (get_or edge k 0) (get_or edge' k 0) (get_or next k 0) (get_or next' k 0) (best + road_by costs v k) first m.0 (fit k lk) (omega arith) (omega (arith, a.small, lb))
        (a.edges ∙ ap (λ (b : Bool). cond b (less_of (best + road_by costs v k) (get_or edge₁ k 0)) (get_or edge₁ k 0)) y ∙ ap (λ (g : ℕ). less_of (best + road_by costs v k) g) (old k ne))
        (a.nexts ∙ ap (λ (b : Bool). cond b (next_of (best + road_by costs v k) (get_or edge₁ k 0) first (get_or next k 0)) (get_or next k 0)) y ∙ ap (λ (g : ℕ). next_of (best + road_by costs v k) g first (get_or next k 0)) (old k ne))

-- the distances that a walk has open are small, or "never"
pub walk_small : (n me : ℕ) (costs : List (List ℕ)) (dist edge next : List ℕ) (done v : ℕ) → Walking n me costs dist edge next done → done < 64 → v < n → get_or edge v 0 < 4294967295 → get_or edge v 0 ≤ done * 65535
walk_small n me costs dist edge next done v w l lv h = elim (w.bound v lv) [ inl i ↦ absurd (omega arith) | inr i ↦ i ]

pub walk_fits : (n me : ℕ) (costs : List (List ℕ)) (dist edge next : List ℕ) (done : ℕ) → Walking n me costs dist edge next done → done ≤ 64 → (k : ℕ) → k < n → get_or edge k 0 ≤ 4294967295
walk_fits n me costs dist edge next done w l k lk = elim (w.bound k lk) [ inl i ↦ omega arith | inr i ↦ omega arith ]

-- and stay so
small_more : (costs : List (List ℕ)) (v best first : ℕ) (g x g₁ x₁ : List ℕ) (k done : ℕ) → After costs v best first g x g₁ x₁ k → best ≤ done * 65535 →
    (get_or g k 0 ≡ 4294967295) ⊎ (get_or g k 0 ≤ done * 65535) → (get_or g₁ k 0 ≡ 4294967295) ⊎ (get_or g₁ k 0 ≤ (done + 1) * 65535)
small_more costs v best first g x g₁ x₁ k done a lb h = go (ltb 0 (road_by costs v k)) refl (ltb (best + road_by costs v k) (get_or g k 0)) refl
  where
    kept : get_or g₁ k 0 ≡ get_or g k 0 → (get_or g₁ k 0 ≡ 4294967295) ⊎ (get_or g₁ k 0 ≤ (done + 1) * 65535)
    kept e = elim h [ inl i ↦ inl (e ∙ i) | inr i ↦ inr (omega (arith, e, i)) ]

    go : (b : Bool) → ltb 0 (road_by costs v k) ≡ b → (d : Bool) → ltb (best + road_by costs v k) (get_or g k 0) ≡ d → (get_or g₁ k 0 ≡ 4294967295) ⊎ (get_or g₁ k 0 ≤ (done + 1) * 65535)
    go true i true j =
        let e : get_or g₁ k 0 ≡ best + road_by costs v k = a.edges ∙ ap (λ (b : Bool). cond b (less_of (best + road_by costs v k) (get_or g k 0)) (get_or g k 0)) i ∙ ap (λ (b : Bool). cond b (best + road_by costs v k) (get_or g k 0)) j in
        inr (omega (arith, e, lb, a.small))
    go true i false j = kept (a.edges ∙ ap (λ (b : Bool). cond b (less_of (best + road_by costs v k) (get_or g k 0)) (get_or g k 0)) i ∙ ap (λ (b : Bool). cond b (best + road_by costs v k) (get_or g k 0)) j)
    go false i d j = kept (a.edges ∙ ap (λ (b : Bool). cond b (less_of (best + road_by costs v k) (get_or g k 0)) (get_or g k 0)) i)

-- a turn more
pub walk_more : (n me : ℕ) (costs : List (List ℕ)) (v : ℕ) (dist edge next edge' next' : List ℕ) (done : ℕ) → n ≤ 64 → me < n → done < n →
    Walking n me costs dist edge next done → Through n costs v dist edge next edge' next' → Walking n me costs (set dist v (get_or edge v 0)) edge' next' (done + 1)
walk_more n me costs v dist edge next edge' next' done ln lm ld w t =
    record {
      going = turn z me (fars dist) (opens edge) (nums next) (fars (set dist v best)) (opens edge') (nums next') v best w.going lm t.below open_v (λ k m lk h. let r = at_open (get_or edge k 0) m h in omega (arith, t.least k lk r.1, r.0)) tn;
      gone = omega (arith, w.gone, gone_more z me (fars dist) (opens edge) (nums next) (fars (set dist v best)) (opens edge') (nums next') v best w.going t.below open_v tn);
      bound = λ k lk. small_more costs v best (get_or next v 0) (set edge v 0) next edge' next' k done (t.after k lk) lb (shut k lk (eqb k v) refl);
      mark = λ k lk. marked k lk (eqb k v) refl;
      no_dists = λ k l m. get_or-set_other dist v k best 0 (λ q. omega (arith, t.below)) ∙ w.no_dists k l m;
      no_nexts = λ k l m. (t.rest k l).nexts ∙ w.no_nexts k l m;
      long_dist = length-set dist v best ∙ w.long_dist;
      long_edge = t.long_edge';
    }
  where
    z : Map
    z = map_on n costs

    best : ℕ
    best = get_or edge v 0

    lb : best ≤ done * 65535
    lb = walk_small n me costs dist edge next done v w (omega arith) t.below t.open'.1

    open_v : opens edge v ≡ At best
    open_v = open_at best t.open'.0 (λ h. omega (arith, t.open'.1))

    tn : Turn z v best (fars dist) (opens edge) (nums next) (fars (set dist v best)) (opens edge') (nums next')
    tn = through_turn n costs v dist edge next edge' next' ln (omega (arith, lb)) (walk_fits n me costs dist edge next done w (omega arith)) w.mark t

    same_v : get_or (set edge v 0) v 0 ≡ 0
    same_v = get_or-set_same edge v 0 0 (omega (arith, t.below, t.long_edge))

    shut : (k : ℕ) → k < n → (b : Bool) → eqb k v ≡ b → (get_or (set edge v 0) k 0 ≡ 4294967295) ⊎ (get_or (set edge v 0) k 0 ≤ done * 65535)
    shut k lk true i = let e : get_or (set edge v 0) k 0 ≡ 0 = ap (λ (j : ℕ). get_or (set edge v 0) j 0) (eqb-true k v i) ∙ same_v in inr (omega arith)
    shut k lk false i =
        let e : get_or (set edge v 0) k 0 ≡ get_or edge k 0 = get_or-set_other edge v k 0 0 (eqb-false k v i) in
        elim (w.bound k lk) [ inl j ↦ inl (e ∙ j) | inr j ↦ inr (omega (arith, e, j)) ]

    marked : (k : ℕ) → k < n → (b : Bool) → eqb k v ≡ b → Marked (set dist v best) edge' k
    marked k lk true i =
        let q : k ≡ v = eqb-true k v i in
        let e : get_or (set edge v 0) k 0 ≡ 0 = ap (λ (j : ℕ). get_or (set edge v 0) j 0) q ∙ same_v in
        let d : get_or (set dist v best) k 0 ≡ best = ap (λ (j : ℕ). get_or (set dist v best) j 0) q ∙ get_or-set_same dist v best 0 (omega (arith, t.below, t.long_dist)) in
        inl ((zeroed costs v best (get_or next v 0) (set edge v 0) next edge' next' k (t.after k lk) e).edges ∙ e, λ h. omega (arith, t.open'.1))
    marked k lk false i =
        let e : get_or (set edge v 0) k 0 ≡ get_or edge k 0 = get_or-set_other edge v k 0 0 (eqb-false k v i) in
        let d : get_or (set dist v best) k 0 ≡ get_or dist k 0 = get_or-set_other dist v k best 0 (eqb-false k v i) in
        elim (w.mark k lk) [
          | inl m ↦ inl ((zeroed costs v best (get_or next v 0) (set edge v 0) next edge' next' k (t.after k lk) (e ∙ m.0)).edges ∙ e ∙ m.0, λ h. m.1 (sym d ∙ h))
          | inr m ↦ inr (positive costs v best (get_or next v 0) (set edge v 0) next edge' next' k (t.after k lk) t.open'.0 (omega (arith, e, m.0)), d ∙ m.1)
        ]

-- when none is near
pub walk_end : (n me : ℕ) (costs : List (List ℕ)) (dist edge next : List ℕ) (done : ℕ) → n ≤ 64 → me < n → Walking n me costs dist edge next done → AllShut (map_on n costs) (opens edge) → Found (map_on n costs) me dist next
walk_end n me costs dist edge next done ln lm w shut =
    record {
      dists = λ d ld. end_far (map_on n costs) me (fars dist) (opens edge) (nums next) w.going lm shut d ld;
      nexts = λ d ld. end_hop (map_on n costs) me (fars dist) (opens edge) (nums next) w.going lm ln shut d ld;
      no_dists = λ d l m. w.no_dists d l m;
      no_nexts = λ d l m. w.no_nexts d l m;
    }

pub none_shut : (n : ℕ) (costs : List (List ℕ)) (edge : List ℕ) → ((k : ℕ) → k < n → get_or edge k 0 ≤ 4294967295) → ((k : ℕ) → k < n → 0 < get_or edge k 0 → 4294967295 ≤ get_or edge k 0) → AllShut (map_on n costs) (opens edge)
none_shut n costs edge fit h k lk = go (eqb (get_or edge k 0) 0) refl
  where
    go : (b : Bool) → eqb (get_or edge k 0) 0 ≡ b → opens edge k ≡ Never
    go true i = open_zero (get_or edge k 0) (eqb-true (get_or edge k 0) 0 i)
    go false i =
        let ne : get_or edge k 0 ≡ 0 → ⊥ = eqb-false (get_or edge k 0) 0 i in
        let p : 0 < get_or edge k 0 = omega arith in
        open_far (get_or edge k 0) p ∙ far_never (get_or edge k 0) (omega (arith, fit k lk, h k lk p))

-- and after all turns
pub all_shut_lem : (n me : ℕ) (costs : List (List ℕ)) (dist edge next : List ℕ) (done : ℕ) → Walking n me costs dist edge next done → n ≤ done → AllShut (map_on n costs) (opens edge)
all_shut_lem n me costs dist edge next done w l = all_gone (map_on n costs) me (fars dist) (opens edge) (nums next) w.going (omega (arith, w.gone))

-- the lists after the first turn
pub record Opened (n me : ℕ) (costs : List (List ℕ)) (dist₀ next₀ edge₀ edge next : List ℕ) : Type 0 where
  pub dists : (k : ℕ) → k < 64 → get_or dist₀ k 0 ≡ 4294967295
  pub nexts : (k : ℕ) → k < 64 → get_or next₀ k 0 ≡ 255
  pub edges : (k : ℕ) → k < 64 → (k ≡ me → ⊥) → get_or edge₀ k 0 ≡ 4294967295
  pub own : get_or edge₀ me 0 ≡ 0
  pub long : length dist₀ ≡ 64
  pub long_edge : length edge ≡ 64
  pub begun : (k : ℕ) → k < n → Begun costs me edge₀ next₀ edge next k
  pub rest : (k : ℕ) → n ≤ k → Same edge₀ next₀ edge next k

-- a box that no road from me leads to
unbegun : (costs : List (List ℕ)) (me : ℕ) (g x g₁ x₁ : List ℕ) (k : ℕ) → Begun costs me g x g₁ x₁ k → begins costs me k ≡ false → Same g x g₁ x₁ k
unbegun costs me g x g₁ x₁ k a h =
    record { edges = a.edges ∙ ap (λ (b : Bool). cond b (road_by costs me k) (get_or g k 0)) h; nexts = a.nexts ∙ ap (λ (b : Bool). cond b k (get_or x k 0)) h }

begins_yes : (costs : List (List ℕ)) (me k : ℕ) → 0 < road_by costs me k → (k ≡ me → ⊥) → begins costs me k ≡ true
begins_yes costs me k p ne = ap (λ (b : Bool). b && not (eqb k me)) (lt-ltb 0 (road_by costs me k) p) ∙ ap not (ne_eqb k me ne)

begins_no : (costs : List (List ℕ)) (me k : ℕ) → road_by costs me k ≡ 0 → begins costs me k ≡ false
begins_no costs me k p = ap (λ (b : Bool). b && not (eqb k me)) (le-ltb 0 (road_by costs me k) (omega arith))

begins_me : (costs : List (List ℕ)) (me : ℕ) → begins costs me me ≡ false
begins_me costs me = go (ltb 0 (road_by costs me me))
  where
    go : (b : Bool) → (b && not (eqb me me)) ≡ false
    go true = ap not (eq-eqb me me refl)
    go false = refl

begins_road : (costs : List (List ℕ)) (me k : ℕ) → begins costs me k ≡ true → 0 < road_by costs me k
begins_road costs me k h = go (ltb 0 (road_by costs me k)) refl h
  where
    go : (b : Bool) → ltb 0 (road_by costs me k) ≡ b → (b && not (eqb k me)) ≡ true → 0 < road_by costs me k
    go true i e = ltb-true 0 (road_by costs me k) i
    go false i e = absurd (clash e)

opened_start : (n me : ℕ) (costs : List (List ℕ)) (dist₀ next₀ edge₀ edge next : List ℕ) → n ≤ 64 → me < n → Opened n me costs dist₀ next₀ edge₀ edge next →
    Start (map_on n costs) me (fars (set dist₀ me 0)) (opens edge) (nums next)
opened_start n me costs dist₀ next₀ edge₀ edge next ln lm t =
    record {
      home = ap far_of (get_or-set_same dist₀ me 0 0 (omega (arith, t.long)));
      shut = open_zero (get_or edge me 0) (at_me.edges ∙ t.own);
      own = at_me.nexts ∙ t.nexts me (omega arith);
      others = λ k lk ne. far_never (get_or (set dist₀ me 0) k 0) (get_or-set_other dist₀ me k 0 0 ne ∙ t.dists k (omega arith));
      roads = λ k lk ne p.
          let b = t.begun k lk in
          let y : begins costs me k ≡ true = begins_yes costs me k p ne in
          let e : get_or edge k 0 ≡ road_by costs me k = b.edges ∙ ap (λ (b : Bool). cond b (road_by costs me k) (get_or edge₀ k 0)) y in
          (ap open_of e ∙ open_at (road_by costs me k) p (λ h. omega (arith, b.small)), b.nexts ∙ ap (λ (b : Bool). cond b k (get_or next₀ k 0)) y);
      none = λ k lk ne p.
          let s = unbegun costs me edge₀ next₀ edge next k (t.begun k lk) (begins_no costs me k p) in
          (open_never (get_or edge k 0) (s.edges ∙ t.edges k (omega arith) ne), s.nexts ∙ t.nexts k (omega arith));
    }
  where
    at_me : Same edge₀ next₀ edge next me
    at_me = unbegun costs me edge₀ next₀ edge next me (t.begun me lm) (begins_me costs me)

-- the first turn is one
pub walk_begin : (n me : ℕ) (costs : List (List ℕ)) (dist₀ next₀ edge₀ edge next : List ℕ) → n ≤ 64 → me < n → Opened n me costs dist₀ next₀ edge₀ edge next → Walking n me costs (set dist₀ me 0) edge next 1
walk_begin n me costs dist₀ next₀ edge₀ edge next ln lm t =
    record {
      going = begin (map_on n costs) me (fars (set dist₀ me 0)) (opens edge) (nums next) lm st;
      gone = gone_one (map_on n costs) me (fars (set dist₀ me 0)) (opens edge) (nums next) st lm;
      bound = λ k lk. bound k lk (begins costs me k) refl;
      mark = λ k lk. mark k lk (eqb k me) refl;
      no_dists = λ k l m. get_or-set_other dist₀ me k 0 0 (λ q. omega arith) ∙ t.dists k m;
      no_nexts = λ k l m. (t.rest k l).nexts ∙ t.nexts k m;
      long_dist = length-set dist₀ me 0 ∙ t.long;
      long_edge = t.long_edge;
    }
  where
    st : Start (map_on n costs) me (fars (set dist₀ me 0)) (opens edge) (nums next)
    st = opened_start n me costs dist₀ next₀ edge₀ edge next ln lm t

    here : (k : ℕ) → k < n → begins costs me k ≡ true → get_or edge k 0 ≡ road_by costs me k
    here k lk i = (t.begun k lk).edges ∙ ap (λ (b : Bool). cond b (road_by costs me k) (get_or edge₀ k 0)) i

    there : (k : ℕ) → k < n → begins costs me k ≡ false → get_or edge k 0 ≡ get_or edge₀ k 0
    there k lk i = (unbegun costs me edge₀ next₀ edge next k (t.begun k lk) i).edges

    bound : (k : ℕ) → k < n → (b : Bool) → begins costs me k ≡ b → (get_or edge k 0 ≡ 4294967295) ⊎ (get_or edge k 0 ≤ 1 * 65535)
    bound k lk true i = inr (omega (arith, here k lk i, (t.begun k lk).small))
    bound k lk false i = go (eqb k me) refl
      where
        go : (b : Bool) → eqb k me ≡ b → (get_or edge k 0 ≡ 4294967295) ⊎ (get_or edge k 0 ≤ 1 * 65535)
        go true j = let e : get_or edge k 0 ≡ 0 = there k lk i ∙ ap (λ (a : ℕ). get_or edge₀ a 0) (eqb-true k me j) ∙ t.own in inr (omega arith)
        go false j = inl (there k lk i ∙ t.edges k (omega arith) (eqb-false k me j))

    mark : (k : ℕ) → k < n → (b : Bool) → eqb k me ≡ b → Marked (set dist₀ me 0) edge k
    mark k lk true j =
        let q : k ≡ me = eqb-true k me j in
        let d : get_or (set dist₀ me 0) k 0 ≡ 0 = ap (λ (a : ℕ). get_or (set dist₀ me 0) a 0) q ∙ get_or-set_same dist₀ me 0 0 (omega (arith, t.long)) in
        let e : begins costs me k ≡ false = ap (λ (a : ℕ). begins costs me a) q ∙ begins_me costs me in
        inl (there k lk e ∙ ap (λ (a : ℕ). get_or edge₀ a 0) q ∙ t.own, λ h. omega arith)
    mark k lk false j = inr (go (begins costs me k) refl, get_or-set_other dist₀ me k 0 0 ne ∙ t.dists k (omega arith))
      where
        ne : k ≡ me → ⊥
        ne = eqb-false k me j

        go : (b : Bool) → begins costs me k ≡ b → 0 < get_or edge k 0
        go true i = omega (arith, here k lk i, begins_road costs me k i)
        go false i = omega (arith, there k lk i, t.edges k (omega arith) ne)

-- a turn more, with each list by the call that leaves it
pub walk_on : (n me : ℕ) (costs : List (List ℕ)) (v best first : ℕ) (dist edge next dist' edge₁ edge' next' : List ℕ) (done : ℕ) → n ≤ 64 → me < n → done < n → Walking n me costs dist edge next done →
    v < n → (0 < get_or edge v 0) × (get_or edge v 0 < 4294967295) → ((k : ℕ) → k < n → 0 < get_or edge k 0 → get_or edge v 0 ≤ get_or edge k 0) →
    best ≡ get_or edge v 0 → first ≡ get_or next v 0 → edge₁ ≡ set edge v 0 → dist' ≡ set dist v best → length edge' ≡ 64 →
    ((k : ℕ) → k < n → After costs v best first edge₁ next edge' next' k) → ((k : ℕ) → n ≤ k → Same edge₁ next edge' next' k) → Walking n me costs dist' edge' next' (done + 1)
walk_on n me costs v best first dist edge next dist' edge₁ edge' next' done ln lm ld w lv o least b f e d long after rest =
    let D : List ℕ → Type 0 = λ ds. Walking n me costs ds edge' next' (done + 1) in
    let A : ℕ → ℕ → List ℕ → Type 0 = λ y g es. (k : ℕ) → k < n → After costs v y g es next edge' next' k in
    let S : List ℕ → Type 0 = λ es. (k : ℕ) → n ≤ k → Same es next edge' next' k in
    subst D (sym (d ∙ ap (λ (y : ℕ). set dist v y) b))
    (walk_more n me costs v dist edge next edge' next' done ln lm ld w
    (record {
      below = lv;
      open' = o;
      least = least;
      after = subst (λ (y : ℕ). A y (get_or next v 0) (set edge v 0)) b (subst (λ (g : ℕ). A best g (set edge v 0)) f (subst (λ (es : List ℕ). A best first es) e after));
      rest = subst S e rest;
      long_dist = w.long_dist;
      long_edge = w.long_edge;
      long_edge' = long;
    }))
