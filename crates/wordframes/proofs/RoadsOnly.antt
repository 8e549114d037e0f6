-- Only their own bytes read as roads.
use Rattle.std.proofs.Common.{◌≡◌, ℕ, zero, suc, ◌+◌, ◌^◌, ◌<◌, ◌≤◌, not, ◌&&◌, eqb, leb, ◌≢◌, List, [], ◌∷◌, ◌++◌, length, get_or, set, replicate, Ok, sym, refl, ap, ◌∙◌, subst, ap₂, ⊎_elim, append_assoc, add-one, arith, length-append, length-set}
use Rattle.std.specs.List.{flat_map}
use Rattle.std.proofs.lemmas.Bool.{leb-true, eqb-false, not-true, and_parts, cases_eq, cases_lt}
use Rattle.std.proofs.lemmas.List.{flat_map_more, get_or-set_same, get_or-set_other, get_or-replicate, get_or_past}
use Rattle.octets.specs.declared.Fault.TheVariants.{Range}
use Rattle.octets.specs.Reads.{onward, unless, give, times, below, positive}
use Rattle.octets.specs.Writes.{Bytes}
use Rattle.octets.proofs.Parts.{both, step, test}
use Rattle.octets.proofs.Numbers.{below_read, positive_read}
use Rattle.wordframes.specs.Reading.{road_in, road_onto}
use Rattle.wordframes.specs.Writing.{roads_to, bytes_of_road}
use Rattle.wordframes.proofs.Roads.{roads_skip, roads_take}

-- costs that agree below i have the same roads below it
pub roads_same : (xs ys : List ℕ) (i : ℕ) → ((j : ℕ) → j < i → get_or xs j 0 ≡ get_or ys j 0) → roads_to xs i ≡ roads_to ys i
unfolding roads_to
roads_same xs ys zero h = refl
roads_same xs ys (suc i) h = rw (h i (omega arith), roads_same xs ys i (λ j l. h j (omega arith)))

-- past the last road there are no more
pub roads_past : (xs : List ℕ) (f i : ℕ) → f ≤ i → ((j : ℕ) → f ≤ j → get_or xs j 0 ≡ 0) → roads_to xs i ≡ roads_to xs f
roads_past xs f zero l h = let e : f ≡ 0 = omega arith in ap (λ k. roads_to xs k) (sym e)
roads_past xs f (suc i) l h =
    ⊎_elim
    (λ (q : i < f). let e : suc i ≡ f = omega arith in ap (λ k. roads_to xs k) e)
    (λ (q : f ≤ i). ap (λ k. roads_to xs k) (sym (add-one i)) ∙ (roads_skip xs i (h i q) ∙ roads_past xs f i q h))
    (cases_lt i f)

-- a road that was read
record Road (n about from : ℕ) (bytes : List ℕ) (to cost : ℕ) (left : List ℕ) : Type 0 where
  is : bytes ≡ bytes_of_road (to, cost) ++ left
  low : to < n
  further : from ≤ to
  other : to ≡ about → ⊥
  some : 0 < cost
  fits : cost < 2 ^ 16
  bytes_left : Bytes left

road_only : (n about from : ℕ) (bytes : List ℕ) (road : ℕ × ℕ) (left : List ℕ) → Bytes bytes → road_in n about from bytes ≡ Ok (road, left) → Road n about from bytes road.0 road.1 left
road_only n about from bytes road left k h =
    let s = step (below n bytes) (λ to mid. onward (unless Range (leb from to && not (eqb to about)) mid) (λ _ mid. onward (positive 2 mid) (λ cost. give (to, cost)))) road left h in
    let p = below_read n bytes s.value s.left k s.was in
    let t = test Range (leb from s.value && not (eqb s.value about)) (λ mid. onward (positive 2 mid) (λ cost. give (s.value, cost))) s.left road left s.then in
    let a = and_parts (leb from s.value) (not (eqb s.value about)) t.held in
    let u = step (positive 2 s.left) (λ cost. give (s.value, cost)) road left t.then in
    let q = positive_read 2 s.left u.value u.left p.bytes_left u.was in
    let e = both (s.value, u.value) road u.left left u.then in
    let made : Road n about from bytes s.value u.value u.left =
    record {
      is = p.is ∙ ap (λ z. s.value ∷ z) q.is;
      low = p.low;
      further = leb-true from s.value a.0;
      other = eqb-false s.value about (not-true (eqb s.value about) a.1);
      some = q.more;
      fits = q.fits;
      bytes_left = q.bytes_left;
    } in
    subst (λ (r : ℕ × ℕ). Road n about from bytes r.0 r.1 left) e.0 (subst (λ l. Road n about from bytes s.value u.value l) e.1 made)

-- so many roads that were read: the next goes to `from` or further
pub record RoadsRead (n about k : ℕ) (bytes : List ℕ) (from : ℕ) (costs left : List ℕ) : Type 0 where
  pub is : bytes ≡ flat_map bytes_of_road (roads_to costs from) ++ left
  pub count : length (roads_to costs from) ≡ k
  pub long : length costs ≡ 64
  pub low : from ≤ n
  pub past : (i : ℕ) → from ≤ i → get_or costs i 0 ≡ 0
  pub below : (i : ℕ) → (get_or costs i 0 ≡ 0 → ⊥) → i < n
  pub other : (i : ℕ) → (get_or costs i 0 ≡ 0 → ⊥) → i ≡ about → ⊥
  pub fits : (i : ℕ) → get_or costs i 0 < 2 ^ 16
  pub bytes_left : Bytes left

zero_at : (i : ℕ) → get_or (replicate {A = ℕ} 64 0) i 0 ≡ 0
zero_at i = ⊎_elim (λ (l : i < 64). get_or-replicate 64 i 0 0 l) (λ (l : 64 ≤ i). get_or_past (replicate 64 0) i 0 l) (cases_lt i 64)

none_read : (n about : ℕ) (bytes : List ℕ) → Bytes bytes → RoadsRead n about 0 bytes 0 (replicate 64 0) bytes
unfolding roads_to
none_read n about bytes b =
    record {
      is = refl;
      count = refl;
      long = refl;
      low = omega arith;
      past = λ i l. zero_at i;
      below = λ i z. absurd (z (zero_at i));
      other = λ i z. absurd (z (zero_at i));
      fits = λ i. rw (zero_at i) (omega arith);
      bytes_left = b;
    }

-- one road more
one_more : (n about k : ℕ) (bytes : List ℕ) (from : ℕ) (costs mid : List ℕ) (to cost : ℕ) (left : List ℕ) → n ≤ 64 → RoadsRead n about k bytes from costs mid → Road n about from mid to cost left → RoadsRead n about (suc k) bytes (to + 1) (set costs to cost) left
one_more n about k bytes from costs mid to cost left few r o =
    record {
      is =
          r.is
          ∙ (ap (λ z. flat_map bytes_of_road (roads_to costs from) ++ z) o.is
          ∙ (sym (append_assoc (flat_map bytes_of_road (roads_to costs from)) (bytes_of_road (to, cost)) left)
          ∙ ap (λ z. z ++ left) (flat_map_more bytes_of_road [] (roads_to costs from) (to, cost) ∙ ap (λ roads. flat_map bytes_of_road roads) (sym now_roads))));
      count = ap length now_roads ∙ (length-append (roads_to costs from) ((to, cost) ∷ []) ∙ omega (arith, r.count));
      long = length-set costs to cost ∙ r.long;
      low = omega (arith, o.low);
      past = λ i l. get_or-set_other costs to i cost 0 (λ e. omega arith) ∙ r.past i (omega (arith, o.further));
      below = λ i z. at i (λ (e : i ≡ to). subst (λ j. j < n) (sym e) o.low) (λ ne. r.below i (λ q. z (get_or-set_other costs to i cost 0 ne ∙ q)));
      other = λ i z. at i (λ (e : i ≡ to). λ (a : i ≡ about). o.other (sym e ∙ a)) (λ ne. r.other i (λ q. z (get_or-set_other costs to i cost 0 ne ∙ q)));
      fits = λ i. at i (λ (e : i ≡ to). subst (λ j. get_or (set costs to cost) j 0 < 2 ^ 16) (sym e) (subst (λ x. x < 2 ^ 16) (sym here) o.fits)) (λ ne. subst (λ x. x < 2 ^ 16) (sym (get_or-set_other costs to i cost 0 ne)) (r.fits i));
      bytes_left = o.bytes_left;
    }
  where
    at : {P : Type 0} (i : ℕ) → (i ≡ to → P) → (i ≢ to → P) → P
    at i f g = ⊎_elim f g (cases_eq i to)

    here : get_or (set costs to cost) to 0 ≡ cost
    here = get_or-set_same costs to cost 0 (omega (arith, r.long, o.low))

    some : get_or (set costs to cost) to 0 ≡ 0 → ⊥
    some e = omega (arith, o.some, here)

    now_roads : roads_to (set costs to cost) (to + 1) ≡ roads_to costs from ++ ((to, cost) ∷ [])
    now_roads =
        roads_take (set costs to cost) to some
        ∙ ap₂ (λ roads x. roads ++ ((to, x) ∷ []))
        (roads_same (set costs to cost) costs to (λ j l. get_or-set_other costs to j cost 0 (λ e. omega arith)) ∙ roads_past costs from to o.further r.past)
        here

pub roads_read_lem : (n about : ℕ) → n ≤ 64 → (k : ℕ) (bytes : List ℕ) (so : ℕ × List ℕ) (left : List ℕ) → Bytes bytes → times k (road_onto n about) (0, replicate 64 0) bytes ≡ Ok (so, left) → RoadsRead n about k bytes so.0 so.1 left
unfolding times
roads_read_lem n about few zero bytes so left b h =
    let e = both (0, replicate 64 0) so bytes left h in
    subst (λ (s : ℕ × List ℕ). RoadsRead n about 0 bytes s.0 s.1 left) e.0 (subst (λ l. RoadsRead n about 0 bytes 0 (replicate 64 0) l) e.1 (none_read n about bytes b))
roads_read_lem n about few (suc k) bytes so left b h =
    let s = step (times k (road_onto n about) (0, replicate 64 0) bytes) (road_onto n about) so left h in
    let r = roads_read_lem n about few k bytes s.value s.left b s.was in
    let t = step (road_in n about s.value.0 s.left) (λ (road : ℕ × ℕ). give (road.0 + 1, set s.value.1 road.0 road.1)) so left s.then in
    let o = road_only n about s.value.0 s.left t.value t.left r.bytes_left t.was in
    let e = both (t.value.0 + 1, set s.value.1 t.value.0 t.value.1) so t.left left t.then in
    let m = one_more n about k bytes s.value.0 s.value.1 s.left t.value.0 t.value.1 t.left few r o in
    subst (λ (s : ℕ × List ℕ). RoadsRead n about (suc k) bytes s.0 s.1 left) e.0 (subst (λ l. RoadsRead n about (suc k) bytes (t.value.0 + 1) (set s.value.1 t.value.0 t.value.1) l) e.1 m)
