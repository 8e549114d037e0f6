-- Roads written and read give the same costs again.
use Rattle.std.proofs.Common.{◌≡◌, ℕ, zero, suc, ◌+◌, ◌-◌, ◌^◌, ◌<◌, ◌≤◌, true, not, ◌&&◌, eqb, leb, List, [], ◌∷◌, ◌++◌, length, get_or, take, set, replicate, Ok, sym, ap, ◌∙◌, ⊎_elim, append_assoc, append-nil, add-one, arith, length-append}
use Rattle.std.specs.List.{flat_map}
use Rattle.std.proofs.lemmas.Bool.{le-leb, ne_eqb, not_from_false, and_from, cases_eq}
use Rattle.std.proofs.lemmas.List.{take_more, take_all, length-take-le, flat_map_more, set_at}
use Rattle.octets.specs.Reads.{times}
use Rattle.octets.specs.Writes.{octets}
use Rattle.octets.proofs.Numbers.{below_octet, positive_octets}
use Rattle.octets.proofs.Times.{times_none}
use Rattle.wordframes.specs.Reading.{road_in, road_onto, roads_in}
use Rattle.wordframes.specs.Writing.{roads_to, bytes_of_road, bytes_of_roads}
use Rattle.wordframes.proofs.Roads.{roads_skip, roads_take, roads_more, roads_done}

abbrev zeros : ℕ → List ℕ
zeros k = replicate k 0

-- the costs to the boxes below i, and no road further
abbrev up_to : List ℕ → ℕ → List ℕ
up_to costs i = take i costs ++ zeros (64 - i)

zeros_more : (i : ℕ) → i < 64 → zeros (64 - i) ≡ 0 ∷ zeros (64 - (i + 1))
zeros_more i h = let e : 64 - i ≡ suc (64 - (i + 1)) = omega arith in ap zeros e

up_skip : (costs : List ℕ) (i : ℕ) → length costs ≡ 64 → i < 64 → get_or costs i 0 ≡ 0 → up_to costs i ≡ up_to costs (i + 1)
up_skip costs i l h z =
    ap (λ ys. take i costs ++ ys) (zeros_more i h)
    ∙ (sym (append_assoc (take i costs) (0 ∷ []) (zeros (64 - (i + 1))))
    ∙ ap (λ ys. ys ++ zeros (64 - (i + 1))) (ap (λ x. take i costs ++ (x ∷ [])) (sym z) ∙ sym (take_more costs i 0 (omega arith))))

up_take : (costs : List ℕ) (i : ℕ) → length costs ≡ 64 → i < 64 → set (up_to costs i) i (get_or costs i 0) ≡ up_to costs (i + 1)
up_take costs i l h =
    ap (λ ys. set (take i costs ++ ys) i (get_or costs i 0)) (zeros_more i h)
    ∙ (set_at (take i costs) 0 (zeros (64 - (i + 1))) (get_or costs i 0) i (length-take-le i costs (omega arith))
    ∙ (sym (append_assoc (take i costs) (get_or costs i 0 ∷ []) (zeros (64 - (i + 1))))
    ∙ ap (λ ys. ys ++ zeros (64 - (i + 1))) (sym (take_more costs i 0 (omega arith)))))

-- one road written and read
road_again : (n about from to cost : ℕ) (rest : List ℕ) → to < n → from ≤ to → (to ≡ about → ⊥) → 0 < cost → cost < 2 ^ 16 → road_in n about from (bytes_of_road (to, cost) ++ rest) ≡ Ok ((to, cost), rest)
road_again n about from to cost rest h k o z f =
    let t : (leb from to && not (eqb to about)) ≡ true = and_from _ _ (le-leb from to k) (not_from_false _ (ne_eqb to about o)) in
    rw (below_octet n to (octets 2 cost ++ rest) h, t, positive_octets 2 cost rest z f)

-- so far: the next road goes to i or further
record SoFar (n about : ℕ) (costs : List ℕ) (i : ℕ) : Type 0 where
  from : ℕ
  low : from ≤ i
  again : (rest : List ℕ) → times (length (roads_to costs i)) (road_onto n about) (0, replicate 64 0) (flat_map bytes_of_road (roads_to costs i) ++ rest) ≡ Ok ((from, up_to costs i), rest)

module _ (n about : ℕ) (costs : List ℕ) (long : length costs ≡ 64)
    (below : (i : ℕ) → (get_or costs i 0 ≡ 0 → ⊥) → i < n)
    (other : (i : ℕ) → (get_or costs i 0 ≡ 0 → ⊥) → i ≡ about → ⊥)
    (fits : (i : ℕ) → get_or costs i 0 < 2 ^ 16) where
  skip : (i : ℕ) → i < 64 → get_or costs i 0 ≡ 0 → SoFar n about costs i → SoFar n about costs (i + 1)
  skip i h z s =
      record {
        from = s.from;
        low = omega (arith, s.low);
        again = λ rest. rw (roads_skip costs i z, ← up_skip costs i long h z) (s.again rest);
      }

  more : (i : ℕ) → i < 64 → (get_or costs i 0 ≡ 0 → ⊥) → SoFar n about costs i → SoFar n about costs (i + 1)
  more i h z s =
      record {
        from = i + 1;
        low = omega arith;
        again = λ rest. rw (roads_take costs i z, length-append, ← up_take costs i long h, ← flat_map_more bytes_of_road [] (roads_to costs i) (i, get_or costs i 0), append_assoc (flat_map bytes_of_road (roads_to costs i)) (bytes_of_road (i, get_or costs i 0)) rest)
            (roads_more n about _ (length (roads_to costs i)) s.from i (get_or costs i 0) (up_to costs i) (bytes_of_road (i, get_or costs i 0) ++ rest) rest (s.again (bytes_of_road (i, get_or costs i 0) ++ rest))
            (road_again n about s.from i (get_or costs i 0) rest (below i z) s.low (other i z) (omega (arith, z)) (fits i)));
      }

  so_far : (i : ℕ) → i ≤ 64 → SoFar n about costs i
  unfolding roads_to
  so_far zero h = record { from = 0; low = omega arith; again = λ rest. times_none (road_onto n about) (0, replicate 64 0) rest }
  so_far (suc i) h =
      let s = so_far i (omega arith) in
      rw (← add-one) (⊎_elim (λ z. skip i (omega arith) z s) (λ z. more i (omega arith) z s) (cases_eq (get_or costs i 0) 0))

  pub roads_again : (rest : List ℕ) → roads_in n about (length (roads_to costs 64)) (bytes_of_roads costs ++ rest) ≡ Ok (costs, rest)
  roads_again rest =
      let s = so_far 64 (omega arith) in
      let e : up_to costs 64 ≡ costs = append-nil (take 64 costs) ∙ take_all 64 costs (omega arith) in
      roads_done n about (bytes_of_roads costs ++ rest) (length (roads_to costs 64)) s.from costs rest (s.again rest ∙ ap (λ ys. Ok ((s.from, ys), rest)) e)
