-- The roads among the costs to each box: one box more, and how many there are.
use Rattle.std.proofs.Common.{◌≡◌, ℕ, zero, suc, ◌+◌, ◌*◌, ◌<◌, ◌≤◌, List, [], ◌∷◌, ◌++◌, length, get_or, set, take, replicate, cond, not, eqb, Ok, Err, sym, refl, ap, ◌∙◌, subst, ⊎_elim, append-nil, add-one, arith, length-append}
use Rattle.std.specs.List.{sum_by}
use Rattle.std.proofs.lemmas.List.{take_all}
use Rattle.std.proofs.lemmas.List.Sums.{sum_by_more}
use Rattle.std.proofs.lemmas.Bool.{eq-eqb, ne_eqb, cases_eq, cases_lt}
use Rattle.octets.specs.declared.Fault.{Fault}
use Rattle.octets.specs.Reads.{times}
use Rattle.octets.proofs.Times.{times_more, times_stops}
use Rattle.octets.proofs.Puts.{length_octets}
use Rattle.messages.specs.declared.values.Word.{Word}
use Rattle.messages.specs.Packets.{Words}
use Rattle.wordframes.specs.Writing.{roads_to, bytes_of_road, bytes_of_roads, bytes_of_word, bytes_of_word_items, bytes_of_words}
use Rattle.wordframes.specs.Reading.{road_in, road_onto, roads_in}
use Rattle.wordframes.proofs.Lengths.{length_joined}

module _ (costs : List ℕ) (i : ℕ) where
  -- no road to this box
  pub roads_skip : get_or costs i 0 ≡ 0 → roads_to costs (i + 1) ≡ roads_to costs i
  unfolding roads_to
  roads_skip h = rw (add-one, eq-eqb (get_or costs i 0) 0 h) (append-nil (roads_to costs i))

  -- a road to this box
  pub roads_take : (get_or costs i 0 ≡ 0 → ⊥) → roads_to costs (i + 1) ≡ roads_to costs i ++ ((i, get_or costs i 0) ∷ [])
  unfolding roads_to
  roads_take h = rw (add-one, ne_eqb (get_or costs i 0) 0 h)

-- the one or the other
pub roads_step : (costs : List ℕ) (i : ℕ) → (length (roads_to costs i) ≤ length (roads_to costs (i + 1))) × (length (roads_to costs (i + 1)) ≤ length (roads_to costs i) + 1)
roads_step costs i =
    ⊎_elim
    (λ e. rw (roads_skip costs i e) (omega arith, omega arith))
    (λ e. rw (roads_take costs i e, length-append) (omega arith, omega arith))
    (cases_eq (get_or costs i 0) 0)

-- no more roads than boxes
pub roads_few : (costs : List ℕ) (i : ℕ) → length (roads_to costs i) ≤ i
unfolding roads_to
roads_few costs zero = omega arith
roads_few costs (suc i) = let h = roads_few costs i in let s = rw add-one at (roads_step costs i) in omega (arith, s.1)

-- no fewer to more boxes
pub roads_mono : (costs : List ℕ) (i k : ℕ) → i ≤ k → length (roads_to costs i) ≤ length (roads_to costs k)
roads_mono costs i zero h = let e : i ≡ 0 = omega arith in rw e (omega arith)
roads_mono costs i (suc k) h =
    ⊎_elim
    (λ (q : k < i). let e : i ≡ suc k = omega arith in rw e (omega arith))
    (λ (q : i ≤ k). let ih = roads_mono costs i k (omega arith) in let s = rw add-one at (roads_step costs k) in omega (arith, s.0))
    (cases_lt k i)

-- one for each cost other than 0
abbrev pub one_each : ℕ → ℕ
one_each x = cond (not (eqb x 0)) 1 0

summed_to : (costs : List ℕ) (i : ℕ) → i ≤ length costs → sum_by one_each (take i costs) ≡ length (roads_to costs i)
unfolding roads_to
summed_to costs zero h = refl
summed_to costs (suc i) h =
    let e : i + 1 ≡ suc i = omega arith in
    subst (λ k. sum_by one_each (take k costs) ≡ length (roads_to costs k)) e
    (sum_by_more one_each costs i 0 (omega arith)
    ∙ ⊎_elim
    (λ z. rw (eq-eqb (get_or costs i 0) 0 z, roads_skip costs i z, summed_to costs i (omega arith)) (omega arith))
    (λ z. rw (ne_eqb (get_or costs i 0) 0 z, roads_take costs i z, length-append, summed_to costs i (omega arith)) (omega arith))
    (cases_eq (get_or costs i 0) 0))

pub roads_summed : (costs : List ℕ) → length costs ≡ 64 → sum_by one_each costs ≡ length (roads_to costs 64)
roads_summed costs h = ap (λ xs. sum_by one_each xs) (sym (take_all 64 costs (omega arith))) ∙ summed_to costs 64 (omega arith)

pub length_road : (r : ℕ × ℕ) → length (bytes_of_road r) ≡ 3
length_road r = ap suc (length_octets 2 r.1)

pub length_roads : (costs : List ℕ) → length (bytes_of_roads costs) ≡ 3 * length (roads_to costs 64)
length_roads costs = length_joined bytes_of_road 3 length_road (roads_to costs 64)

-- reading roads: one more, a fault on the way, and the end
module _ (n about : ℕ) (bytes : List ℕ) where
  pub roads_stop : (k i from : ℕ) (costs left : List ℕ) (e : Fault) → times i (road_onto n about) (0, replicate 64 0) bytes ≡ Ok ((from, costs), left) → road_in n about from left ≡ Err e → i < k → roads_in n about k bytes ≡ Err e
  roads_stop k i from costs left e h q l =
      let s : times k (road_onto n about) (0, replicate 64 0) bytes ≡ Err e = times_stops (road_onto n about) (0, replicate 64 0) bytes e k i (from, costs) left h (rw q) l in
      rw s

  pub roads_more : (i from to cost : ℕ) (costs left after : List ℕ) → times i (road_onto n about) (0, replicate 64 0) bytes ≡ Ok ((from, costs), left) → road_in n about from left ≡ Ok ((to, cost), after) → times (i + 1) (road_onto n about) (0, replicate 64 0) bytes ≡ Ok ((to + 1, set costs to cost), after)
  roads_more i from to cost costs left after h q = times_more (road_onto n about) (0, replicate 64 0) bytes i (from, costs) (to + 1, set costs to cost) left after h (rw q)

  pub roads_done : (k from : ℕ) (costs left : List ℕ) → times k (road_onto n about) (0, replicate 64 0) bytes ≡ Ok ((from, costs), left) → roads_in n about k bytes ≡ Ok (costs, left)
  roads_done k from costs left h = rw h

pub length_word : (w : Word) → length (bytes_of_word w) ≡ 18 + 3 * length (roads_to w.costs 64)
length_word w = simp (length-append, length_octets) (omega (arith, length_roads w.costs))

pub length_words : (w : Words) → length (bytes_of_words w) ≡ 10 + length (bytes_of_word_items w.items w.count)
length_words w = simp (length-append, length_octets) (omega arith)
