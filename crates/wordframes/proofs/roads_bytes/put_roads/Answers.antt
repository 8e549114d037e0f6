use Rattle.std.proofs.Common.{◌≡◌, ℕ, ◌+◌, ◌*◌, ◌<◌, ◌≤◌, List, [], ◌∷◌, ◌++◌, length, get_or, sym, ap, ◌∙◌, subst, append_assoc, arith, length-append}
use Rattle.std.specs.List.{flat_map}
use Rattle.std.proofs.lemmas.List.{flat_map_more}
use Rattle.octets.specs.Writes.{octets}
use Rattle.octets.proofs.Puts.{Written, written_none, then_byte, then_number, written_as}
use Rattle.wordframes.specs.Writing.{roads_to, bytes_of_road}
use Rattle.wordframes.proofs.Lengths.{length_joined}
use Rattle.wordframes.proofs.Roads.{length_road, roads_skip, roads_take, roads_mono}
use Rattle.wordframes.proofs.roads_bytes.put_roads.Goals as goal
use Rattle.wordframes.proofs.roads_bytes.put_roads.Goals.{then-cost-ne0, else-cost-ne0}

pub loop-to-init : goal.loop-to-init
unfolding roads_to
loop-to-init c = written_none c.args.at c.args.out.now

-- a road more still fits
room : (costs : List ℕ) (i at next n : ℕ) → (get_or costs i 0 ≡ 0 → ⊥) → i < 64 → next ≡ at + length (flat_map bytes_of_road (roads_to costs i)) → at + 3 * length (roads_to costs 64) ≤ n → next + 3 ≤ n
room costs i at next n h l e fits =
    let more : length (roads_to costs (i + 1)) ≡ length (roads_to costs i) + 1 = ap length (roads_take costs i h) ∙ length-append (roads_to costs i) _ in
    let all = roads_mono costs (i + 1) 64 (omega arith) in
    let long = length_joined bytes_of_road 3 length_road (roads_to costs i) in
    omega (arith, long, all, more)

pub put_byte-next-requires : goal.put_byte-next-requires
put_byte-next-requires c =
    let z = c.if-cost-ne0.true in
    omega (arith, room c.args.costs c.loop-to.to c.args.at c.loop-to.next (length c.args.out.now) z c.loop-to-test.true c.loop-to.invariant.place c.requires)

pub put_number-next-requires : goal.put_number-next-requires
put_number-next-requires c =
    let z = c.if-cost-ne0.true in
    omega (arith, c.put_byte-next.ensures.next, room c.args.costs c.loop-to.to c.args.at c.loop-to.next (length c.args.out.now) z c.loop-to-test.true c.loop-to.invariant.place c.requires)

-- the bytes of the roads with one more
more_bytes : (costs : List ℕ) (i : ℕ) → (get_or costs i 0 ≡ 0 → ⊥) → (flat_map bytes_of_road (roads_to costs i) ++ (i ∷ [])) ++ octets 2 (get_or costs i 0) ≡ flat_map bytes_of_road (roads_to costs (i + 1))
more_bytes costs i h =
    append_assoc (flat_map bytes_of_road (roads_to costs i)) (i ∷ []) (octets 2 (get_or costs i 0))
    ∙ (flat_map_more bytes_of_road [] (roads_to costs i) (i, get_or costs i 0)
    ∙ ap (λ roads. flat_map bytes_of_road roads) (sym (roads_take costs i h)))

pub loop-to-preserved : goal.loop-to-preserved
loop-to-preserved c =
    elim c.if-cost-ne0.branch [
      | then-cost-ne0 w ↦
          let z = w.if-cost-ne0.true in
          let r = room c.args.costs c.loop-to.to c.args.at c.loop-to.next (length c.args.out.now) z c.loop-to-test.true c.loop-to.invariant.place c.requires in
          let w1 = then_byte c.loop-to.to c.loop-to.invariant (omega arith) w.put_byte-next.ensures.wrote w.put_byte-next.ensures.next in
          let w2 = then_number 2 w.from.result w1 (omega (arith, w.put_byte-next.ensures.next)) w.put_number-next.ensures.wrote w.put_number-next.ensures.next in
          let v : w.from.result ≡ get_or c.args.costs c.loop-to.to 0 = w.from.ensures in
          rw (w.out-is, w.next-is)
          (written_as (ap (λ x. (flat_map bytes_of_road (roads_to c.args.costs c.loop-to.to) ++ (c.loop-to.to ∷ [])) ++ octets 2 x) v ∙ more_bytes c.args.costs c.loop-to.to z) w2)
      | else-cost-ne0 w ↦
          let z = w.if-cost-ne0.false in
          rw (w.out-is, w.next-is, roads_skip c.args.costs c.loop-to.to z) c.loop-to.invariant
    ]

pub returns : goal.returns
returns c =
    let e : c.loop-to.to ≡ 64 = omega arith in
    let w = subst (λ i. Written c.args.at (flat_map bytes_of_road (roads_to c.args.costs i)) c.args.out.now c.loop-to.out c.loop-to.next) e c.loop-to.invariant in
    record { next = omega (arith, w.place, length_joined bytes_of_road 3 length_road (roads_to c.args.costs 64)); wrote = w.is }
