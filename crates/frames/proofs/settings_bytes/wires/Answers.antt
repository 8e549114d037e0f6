use Rattle.std.proofs.Common.{◌≡◌, take, Ok, refl, ap, ◌∙◌, subst, arith, length-set}
use Rattle.std.proofs.lemmas.Result.{err_from_is_err_and}
use Rattle.std.proofs.lemmas.List.{take_more_set, take_all}
use Rattle.octets.specs.Reads.{number, many}
use Rattle.octets.proofs.Many.{many_none, many_more, many_stops}
use Rattle.frames.proofs.settings_bytes.wires.Goals as goal

pub loop-cost-init : goal.loop-cost-init
loop-cost-init c = (many_none (number 2) c.args.reader.now.left.now, refl)

pub returns-in_err-number : goal.returns-in_err-number
returns-in_err-number c =
    let p = err_from_is_err_and c.from_residual.result c.from_residual.ensures.1 in
    rw (p.1, p.2)
    (many_stops (number 2) c.args.reader.now.left.now _ 8 c.loop-cost.cost-index _ _ c.loop-cost.invariant.0 c.in_err-number.ensures.reads (omega arith))

pub loop-cost-preserved : goal.loop-cost-preserved
loop-cost-preserved c =
    let l = c.loop-cost.invariant.1 in (
      rw (take_more_set c.loop-cost.cost-items c.loop-cost.cost-index c.in_ok-number.number (omega arith))
          (many_more (number 2) c.args.reader.now.left.now c.loop-cost.cost-index _ _ _ _ c.loop-cost.invariant.0 c.in_ok-number.ensures.reads),
      length-set _ _ _ ∙ l,
    )

pub returns : goal.returns
returns c =
    let e : c.loop-cost.cost-index ≡ 8 = omega arith in
    let t : take 8 c.loop-cost.cost-items ≡ c.loop-cost.cost-items = take_all 8 c.loop-cost.cost-items (omega (arith, c.loop-cost.invariant.1)) in
    subst (λ i. many i (number 2) c.args.reader.now.left.now ≡ Ok (take i c.loop-cost.cost-items, c.loop-cost.reader.left.now)) e c.loop-cost.invariant.0
    ∙ ap (λ z. Ok (z, c.loop-cost.reader.left.now)) t
