use Rattle.std.proofs.Common.{◌≡◌, replicate, Ok, refl, ◌∙◌, subst, arith, length-set}
use Rattle.std.proofs.lemmas.Result.{err_from_is_err_and}
use Rattle.octets.proofs.Times.{times_none}
use Rattle.wordframes.specs.Reading.{road_onto, roads_in}
use Rattle.wordframes.proofs.Roads.{roads_stop, roads_more, roads_done}
use Rattle.wordframes.proofs.roads_bytes.roads.Goals as goal

pub loop-init : goal.loop-init
loop-init c = (times_none (road_onto c.args.n c.args.about) (0, replicate 64 0) c.args.reader.now.left.now, refl)

pub returns-in_err-to : goal.returns-in_err-to
returns-in_err-to c =
    let p = err_from_is_err_and c.from_residual.result c.from_residual.ensures.1 in
    rw (p.1, p.2)
    (roads_stop c.args.n c.args.about c.args.reader.now.left.now c.args.count c.loop.counter c.loop.from c.loop.costs _ _ c.loop.invariant.0 c.in_err-to.ensures.reads (omega arith))

pub loop-preserved : goal.loop-preserved
loop-preserved c =
    let f : c.from.result ≡ c.in_ok-to.to = c.from.ensures in (
      rw f
          (roads_more c.args.n c.args.about c.args.reader.now.left.now c.loop.counter c.loop.from c.in_ok-to.to c.in_ok-to.cost c.loop.costs _ _ c.loop.invariant.0 c.in_ok-to.ensures.reads),
      length-set _ _ _ ∙ c.loop.invariant.1,
    )

pub returns : goal.returns
returns c =
    let e : c.loop.counter ≡ c.args.count = omega arith in
    subst (λ k. roads_in c.args.n c.args.about k c.args.reader.now.left.now ≡ Ok (c.loop.costs, c.loop.reader.left.now)) e
    (roads_done c.args.n c.args.about c.args.reader.now.left.now c.loop.counter c.loop.from c.loop.costs _ c.loop.invariant.0)
