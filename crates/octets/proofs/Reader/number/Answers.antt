use Rattle.std.proofs.Common.{◌+◌, ◌*◌, ◌^◌, ◌<◌, arith}
use Rattle.std.proofs.lemmas.Result.{err_from_is_err_and}
use Rattle.octets.proofs.Fronts.{number_none, number_more, number_stops, pow_more, pow_fits}
use Rattle.octets.proofs.Reader.number.Goals as goal

pub loop-init : goal.loop-init
loop-init c = (number_none c.args.self.now.left.now, omega arith)

pub returns-in_err-low-clause-reads : goal.returns-in_err-low-clause-reads
returns-in_err-low-clause-reads c =
    let p = err_from_is_err_and c.from_residual.result c.from_residual.ensures.1 in
    rw (p.1, p.2) (number_stops c.args.self.now.left.now _ c.args.width c.loop.counter _ _ c.loop.invariant.0 c.in_err-low.ensures.reads (omega arith))

pub overflow_mul-x : goal.overflow_mul-x
overflow_mul-x c =
    let h : c.loop.x * 256 + 0 < 256 ^ (c.loop.counter + 1) = pow_more _ _ 0 c.loop.invariant.1 (omega arith) in
    omega (arith, pow_fits (c.loop.counter + 1) (omega arith))

pub overflow_add-x : goal.overflow_add-x
overflow_add-x c =
    let h : c.loop.x * 256 + c.from.result < 256 ^ (c.loop.counter + 1) = pow_more _ _ _ c.loop.invariant.1 (omega arith) in
    omega (arith, pow_fits (c.loop.counter + 1) (omega arith))

pub loop-preserved : goal.loop-preserved
loop-preserved c = (
  rw c.from.ensures (number_more c.args.self.now.left.now c.loop.counter _ _ _ _ c.loop.invariant.0 c.in_ok-low.ensures.reads),
  pow_more _ _ _ c.loop.invariant.1 (omega arith),
)
