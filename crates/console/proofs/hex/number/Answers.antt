use Rattle.std.proofs.Common.{◌+◌, ◌*◌, ◌^◌, ◌<◌, sym, ◌∙◌, arith}
use Rattle.console.proofs.Digits.{number_ends, number_more, pow_more, pow_fits}
use Rattle.console.proofs.hex.number.Goals as goal

pub overflow_mul-n : goal.overflow_mul-n
overflow_mul-n c =
    let h : c.loop-digit.n * 16 + 0 < 16 ^ (c.loop-digit.digit-index + 1) = pow_more _ _ 0 c.loop-digit.invariant.0 (omega arith) in
    omega (arith, pow_fits (c.loop-digit.digit-index + 1) (omega arith))

pub overflow_add-n : goal.overflow_add-n
overflow_add-n c =
    let h : c.loop-digit.n * 16 + c.from.result < 16 ^ (c.loop-digit.digit-index + 1) = pow_more _ _ _ c.loop-digit.invariant.0 (omega arith) in
    omega (arith, pow_fits (c.loop-digit.digit-index + 1) (omega arith))

pub loop-digit-preserved : goal.loop-digit-preserved
loop-digit-preserved c = (
  pow_more _ _ _ c.loop-digit.invariant.0 (omega arith),
  rw (c.from.ensures, c.value.ensures.is) (sym (number_more _ _ _ c.loop-digit-test.true)) ∙ c.loop-digit.invariant.1,
)

pub returns : goal.returns
returns c = sym (number_ends _ _ _ c.loop-digit-test.false) ∙ c.loop-digit.invariant.1
