-- The loop takes one place after the other, until none is left or there are four.
use Rattle.std.proofs.Common.{◌∙◌, inl, inr, arith}
use Rattle.std.proofs.lemmas.List.{set-get_or}
use Rattle.bits.proofs.Taking.{taking_more, taking_all}
use Rattle.bits.proofs.lowest_four.Goals as goal

pub loop-item-preserved : goal.loop-item-preserved
loop-item-preserved c = (
  omega arith,
  taking_more 64 4 c.args.x c.loop-item.left c.loop-item.item-index c.loop-item.item-items (omega (arith, c.if-left-eq0.false)) c.loop-item-test.true c.loop-item.invariant.1,
)

pub returns-then-left-eq0 : goal.returns-then-left-eq0
returns-then-left-eq0 c =
    let all = taking_all 64 4 c.args.x c.loop-item.left c.loop-item.item-index c.loop-item.item-items (inl c.if-left-eq0.true) c.loop-item.invariant.1 in
    record { count = c.loop-item.invariant.0 ∙ all.0; items = set-get_or c.loop-item.item-items c.loop-item.item-index 0 ∙ all.1 }

pub returns-after-loop-item : goal.returns-after-loop-item
returns-after-loop-item c =
    let all = taking_all 64 4 c.args.x c.loop-item.left c.loop-item.item-index c.loop-item.item-items (inr c.loop-item-test.false) c.loop-item.invariant.1 in
    record { count = c.loop-item.invariant.0 ∙ all.0; items = all.1 }
