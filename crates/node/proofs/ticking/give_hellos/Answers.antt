use Rattle.std.proofs.Common.{sym, arith}
use Rattle.node.proofs.Steps.{added_as, added_more, added_none, greetings_more, greetings_none}
use Rattle.node.proofs.ticking.give_hellos.Goals as goal

pub loop-w-init : goal.loop-w-init
loop-w-init c = added_as 0 _ (added_none c.args.out.now) (omega arith) (sym (greetings_none c.args.hellos.now))

pub loop-w-preserved : goal.loop-w-preserved
loop-w-preserved c = added_more _ _ c.loop-w.invariant c.give_greeting.ensures (omega arith) (greetings_more c.args.hellos.now c.loop-w.w)
