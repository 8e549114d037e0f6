use Rattle.std.proofs.Common.{sym, arith}
use Rattle.hello.specs.State.{links_of}
use Rattle.node.proofs.Steps.{added_as, added_more, added_none, tellings_more, tellings_none}
use Rattle.node.proofs.ticking.give_tellings.Goals as goal

pub loop-to-init : goal.loop-to-init
loop-to-init c = added_as 0 _ (added_none c.args.out.now) (omega arith) (sym (tellings_none c.args.words.now (links_of c.args.station.now.links)))

pub loop-to-preserved : goal.loop-to-preserved
loop-to-preserved c = added_more _ _ c.loop-to.invariant c.give_telling.ensures (omega arith) (tellings_more c.args.words.now (links_of c.args.station.now.links) c.loop-to.to)
