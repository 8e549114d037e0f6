use Rattle.std.proofs.Common.{refl}
use Rattle.std.specs.Fn.{FnOnceReturnsAtMut}
use Rattle.node.specs.Passing.{packet_in}
use Rattle.node.proofs.Framing.{turned_frame}
use Rattle.node.proofs.passing.turn.Goals as goal

pub returns : goal.returns
returns g c =
    let x = c.turned.new.arg2 in
    let gave : FnOnceReturnsAtMut g.F.FnOnce c.args.turned (packet_in c.args.frame.now) tt x = record { shown = _; shows = refl; left = _; met = c.turned.ensures; leaves = refl } in
    (x, gave, turned_frame c.args.frame.now x c.write_sum.new.frame c.write_sum.result c.requires.long c.turned.auto.arg2 c.write_sum.ensures)
