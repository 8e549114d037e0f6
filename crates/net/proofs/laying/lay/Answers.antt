use Rattle.std.proofs.Common.{rules, arith}
use Rattle.net.specs.Plays.{LaysBetween}
use Rattle.net.proofs.Lays.{lays_so}
use Rattle.net.proofs.laying.lay.Goals as goal

pub returns-clause-so : goal.returns-clause-so
returns-clause-so c =
    let k : LaysBetween c.args.a c.args.e c.args.boxes.now c.args.ground.now c.join.new.self (c.in_ok-here.here, c.in_ok-there.there) = search rules in
    lays_so c.args.a c.args.e c.args.boxes.now c.args.ground.now c.join.new.self (c.in_ok-here.here, c.in_ok-there.there) k (omega arith) (omega arith)
