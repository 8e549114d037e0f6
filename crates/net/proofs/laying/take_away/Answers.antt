use Rattle.net.proofs.Lays.{takes_so}
use Rattle.net.proofs.laying.take_away.Goals as goal

pub returns-clause-so : goal.returns-clause-so
returns-clause-so c = takes_so c.args.end.at c.args.end.wire c.args.ground.now c.part.new.self c.part.ensures
