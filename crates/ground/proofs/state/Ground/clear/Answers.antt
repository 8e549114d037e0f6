use Rattle.ground.proofs.Cleared.{cleared, unlosing}
use Rattle.ground.proofs.state.Ground.clear.Goals as goal

pub returns-clause-joined : goal.returns-clause-joined
returns-clause-joined c = cleared c.args.self.now c.put.new.self c.args.end.at c.args.end.wire c.put.ensures.joined c.put.ensures.beyond

pub returns-clause-losing : goal.returns-clause-losing
returns-clause-losing c = unlosing c.args.self.now c.put.new.self c.args.end.at c.args.end.wire c.put.ensures.losing c.put.ensures.beyond
