use Rattle.outbox.specs.Parcels.{contents}
use Rattle.node.proofs.Passed.{sent_lem}
use Rattle.node.proofs.state.Node.pass.Goals as goal

pub returns-in-Ok : goal.returns-in-Ok
returns-in-Ok c = sent_lem _ c.in-Ok.port c.send.new.frame (contents c.args.out.now) c.args.self.now (c.in-Ok.ensures c.args.self.now.quota)
