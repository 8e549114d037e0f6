use Rattle.station.proofs.Had.{joined_had}
use Rattle.node.specs.State.{whole_of}
use Rattle.outbox.specs.Parcels.{contents}
use Rattle.truth.proofs.fall.Goals as goal
use Rattle.truth.proofs.Turned.{fall_kept}

pub returns-clause-keeps : goal.returns-clause-keeps
returns-clause-keeps c =
    let s = whole_of c.args.node.now in
    let n = c.args.node.now.station in
    fall_kept c.args.drawn s (whole_of c.fall.new.self) (contents c.fall.new.out) c.fall.ensures.turned.is c.fall.ensures.turned.gives (joined_had s n.joined) n.links.few n.links.inside c.lines.ensures.tick
