use Rattle.station.proofs.Had.{joined_had}
use Rattle.node.specs.State.{whole_of}
use Rattle.outbox.specs.Parcels.{contents}
use Rattle.truth.proofs.tick.Goals as goal
use Rattle.truth.proofs.Turned.{contents_short, tick_kept}

pub returns-clause-keeps : goal.returns-clause-keeps
returns-clause-keeps c =
    let r = whole_of c.tick.new.self in
    let n = c.tick.new.self.station in
    tick_kept (whole_of c.args.node.now) r c.args.tag (contents c.tick.new.out) c.tick.ensures.turned.is c.tick.ensures.turned.gives (joined_had r n.joined) n.router.few c.lines-2.ensures.roads n.router.inside
    c.lines.ensures.tick c.lines-2.ensures.tick c.ranges.tag.fits (contents_short c.tick.new.out)
