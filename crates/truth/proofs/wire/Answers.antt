use Rattle.std.proofs.Common.{◌≡◌, length, rules}
use Rattle.station.proofs.Had.{joined_had}
use Rattle.node.specs.State.{whole_of}
use Rattle.outbox.specs.Parcels.{contents}
use Rattle.truth.proofs.wire.Goals as goal
use Rattle.truth.proofs.Heard.{wire_kept}
use Rattle.truth.proofs.Turned.{contents_short}

pub returns-clause-keeps : goal.returns-clause-keeps
returns-clause-keeps c =
    let a = c.args in
    let s = whole_of a.node.now in
    let n = a.node.now.station in
    let h = c.wire.ensures in
    let four : length a.tags ≡ 4 = search rules in
    wire_kept s c.lines.ensures.tick (joined_had s n.joined) n.router.few c.lines.ensures.roads n.router.inside a.tags four c.tags.ensures
    a.wire a.frame.now a.node.now.quota c.wire.new.self (contents c.wire.new.out) c.wire.new.frame c.wire.result c.bytes.ensures h.dropped h.unfit h.read (contents_short c.wire.new.out)
