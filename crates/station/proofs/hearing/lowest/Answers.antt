-- The lowest wire is the model's.
use Rattle.std.proofs.Common.{sym, ap, ◌∙◌}
use Rattle.hello.specs.State.{links_of}
use Rattle.station.proofs.LowestWire.{lowest_wire_lem, wire_in}
use Rattle.station.proofs.hearing.lowest.Goals as goal

pub returns : goal.returns
returns c = sym (lowest_wire_lem c.args.to (links_of c.args.links) c.wire_to.result c.wire_to.ensures.lowest ∙ ap wire_in c.unwrap.ensures)
