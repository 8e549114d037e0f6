-- The lowest wire is the model's.
use Rattle.std.proofs.Common.{◌∙◌}
use Rattle.hello.specs.State.{links_of}
use Rattle.station.proofs.LowestWire.{lowest_is}
use Rattle.station.proofs.tellings.is_lowest.Goals as goal

pub returns : goal.returns
returns c = c.eq.ensures ∙ lowest_is c.args.to c.args.wire (links_of c.args.links) c.wire_to.result c.requires c.wire_to.ensures.lowest
