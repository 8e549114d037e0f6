-- The lowest wire is the model's, and its cost that of the road.
use Rattle.std.proofs.Common.{rules}
use Rattle.hello.specs.State.{links_of}
use Rattle.station.proofs.LowestWire.{open_is}
use Rattle.station.proofs.state.Station.open_wire.Goals as goal

pub returns : goal.returns
returns c = open_is c.args.to (links_of c.args.self.now.links) c.wire_to.result c.filter.result _ c.wire_to.ensures.lowest c.wire_to.ensures.costs (λ x b k. search rules) c.filter.ensures
