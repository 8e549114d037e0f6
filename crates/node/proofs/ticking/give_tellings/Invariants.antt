use Rattle.std.specs.List.{flat_map}
use Rattle.hello.specs.State.{links_of}
use Rattle.station.specs.Ticking.{tellings_in}
use Rattle.node.specs.Giving.{Added}
use Rattle.node.specs.Wires.{out_bytes}
use Rattle.node.proofs.ticking.give_tellings.Given as goal

abbrev pub invariant-loop-to : goal.invariant-loop-to
invariant-loop-to l = Added l.to (flat_map out_bytes (tellings_in l.words (links_of l.station.links) l.to)) l.initial.out l.out
