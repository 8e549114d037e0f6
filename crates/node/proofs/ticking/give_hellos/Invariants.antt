use Rattle.std.specs.List.{flat_map}
use Rattle.station.specs.Ticking.{greetings_in}
use Rattle.node.specs.Giving.{Added}
use Rattle.node.specs.Wires.{out_bytes}
use Rattle.node.proofs.ticking.give_hellos.Given as goal

abbrev pub invariant-loop-w : goal.invariant-loop-w
invariant-loop-w l = Added l.w (flat_map out_bytes (greetings_in l.hellos l.w)) l.initial.out l.out
