use Rattle.std.specs.List.{flat_map}
use Rattle.octets.proofs.Puts.{Written}
use Rattle.wordframes.specs.Writing.{roads_to, bytes_of_road}
use Rattle.wordframes.proofs.roads_bytes.put_roads.Given as goal

-- the roads to the boxes so far are written
abbrev pub invariant-loop-to : goal.invariant-loop-to
invariant-loop-to l = Written l.at (flat_map bytes_of_road (roads_to l.cost-items l.to)) l.initial.out l.out l.next
