use Rattle.std.proofs.Common.{◌≡◌, length, replicate, Ok}
use Rattle.octets.specs.Reads.{times}
use Rattle.wordframes.specs.Reading.{road_onto}
use Rattle.wordframes.proofs.roads_bytes.roads.Given as goal

-- so many roads are read
abbrev pub invariant-loop : goal.invariant-loop
invariant-loop l = (times l.counter (road_onto l.n l.about) (0, replicate 64 0) l.initial.reader.left.now ≡ Ok ((l.from, l.costs), l.reader.left.now)) × (length l.costs ≡ 64)
