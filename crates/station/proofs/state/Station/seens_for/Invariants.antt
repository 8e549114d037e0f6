-- Those before this one are answered.
use Rattle.std.proofs.Common.{◌≡◌, ◌≤◌, length}
use Rattle.station.specs.State.{station_of}
use Rattle.station.specs.Packets.{no_id, sight_of}
use Rattle.station.proofs.AnsweringWords.{PutTo, seens_left}
use Rattle.station.proofs.state.Station.seens_for.Given as goal

abbrev pub invariant-loop-word : goal.invariant-loop-word
invariant-loop-word l =
    PutTo sight_of no_id (seens_left 0 l.told (station_of l.self).box) (seens_left l.word-index l.told (station_of l.self).box) l.word-index l.seens.count l.seens.items × (length l.told ≤ 4) × (l.seens.drawn ≡ (station_of l.self).links.drawn)
