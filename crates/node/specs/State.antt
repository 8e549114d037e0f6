-- The whole box of the model that a state stands for. Assumes nothing.
use Rattle.linkmodel.specs.Station.{Station as Whole}
use Rattle.station.specs.State.{station_of}
use Rattle.node.specs.declared.state.Node.{Node}

abbrev pub whole_of : Node → Whole
whole_of s = station_of s.station
