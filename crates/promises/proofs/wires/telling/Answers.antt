use Rattle.linkmodel.proofs.Quieting.{nothing_to_tell_lem, only_hellos_lem, quiet_tick_lem}
use Rattle.linkmodel.proofs.Showing.{round_trip}
use Rattle.linkmodel.proofs.Starving.{nothing_starves_lem, all_told}
use Rattle.promises.proofs.wires.telling.Goals as goal

pub returns : goal.returns
returns c = record { round = round_trip; starves = nothing_starves_lem; told = all_told; nothing = nothing_to_tell_lem; only = only_hellos_lem; tick = quiet_tick_lem }
