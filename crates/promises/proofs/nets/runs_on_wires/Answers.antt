use Rattle.netmodel.proofs.Laws.{frames_fit, wires_join}
use Rattle.netmodel.proofs.Simulated.{simulates, simulates_on}
use Rattle.promises.proofs.nets.runs_on_wires.Goals as goal

pub returns : goal.returns
returns c = record { runs = simulates; on = simulates_on; wires = wires_join; fits = frames_fit }
