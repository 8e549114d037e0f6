use Rattle.linkmodel.proofs.Relinks.{relink_so_lem}
use Rattle.linkmodel.proofs.RelinkSteps.{relink_one_by_one_lem}
use Rattle.promises.proofs.wires.relinking.Goals as goal

pub returns : goal.returns
returns c = record { stands = relink_so_lem; steps = relink_one_by_one_lem }
