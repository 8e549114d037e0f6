use Rattle.linkmodel.proofs.Meant.{open_means_lem}
use Rattle.linkmodel.proofs.OpenJust.{open_just_when_lem}
use Rattle.promises.proofs.wires.hellos.Goals as goal

pub returns : goal.returns
returns c = record { just = open_just_when_lem; means = open_means_lem }
