use Rattle.model.proofs.RoadsInstance.{roads_are_an_instance_lem}
use Rattle.promises.proofs.roads_are_an_instance.Goals as goal

pub returns : goal.returns
returns c = roads_are_an_instance_lem
