use Rattle.model.proofs.Deliver.{boxes_deliver_lem}
use Rattle.model.proofs.EveryBox.{every_box_stands_lem}
use Rattle.promises.proofs.nets_of_boxes.Goals as goal

pub returns : goal.returns
returns c = record { stand = every_box_stands_lem; deliver = boxes_deliver_lem }
