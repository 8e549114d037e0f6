use Rattle.linkmodel.proofs.Agreed.{can_agree_lem}
use Rattle.linkmodel.proofs.Both.{both_open_lem, both_open_sooner_lem}
use Rattle.linkmodel.proofs.Neither.{neither_open_lem}
use Rattle.promises.proofs.wires.agreeing.Goals as goal

pub returns : goal.returns
returns c = record { both = both_open_lem; sooner = both_open_sooner_lem; neither = neither_open_lem; possible = can_agree_lem }
