use Rattle.netmodel.proofs.Laws.{shown_means, shown_stays}
use Rattle.netmodel.proofs.Quieted.{quiet_net}
use Rattle.promises.proofs.nets.shown_on_wires.Goals as goal

pub returns : goal.returns
returns c = record { means = shown_means; stays = shown_stays; quiet = quiet_net }
