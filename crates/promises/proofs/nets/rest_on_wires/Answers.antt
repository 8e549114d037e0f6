use Rattle.netmodel.proofs.Example.{can_window}
use Rattle.netmodel.proofs.Simulated.{few_words, rest_is}
use Rattle.netmodel.proofs.Windowed.{windows_rest}
use Rattle.promises.proofs.nets.rest_on_wires.Goals as goal

pub returns : goal.returns
returns c = record { rest = rest_is; few = few_words; left_alone = windows_rest; possible = can_window }
