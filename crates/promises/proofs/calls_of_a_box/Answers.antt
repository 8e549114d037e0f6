use Rattle.model.proofs.BoxCode.{box_is_code_lem}
use Rattle.model.proofs.Falling.{takes_so_lem, fall_so_lem}
use Rattle.model.proofs.Ticking.{tick_so_lem}
use Rattle.promises.proofs.calls_of_a_box.Goals as goal

pub returns : goal.returns
returns c = record { code = box_is_code_lem; takes = takes_so_lem; falls = fall_so_lem; ticks = tick_so_lem }
