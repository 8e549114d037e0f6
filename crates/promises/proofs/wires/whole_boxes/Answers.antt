use Rattle.linkmodel.proofs.Joins.{hello_so_lem, costs_so_lem, falls_so_lem, ticks_so_lem}
use Rattle.linkmodel.proofs.Sendings.{tells_so_lem, answers_so_lem}
use Rattle.linkmodel.proofs.Takings.{seens_so_lem, words_so_lem}
use Rattle.promises.proofs.wires.whole_boxes.Goals as goal

pub returns : goal.returns
returns c = record { hello = hello_so_lem; costs = costs_so_lem; falls = falls_so_lem; ticks = ticks_so_lem; tells = tells_so_lem; words = words_so_lem; answers = answers_so_lem; seens = seens_so_lem }
