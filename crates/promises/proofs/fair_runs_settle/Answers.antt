use Rattle.model.proofs.Lasting.{settles, settles_at_last_lem}
use Rattle.model.proofs.Whole.{words_end_sooner}
use Rattle.promises.proofs.fair_runs_settle.Goals as goal

pub returns : goal.returns
returns c = record { counted = settles words_end_sooner; at_last = settles_at_last_lem words_end_sooner }
