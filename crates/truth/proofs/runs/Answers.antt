use Rattle.truth.proofs.runs.Goals as goal
use Rattle.truth.proofs.AfterCalls.{stays_recalled, stays_true}

pub returns : goal.returns
returns c = record { stays = stays_true; recalls = stays_recalled }
