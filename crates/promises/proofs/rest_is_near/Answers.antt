use Rattle.model.proofs.Whole.{rest_near, rest_by_rule, makes_progress}
use Rattle.promises.proofs.rest_is_near.Goals as goal

pub returns : goal.returns
returns c = record { few = rest_near; by_rule = rest_by_rule; progress = makes_progress }
