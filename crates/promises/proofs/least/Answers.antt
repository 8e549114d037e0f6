use Rattle.model.proofs.Shortest.{least}
use Rattle.promises.proofs.least.Goals as goal

pub returns : goal.returns
returns c = least
