use Rattle.model.proofs.Whole.{whole}
use Rattle.promises.proofs.whole.Goals as goal

pub returns : goal.returns
returns c = whole
