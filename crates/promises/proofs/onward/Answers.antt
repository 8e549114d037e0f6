use Rattle.model.proofs.OfWords.{onward}
use Rattle.promises.proofs.onward.Goals as goal

pub returns : goal.returns
returns c = onward
