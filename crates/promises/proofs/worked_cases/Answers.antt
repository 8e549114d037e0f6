use Rattle.model.proofs.Worked.{cases_hold_lem}
use Rattle.promises.proofs.worked_cases.Goals as goal

pub returns : goal.returns
returns c = cases_hold_lem
