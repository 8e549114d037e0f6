use Rattle.std.proofs.Common.{rules}
use Rattle.script.proofs.Back.{written_back}
use Rattle.script.proofs.text.write.Goals as goal

pub returns-clause-back : goal.returns-clause-back
returns-clause-back c = written_back c.args.command c.format.result (search rules)
