use Rattle.std.proofs.Common.{rules}
use Rattle.octets.proofs.Fronts.{bytes_at}
use Rattle.octets.proofs.Reader.byte.Goals as goal

pub returns-clause-fits : goal.returns-clause-fits
returns-clause-fits c = bytes_at c.args.self.now.left.now (search rules)
