use Rattle.std.proofs.Common.{sym}
use Rattle.wordframes.proofs.Lengths.{length_id}
use Rattle.wordframes.proofs.seens_bytes.WordIdItem.size.Goals as goal

pub returns-clause-known : goal.returns-clause-known
returns-clause-known c = sym (length_id c.args.self)
