use Rattle.std.proofs.Common.{arith}
use Rattle.wordframes.proofs.Lengths.{length_id}
use Rattle.wordframes.proofs.seens_bytes.WordIdItem.put.Goals as goal

pub put_id-requires : goal.put_id-requires
put_id-requires c = omega (arith, length_id c.args.self, c.requires)

pub returns-clause-next : goal.returns-clause-next
returns-clause-next c = omega (arith, length_id c.args.self, c.put_id.ensures.next)
