use Rattle.octets.proofs.Puts.{put_one}
use Rattle.octets.proofs.put_byte.Goals as goal

pub returns-clause-wrote : goal.returns-clause-wrote
returns-clause-wrote c = put_one c.args.at c.args.out.now c.args.b c.requires
