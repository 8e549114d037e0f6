use Rattle.std.proofs.Common.{replicate, rules}
use Rattle.net.proofs.Settled.{written_so}
use Rattle.net.proofs.settings.bytes_of.Goals as goal

pub returns : goal.returns
returns c = written_so c.args.settings c.write_settings.result (replicate 19 0) c.write_settings.new.out (search rules) (search rules) (search rules) c.write_settings.ensures.wrote
