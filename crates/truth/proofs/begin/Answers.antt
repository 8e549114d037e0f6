use Rattle.frames.specs.Reading.{settings_in, value_in}
use Rattle.outbox.specs.Parcels.{contents}
use Rattle.truth.proofs.begin.Goals as goal
use Rattle.truth.proofs.Turned.{begins_so}

pub returns-clause-begins : goal.returns-clause-begins
returns-clause-begins c = begins_so (value_in (settings_in c.args.settings.now)) c.args.drawn c.begin.result (contents c.begin.new.out) c.begin.ensures.begun
