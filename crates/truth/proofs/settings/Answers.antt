use Rattle.frames.specs.Reading.{settings_in, value_in}
use Rattle.node.specs.State.{whole_of}
use Rattle.outbox.specs.Parcels.{contents}
use Rattle.truth.proofs.settings.Goals as goal
use Rattle.truth.proofs.Turned.{settings_kept}

pub returns-clause-keeps : goal.returns-clause-keeps
returns-clause-keeps c =
    settings_kept (value_in (settings_in c.args.settings.now)) (whole_of c.args.node.now) (whole_of c.settings.new.self) (contents c.settings.new.out) c.settings.ensures.turned.is c.settings.ensures.turned.gives c.lines.ensures.tick
