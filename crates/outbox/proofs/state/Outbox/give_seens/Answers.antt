use Rattle.std.proofs.Common.{rules}
use Rattle.outbox.proofs.InPlace.{seens_small}
use Rattle.outbox.proofs.state.Outbox.give_seens.Goals as goal

pub give-requires : goal.give-requires
give-requires c = (c.requires.0, seens_small _ c.requires.1 (search rules))
