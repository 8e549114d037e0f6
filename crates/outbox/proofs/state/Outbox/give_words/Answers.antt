use Rattle.outbox.proofs.InPlace.{words_small}
use Rattle.outbox.proofs.state.Outbox.give_words.Goals as goal

pub give-requires : goal.give-requires
give-requires c = (c.requires.0, words_small _ c.requires.1)
