use Rattle.linkmodel.proofs.Showing.{seen_shows_lem, word_shows_lem, taken_shows_lem}
use Rattle.promises.proofs.wires.shown.Goals as goal

pub returns : goal.returns
returns c = record { seen = seen_shows_lem; word = word_shows_lem; taken = taken_shows_lem }
