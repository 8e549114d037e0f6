-- Four blanks.
use Rattle.std.proofs.Common.{[], ◌∷◌}
use Rattle.station.specs.Ticking.{no_word}
use Rattle.station.proofs.Carrying.{carries_none, four_blank, no_word_lem}
use Rattle.station.proofs.tellings.empty.Goals as goal

pub returns : goal.returns
returns c = let x = c.default.result in carries_none c.args.drawn (x ∷ x ∷ x ∷ x ∷ []) (four_blank x no_word (no_word_lem x c.default.ensures))
