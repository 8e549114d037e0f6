use Rattle.model.proofs.AtRest.{map_true_lem, hops_true_lem}
use Rattle.model.proofs.OfWords.{same_words_lem}
use Rattle.promises.proofs.maps_are_true.Goals as goal

pub returns : goal.returns
returns c = record { distances = map_true_lem same_words_lem; hops = hops_true_lem same_words_lem }
