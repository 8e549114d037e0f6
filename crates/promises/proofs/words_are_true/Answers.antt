use Rattle.model.proofs.OfWords.{same_words_lem, one_tag, own_words_lem}
use Rattle.promises.proofs.words_are_true.Goals as goal

pub returns : goal.returns
returns c = record { same = same_words_lem; tag = one_tag; own = own_words_lem }
