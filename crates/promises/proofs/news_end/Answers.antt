use Rattle.model.proofs.Resting.{quiet_is_rest_lem, rest_test_lem}
use Rattle.model.proofs.Whole.{words_end, words_end_sooner}
use Rattle.promises.proofs.news_end.Goals as goal

pub returns : goal.returns
returns c = record { ends = words_end; sooner = words_end_sooner; quiet = quiet_is_rest_lem; test = rest_test_lem }
