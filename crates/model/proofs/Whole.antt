-- The promise of the whole, from its parts.
use Rattle.model.specs.Promise.{Ends, ComesToRest, Main}
use Rattle.model.specs.Settling.{EndsSooner, RestsByRule, Progress}
use Rattle.model.proofs.Arrive.{arrives, refused}
use Rattle.model.proofs.WordsEnd.{ends_sooner_lem, ends}
use Rattle.model.proofs.ComesToRest.{comes_to_rest_for_lem}
use Rattle.model.proofs.Ends.{ends_for_lem}
use Rattle.model.proofs.MakesProgress.{progress_for_lem}
use Rattle.model.proofs.OfWords.{same_words_lem}
use Rattle.model.proofs.WordsProgress.{progress}
use Rattle.model.proofs.WordsRest.{rests_by_rule_lem, comes_to_rest_lem}
use Rattle.model.proofs.Resting.{quiet_is_rest_lem}
use Rattle.model.proofs.RoadsInstance.{roads_are_an_instance_lem}
use Rattle.model.proofs.Shortest.{least}

pub words_end_sooner : EndsSooner
words_end_sooner = ends_sooner_lem roads_are_an_instance_lem (ends_for_lem _)

pub words_end : Ends
words_end = ends words_end_sooner

pub rest_by_rule : RestsByRule
rest_by_rule = rests_by_rule_lem roads_are_an_instance_lem (comes_to_rest_for_lem _)

pub rest_near : ComesToRest
rest_near = comes_to_rest_lem rest_by_rule

pub makes_progress : Progress
makes_progress = progress roads_are_an_instance_lem (progress_for_lem _)

pub whole : Main
whole n es = record { arrives = arrives same_words_lem n es; refused = refused same_words_lem n es; settles = words_end n es; quiet = quiet_is_rest_lem n es; rests = rest_near n es; least = least }
