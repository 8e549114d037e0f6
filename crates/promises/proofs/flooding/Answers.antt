use Rattle.model.proofs.ComesToRest.{comes_to_rest_for_lem}
use Rattle.model.proofs.Ends.{ends_for_lem}
use Rattle.model.proofs.MakesProgress.{progress_for_lem}
use Rattle.model.proofs.OneTagFor.{one_tag_for_lem}
use Rattle.model.proofs.OnwardFor.{onward_for_lem}
use Rattle.model.proofs.Quiet.{quiet_for_lem, settled_test_lem}
use Rattle.model.proofs.Settles.{settles_for_lem, settles_at_last_for_lem}
use Rattle.model.proofs.SpokenFor.{spoken_for_lem}
use Rattle.promises.proofs.flooding.Goals as goal

pub returns : goal.returns
returns g c =
    record {
      tag = one_tag_for_lem _;
      spoken = spoken_for_lem _;
      onward = onward_for_lem _;
      ends = ends_for_lem _;
      quiet = quiet_for_lem _;
      test = settled_test_lem _;
      rests = comes_to_rest_for_lem _;
      progress = progress_for_lem _;
      counted = settles_for_lem _;
      at_last = settles_at_last_for_lem _;
    }
