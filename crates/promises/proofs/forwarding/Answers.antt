use Rattle.model.proofs.Closed.{agree_on_closed_lem}
use Rattle.model.proofs.Hopping.{hop_picks_lem}
use Rattle.model.proofs.Walks.{by_any_policy_lem, by_any_rank_lem}
use Rattle.promises.proofs.forwarding.Goals as goal

pub returns : goal.returns
returns c = record { policy = by_any_policy_lem; lowest = hop_picks_lem; rank = by_any_rank_lem; agree = agree_on_closed_lem }
