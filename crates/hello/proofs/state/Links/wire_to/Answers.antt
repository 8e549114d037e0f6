-- What the lowest wire costs the road costs.
use Rattle.std.proofs.Common.{rules}
use Rattle.hello.proofs.Lowest.{lowest_cost}
use Rattle.hello.proofs.state.Links.wire_to.Goals as goal

pub returns-clause-costs : goal.returns-clause-costs
returns-clause-costs c = lowest_cost _ _ c.map.result (search rules)
