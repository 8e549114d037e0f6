use Rattle.std.proofs.Common.{rules}
use Rattle.packets.proofs.Grants.{at_most_ten_lem}
use Rattle.packets.proofs.error_quota.Quota.grant.Goals as goal

pub returns-then-second-self : goal.returns-then-second-self
returns-then-second-self c = record { is = search rules; few = at_most_ten_lem }

pub returns-then-self-ge-ERRORS : goal.returns-then-self-ge-ERRORS
returns-then-self-ge-ERRORS c = record { is = search rules; few = at_most_ten_lem }

pub returns : goal.returns
returns c = record { is = search rules; few = at_most_ten_lem }
