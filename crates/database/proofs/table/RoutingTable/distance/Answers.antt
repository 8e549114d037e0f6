-- What a table says that is a map's is what the map says.
use Rattle.std.proofs.Common.{◌≡◌, ◌∙◌, rules}
use Rattle.database.specs.State.{distance_in, far_of}
use Rattle.database.proofs.Had.{distance_had}
use Rattle.database.proofs.table.RoutingTable.distance.Goals as goal

pub returns-clause-found : goal.returns-clause-found
returns-clause-found c = λ z me few found.
    let t = c.args.self.now in
    let is : far_of c.filter.result ≡ distance_in c.args.to t = search rules in
    is ∙ distance_had z me t few found c.args.to
