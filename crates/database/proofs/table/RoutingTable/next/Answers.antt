-- What a table says that is a map's is what the map says.
use Rattle.std.proofs.Common.{◌≡◌, ◌∙◌, rules}
use Rattle.database.specs.State.{next_in, hop_of}
use Rattle.database.proofs.Had.{next_had}
use Rattle.database.proofs.table.RoutingTable.next.Goals as goal

pub returns-clause-found : goal.returns-clause-found
returns-clause-found c = λ z me few found.
    let t = c.args.self.now in
    let is : hop_of c.filter.result ≡ next_in c.args.to t = search rules in
    is ∙ next_had z me t few found c.args.to
