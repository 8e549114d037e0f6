-- The costs as an array are the costs that were lent.
use Rattle.std.proofs.Common.{ℕ, List, subst}
use Rattle.ways.specs.Numbers.{map_on}
use Rattle.ways.specs.Table.{Found}
use Rattle.ways.proofs.least_ways.Goals as goal

pub returns-clause-found : goal.returns-clause-found
returns-clause-found c _ =
    subst (λ (xs : List (List ℕ)). Found (map_on c.args.n xs) c.args.me c.walk.new.dist c.walk.new.next) c.in-Some.ensures.cases.same c.walk.ensures
