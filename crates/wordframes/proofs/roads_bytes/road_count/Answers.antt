use Rattle.std.proofs.Common.{◌≡◌, ◌<◌, ◌∙◌, rules, arith}
use Rattle.std.specs.List.{sum_by}
use Rattle.std.proofs.iter.runs.Sources.{sums}
use Rattle.wordframes.proofs.Roads.{one_each, roads_few, roads_summed}
use Rattle.wordframes.proofs.roads_bytes.road_count.Goals as goal

pub sum-requires-clause-fits : goal.sum-requires-clause-fits
sum-requires-clause-fits c =
    let few : sum_by one_each c.args.costs < 256 = omega (arith, roads_summed c.args.costs (search rules), roads_few c.args.costs 64) in
    search (rules, sums, few)

pub returns : goal.returns
returns c = let s : c.sum.result ≡ sum_by one_each c.args.costs = search (rules, sums) in s ∙ roads_summed c.args.costs (search rules)
