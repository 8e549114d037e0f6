use Rattle.std.proofs.Common.{◌≡◌, length, sym, ◌∙◌, rules, arith}
use Rattle.std.specs.List.{sum_by}
use Rattle.std.proofs.iter.runs.Sources.{sums}
use Rattle.std.proofs.lemmas.Iterator.{YieldsList-from_slice}
use Rattle.std.proofs.lemmas.Iterator.Adapters.{at_most_from_yields_List}
use Rattle.std.proofs.lemmas.List.Concat.{length-flat_map}
use Rattle.wordframes.proofs.Sums.{sum_below}
use Rattle.wordframes.proofs.batch.size_of_all.Goals as goal

pub returns-clause-known : goal.returns-clause-known
returns-clause-known g c =
    let s : c.sum.result ≡ sum_by (λ x. length (g.T.Item.bytes x)) c.args.items.now = search (rules, sums) in
    s ∙ sym (length-flat_map g.T.Item.bytes c.args.items.now)

-- at most four, each of at most 210 bytes
pub returns-clause-small : goal.returns-clause-small
returns-clause-small g c =
    let l = sum_below _ 4 841 (c.sum.ensures.runs tt) (at_most_from_yields_List (YieldsList-from_slice c.args.items.now cc) c.requires) c.map.ensures.closure (omega arith) (λ x r q k. search rules) in
    omega (arith, l)
