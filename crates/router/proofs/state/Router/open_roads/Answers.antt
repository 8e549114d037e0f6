-- The costs over 0 are counted.
use Rattle.std.proofs.Common.{◌≡◌, ltb, length, ap, arith, rules}
use Rattle.std.specs.List.{count_by}
use Rattle.messages.specs.Values.{at}
use Rattle.router.specs.State.{box_of, open_below}
use Rattle.router.proofs.OfLists.{open_counted}
use Rattle.router.proofs.state.Router.open_roads.Goals as goal

pub returns : goal.returns
unfolding open_below
returns c =
    let xs = c.args.self.links in
    let l : length xs ≡ 64 = search rules in
    let counted : c.count.result ≡ count_by (λ x. ltb 0 x) xs = search rules in
    omega (arith, counted, open_counted xs 0 64 (box_of c.args.self) (omega (arith, l)) (λ i j e. ap (at xs) (omega (arith, e))))
