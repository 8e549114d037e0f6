-- One road of which it isn't so is enough.
use Rattle.std.proofs.Common.{not, refl, ◌∙◌, arith, rules, tests}
use Rattle.std.proofs.lemmas.Iterator.{YieldsList-from_range}
use Rattle.std.proofs.lemmas.Iterator.Search.{any_from_yields_List}
use Rattle.router.specs.State.{box_of, own_so_at}
use Rattle.router.proofs.OfLists.{some_fails}
use Rattle.router.proofs.state.Router.owes.Goals as goal

pub returns : goal.returns
returns c =
    let s = box_of c.args.self in
    let n = c.args.self.n in
    any_from_yields_List (λ x. not (own_so_at s x)) _ _ c.any.result c.any.ensures.ran (YieldsList-from_range 0 n n refl (omega arith)) (λ x b q k. search (rules, tests))
    ∙ some_fails n (own_so_at s)
