-- A bit is added for each box of which it has a word.
use Rattle.std.proofs.Common.{ltb, ◌∙◌, arith, rules, tests}
use Rattle.std.proofs.lemmas.Iterator.{YieldsList-from_range}
use Rattle.std.proofs.lemmas.Iterator.Consumers.{YieldsList-from_filter}
use Rattle.router.specs.State.{box_of}
use Rattle.router.proofs.Having.{bits_folded, had_bits}
use Rattle.router.proofs.state.Router.had.Goals as goal

pub returns : goal.returns
returns c j =
    let n = c.args.self.n in
    bits_folded _ _ _ _ c.fold.result c.fold.ensures.ran
    (YieldsList-from_filter _ (λ i. ltb 0 ((box_of c.args.self).word i).number) (YieldsList-from_range 0 n n c.filter.ensures.source (omega arith)) c.filter.ensures.closure (λ x b q k. search (rules, tests)))
    (λ a x b q k. search (rules, tests)) j
    ∙ had_bits n j (λ i. ltb 0 ((box_of c.args.self).word i).number) c.args.self.few
