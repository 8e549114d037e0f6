-- A bit is added for each box with another number.
use Rattle.std.proofs.Common.{not, ◌&&◌, eqb, ap, ◌∙◌, arith, rules, tests, lt-ltb}
use Rattle.std.proofs.lemmas.Iterator.{YieldsList-from_range}
use Rattle.std.proofs.lemmas.Iterator.Consumers.{YieldsList-from_filter}
use Rattle.messages.specs.Values.{at}
use Rattle.router.proofs.Having.{bits_folded, had_bits}
use Rattle.station.proofs.changes.heard_anew.Goals as goal

pub returns : goal.returns
returns c e h =
    bits_folded _ _ _ _ c.fold.result c.fold.ensures.ran
    (YieldsList-from_filter _ (λ i. not (eqb (at c.args.before.last i) (at c.args.after.last i))) (YieldsList-from_range 0 64 64 c.filter.ensures.source (omega arith)) c.filter.ensures.closure (λ x b q k. search (rules, tests)))
    (λ a x b q k. search (rules, tests)) e
    ∙ had_bits 64 e (λ i. not (eqb (at c.args.before.last i) (at c.args.after.last i))) (omega arith)
    ∙ ap (λ b. b && not (eqb (at c.args.before.last e) (at c.args.after.last e))) (lt-ltb e 64 h)
