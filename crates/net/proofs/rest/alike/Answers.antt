-- The words are the same where their numbers are.
use Rattle.std.proofs.Common.{◌∙◌, refl, arith, rules, tests}
use Rattle.std.proofs.lemmas.Iterator.{YieldsList-from_range}
use Rattle.std.proofs.lemmas.Iterator.Search.{all_from_yields_List}
use Rattle.model.specs.Code.{same_word}
use Rattle.router.specs.State.{box_of}
use Rattle.net.proofs.Alls.{all_listed}
use Rattle.net.proofs.rest.alike.Goals as goal

pub returns : goal.returns
returns c =
    all_from_yields_List (λ i. same_word ((box_of c.args.one.now).word i) ((box_of c.args.other.now).word i)) _ _ c.all.result c.all.ensures.ran (YieldsList-from_range 0 c.args.n c.args.n refl (omega arith)) (λ i b q k. search (rules, tests))
    ∙ all_listed c.args.n (λ i. same_word ((box_of c.args.one.now).word i) ((box_of c.args.other.now).word i))
