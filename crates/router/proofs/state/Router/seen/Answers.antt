-- What is shown is no event.
use Rattle.std.proofs.Common.{rules}
use Rattle.router.specs.State.{box_of}
use Rattle.router.proofs.Stood.{stands_as_lem, seen_so}
use Rattle.router.proofs.state.Router.seen.Goals as goal

pub returns : goal.returns
returns c =
    let x = c.args.id in
    record {
      refused = search rules;
      is = c.marked.ensures;
      so = λ es st. stands_as_lem es c.marked.ensures (seen_so (box_of c.args.self) es c.args.from x.about x.count x.tag st);
    }
