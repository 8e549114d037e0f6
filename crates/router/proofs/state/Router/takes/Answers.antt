-- A word that comes and is not counted as shown.
use Rattle.std.proofs.Common.{◌∷◌, refl, rules}
use Rattle.messages.specs.Values.{told_by}
use Rattle.model.specs.Words.{Comes}
use Rattle.model.proofs.Falling.{takes_so_lem}
use Rattle.router.specs.State.{box_of}
use Rattle.router.proofs.Stood.{stands_as_lem}
use Rattle.router.proofs.state.Router.takes.Goals as goal

pub returns : goal.returns
returns c =
    let s = box_of c.args.self in
    let t = c.args.tag in
    let done = c.taken.ensures in
    record {
      refused = search rules;
      is = done.is;
      outcome = done.outcome;
      so = λ es i st h fresh. stands_as_lem (Comes i t ∷ es) done.is (takes_so_lem s es i t (told_by c.args.from s.me c.args.word) st h refl fresh);
    }
