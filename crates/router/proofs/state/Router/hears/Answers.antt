-- A word that comes, and shows that who told it has it.
use Rattle.std.proofs.Common.{◌≡◌, ◌∷◌, refl, ap, ◌∙◌, rules}
use Rattle.messages.specs.Values.{told_by}
use Rattle.model.specs.Box.{Box, hears, sees}
use Rattle.model.specs.Words.{Comes}
use Rattle.router.specs.State.{box_of}
use Rattle.router.proofs.Stood.{stands_as_lem, hears_so}
use Rattle.router.proofs.state.Router.hears.Goals as goal

pub returns : goal.returns
returns c =
    let s = box_of c.args.self in
    let t = c.args.tag in
    let told = told_by c.args.from s.me c.args.word in
    let x = c.args.word.id in
    let is : box_of c.marked.result ≡ hears told t s = c.marked.ensures ∙ ap (λ (b : Box). sees c.args.from x.about x.count x.tag b) c.in_ok-router.ensures.is in
    record {
      refused = search rules;
      is = is;
      outcome = search rules;
      so = λ es i st h fresh. stands_as_lem (Comes i t ∷ es) is (hears_so s es i t told st h refl fresh);
    }
