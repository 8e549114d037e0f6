-- A word above the one that it has of itself.
use Rattle.std.proofs.Common.{◌≡◌, ℕ, ◌∷◌, ap, ◌∙◌, rules}
use Rattle.model.specs.Box.{has, own_word, says_now}
use Rattle.model.specs.Words.{Says}
use Rattle.router.specs.State.{box_of}
use Rattle.router.proofs.Stood.{stands_as_lem, says_so}
use Rattle.router.proofs.state.Router.says.Goals as goal

pub returns-then-has_room : goal.returns-then-has_room
returns-then-has_room c =
    let s = box_of c.args.self in
    let is : box_of c.says_above.result ≡ says_now c.args.tag s = c.says_above.ensures ∙ ap (λ (k : ℕ). has s.me (own_word k c.args.tag s) s) c.count.ensures in
    record {
      refused = search rules;
      is = is;
      so = λ es st fresh. stands_as_lem (Says s.me c.args.tag ∷ es) is (says_so s es c.args.tag st fresh);
    }
