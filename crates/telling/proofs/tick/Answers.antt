-- It tells what the state tells that it leaves; with room for a word the tick is the model's.
use Rattle.std.proofs.Common.{cond, ◌&&◌, get_or, sym, ap, ◌∙◌, subst}
use mathlib.Core.Bool.{and-true}
use Rattle.model.specs.Box.{Box, must_say, says_now}
use Rattle.model.proofs.Ticking.{tick_so_lem}
use Rattle.router.specs.State.{box_of}
use Rattle.telling.specs.Telling.{Names, TickDid, no_place, told_to}
use Rattle.telling.proofs.tick.Goals as goal

pub returns : goal.returns
returns c =
    let s = box_of c.args.router in
    let t = c.args.tag in
    let is = ap box_of c.unwrap_or-next.ensures ∙ c.says_owed-said.ensures.is in
    record {
      said = c.is_some.ensures ∙ c.says_owed-said.ensures.said;
      is = is;
      telling = λ e h. subst (λ (u : Box). Names (get_or c.tellings.result e no_place) (told_to e u)) is (c.tellings.ensures e h);
      so =
          λ room es st fresh.
          subst (λ (u : Box). TickDid t s u es) (sym (is ∙ ap (λ b. cond (must_say s && b) (says_now t s) s) room ∙ ap (λ b. cond b (says_now t s) s) (and-true (must_say s)))) (tick_so_lem s es t st fresh);
    }
