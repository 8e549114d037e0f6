-- Boxes agree just where one of them holds no road open, or both do and have the same words.
use Rattle.std.proofs.Common.{◌∙◌, sym, ap}
use Rattle.model.specs.Box.{is_open}
use Rattle.node.specs.State.{whole_of}
use Rattle.router.specs.State.{box_of}
use Rattle.net.specs.Nets.{alike_below}
use Rattle.net.proofs.Calm.{both_agree, one_disagrees}
use Rattle.net.proofs.rest.agree.Goals as goal

pub returns-then-is_open : goal.returns-then-is_open
returns-then-is_open c =
    let x = box_of c.args.one.now in
    let y = (whole_of c.args.other.now).box in
    let is = c.router-other.ensures in
    c.alike.ensures ∙ ap (alike_below c.args.n x) is ∙ sym (both_agree c.args.n x c.args.a y c.args.e (sym c.is_open.ensures ∙ c.if-not-is_open.false) (sym (ap (is_open c.args.a) is) ∙ (sym c.is_open-2.ensures ∙ c.if-is_open.true)))

pub returns-else-is_open : goal.returns-else-is_open
returns-else-is_open c =
    let x = box_of c.args.one.now in
    let y = (whole_of c.args.other.now).box in
    c.if-is_open.false ∙ sym (one_disagrees c.args.n x c.args.a y c.args.e (sym c.is_open.ensures ∙ c.if-not-is_open.false) (sym (ap (is_open c.args.a) c.router-other.ensures) ∙ (sym c.is_open-2.ensures ∙ c.if-is_open.false)))
