use Rattle.std.proofs.Common.{ℕ, sym, ap, ◌∙◌, arith}
use Rattle.linkmodel.specs.Links.{Links}
use Rattle.linkmodel.specs.Station.{Station as Whole}
use Rattle.netbytes.specs.Places.{whole_at}
use Rattle.node.specs.State.{whole_of}
use Rattle.node.specs.declared.state.Node.{Node}
use Rattle.netbytes.proofs.InPlace.{whole_past, whole_read}
use Rattle.travel.proofs.stepping.cost_at.Goals as goal

pub returns-in-Some : goal.returns-in-Some
returns-in-Some c =
    let at = c.in-Some.ensures.lookup in
    let node : Node = c.in-Some.node.now in
    let w : ℕ = c.args.end.wire in
    c.cost.ensures
    ∙ (ap (λ (l : Links). l.cost w) c.links.ensures
    ∙ (ap (λ (b : Node). (whole_of b).links.cost w) at.1
    ∙ (sym (ap (λ (s : Whole). s.links.cost w) (whole_read c.args.boxes.now c.from.result node at.3.0))
    ∙ ap (λ (a : ℕ). (whole_at c.args.boxes.now a).links.cost w) c.from.ensures)))

pub returns-in-None : goal.returns-in-None
returns-in-None c =
    let past = c.in-None.ensures.lookup in
    sym (ap (λ (s : Whole). s.links.cost c.args.end.wire) (whole_past c.args.boxes.now c.args.end.at (omega (arith, past.3, c.from.ensures))))
