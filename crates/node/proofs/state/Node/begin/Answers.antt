-- It stands after nothing, since no road opens.
use Rattle.std.proofs.Common.{◌≡◌, List, [], ◌++◌, ap, ◌∙◌, subst}
use Rattle.messages.specs.Values.{at}
use Rattle.model.specs.Box.{Stands}
use Rattle.model.specs.Words.{Ev}
use Rattle.linkmodel.specs.Links.{Links, relinks, rewired}
use Rattle.linkmodel.specs.Station.{Station as Whole}
use Rattle.station.specs.State.{station_of}
use Rattle.node.proofs.Begun.{begun_events}
use Rattle.node.proofs.state.Node.begin.Goals as goal

pub returns-clause-so : goal.returns-clause-so
returns-clause-so c =
    let x = c.in_ok-settings.settings in
    let s = station_of c.in_ok-new.field-0 in
    let r = station_of c.in_ok-rewire.field-0 in
    let links = ap (λ (t : Whole). t.links) c.in_ok-new.ensures.is in
    let none : relinks s.links (rewired (at x.costs) s.links) s.box.n ≡ [] =
    ap (λ (l : Links). relinks l (rewired (at x.costs) l) s.box.n) links ∙ begun_events x.boxes x.me c.args.drawn (at x.costs) s.box.n in
    subst (λ (es : List Ev). Stands r.box (es ++ [])) none (c.in_ok-rewire.ensures.so [] c.in_ok-new.ensures.so)
