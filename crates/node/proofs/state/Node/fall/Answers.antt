use Rattle.std.proofs.Common.{[], ◌∷◌, sym, subst, rules}
use Rattle.model.specs.Words.{Falls}
use Rattle.linkmodel.specs.Links.{fell, relinks}
use Rattle.station.specs.Events.{Did}
use Rattle.station.specs.State.{station_of}
use Rattle.node.specs.Giving.{if_refused}
use Rattle.node.specs.State.{whole_of}
use Rattle.node.proofs.state.Node.fall.Goals as goal

pub returns-in-Ok : goal.returns-in-Ok
returns-in-Ok c =
    let t = c.in-Ok.ensures in
    let s = whole_of c.args.self.now in
    record {
      turned = record { is = search rules; gives = search rules; errors = search rules };
      so = subst (λ o. Did s (if_refused o (λ r. []) (Falls s.box.me ∷ relinks s.links (fell c.args.drawn s.links) s.box.n)) (station_of c.in-Ok.station)) (sym t.refused) t.so;
    }
