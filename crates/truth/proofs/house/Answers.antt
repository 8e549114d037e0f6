use Rattle.std.proofs.Common.{sym, ap, subst}
use Rattle.node.specs.State.{whole_of}
use Rattle.outbox.specs.Parcels.{contents}
use Rattle.station.specs.State.{station_of}
use Rattle.station.specs.declared.state.Station.{Station}
use Rattle.truth.specs.Truth.{Keeps}
use Rattle.truth.proofs.house.Goals as goal
use Rattle.truth.proofs.Passes.{passed_kept}

pub returns-clause-keeps : goal.returns-clause-keeps
returns-clause-keeps c =
    let s = whole_of c.args.node.now in
    let h = c.house.ensures in
    subst (λ r. Keeps s r (contents c.house.new.out)) (sym (ap (λ (x : Station). station_of x) h.stays))
    (subst (λ z. Keeps s s z) (sym h.gives) (passed_kept s c.lines.ensures.tick c.args.node.now.quota c.args.frame.now))
