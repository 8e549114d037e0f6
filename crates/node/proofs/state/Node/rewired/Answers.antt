use Rattle.std.proofs.Common.{[], sym, subst, rules}
use Rattle.messages.specs.Values.{at}
use Rattle.linkmodel.specs.Links.{relinks, rewired}
use Rattle.station.specs.Events.{Did}
use Rattle.station.specs.State.{station_of}
use Rattle.node.specs.Giving.{if_refused}
use Rattle.node.specs.State.{whole_of}
use Rattle.node.specs.Turns.{settings_did}
use Rattle.node.proofs.state.Node.rewired.Goals as goal

pub returns : goal.returns
returns c =
    let t = c.in_ok-rewire.ensures in
    let s = whole_of c.args.self.now in
    let r = c.in_ok-rewire.field-0 in (
      search rules,
      search rules,
      subst (λ x. Did s (settings_did x s) (station_of r)) c.in_ok-settings.ensures.reads
          (subst (λ o. Did s (if_refused o (λ r. []) (relinks s.links (rewired (at c.in_ok-settings.settings.costs) s.links) s.box.n)) (station_of r)) (sym t.refused) t.so),
    )
