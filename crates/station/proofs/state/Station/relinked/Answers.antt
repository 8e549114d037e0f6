-- The roads are those of the new wires.
use Rattle.std.proofs.Common.{sym, refl, ap, ◌∙◌, subst}
use Rattle.model.specs.Box.{Box, map_in}
use Rattle.bits.specs.Bits.{bit}
use Rattle.messages.specs.Values.{at}
use Rattle.hello.specs.State.{links_of}
use Rattle.linkmodel.specs.Calls.{Joined}
use Rattle.linkmodel.specs.Station.{relink_as}
use Rattle.station.specs.State.{station_of}
use Rattle.station.proofs.Had.{joined_had}
use Rattle.station.proofs.Joining.{joined_relinked, relink_is, same_station}
use Rattle.station.proofs.state.Station.relinked.Goals as goal

pub rejoined-requires : goal.rejoined-requires
rejoined-requires c =
    let s = station_of c.args.self in
    let after = links_of c.args.links in
    let j = joined_had s c.args.self.joined in
    let q = c.relink.ensures in (
      subst Joined (sym (same_station {t = relink_as after s} refl
          (q ∙ relink_is s after (at c.all_roads-roads.result) (bit c.heard_anew-anew.result) j c.requires.0 c.requires.1.0 c.requires.1.1 c.args.self.router.few c.all_roads-roads.ensures c.heard_anew-anew.ensures)))
          (joined_relinked s after j c.requires.0 c.requires.1.0 c.requires.1.1),
      (ap map_in q, ap (λ (b : Box). b.me) q),
    )

pub returns : goal.returns
returns c =
    let s = station_of c.args.self in
    let after = links_of c.args.links in
    let j = joined_had s c.args.self.joined in
    c.rejoined.ensures ∙ same_station {t = relink_as after s} refl
    (c.relink.ensures ∙ relink_is s after (at c.all_roads-roads.result) (bit c.heard_anew-anew.result) j c.requires.0 c.requires.1.0 c.requires.1.1 c.args.self.router.few c.all_roads-roads.ensures c.heard_anew-anew.ensures)
