-- The wires stay sound.
use Rattle.std.proofs.Common.{ap, ◌∙◌}
use Rattle.hello.specs.State.{greeting_of, links_of}
use Rattle.linkmodel.specs.Hellos.{Hears}
use Rattle.linkmodel.specs.Links.{Links, hears_hello, relinks}
use Rattle.linkmodel.specs.Station.{heard_hello, relink_as}
use Rattle.linkmodel.proofs.Joins.{hello_so_lem}
use Rattle.station.specs.State.{station_of}
use Rattle.station.proofs.Doing.{did_as}
use Rattle.station.proofs.Had.{joined_had}
use Rattle.station.proofs.Joining.{still_sound}
use Rattle.station.proofs.state.Station.hears_hello.Goals as goal

pub relinked-requires : goal.relinked-requires
relinked-requires c =
    let s = station_of c.args.self in
    still_sound (Hears c.args.wire (greeting_of c.args.hello)) s.links (links_of c.in_ok-links.links) (joined_had s c.args.self.joined).sound c.in_ok-links.ensures.is

pub returns-clause-so : goal.returns-clause-so
returns-clause-so c =
    let s = station_of c.args.self in
    let is = c.relinked.ensures ∙ ap (λ (l : Links). relink_as l s) c.in_ok-links.ensures.is in
    did_as s (heard_hello c.args.wire (greeting_of c.args.hello) s) (station_of c.relinked.result) (relinks s.links (hears_hello c.args.wire (greeting_of c.args.hello) s.links) s.box.n) (joined_had s c.args.self.joined) is (λ es. hello_so_lem s es c.args.wire (greeting_of c.args.hello))
