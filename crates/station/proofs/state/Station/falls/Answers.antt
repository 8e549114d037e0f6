-- The wires fell, and the words are gone.
use Rattle.std.proofs.Common.{◌∷◌, sym, ◌∙◌, subst, rules}
use Rattle.model.specs.Words.{Falls}
use Rattle.linkmodel.specs.Links.{fell, relinks}
use Rattle.linkmodel.proofs.Joins.{falls_so_lem}
use Rattle.linkmodel.specs.Calls.{Joined}
use Rattle.linkmodel.specs.Station.{falls}
use Rattle.station.specs.State.{station_of}
use Rattle.station.proofs.Doing.{did_as}
use Rattle.station.proofs.Had.{joined_had}
use Rattle.station.proofs.Joining.{fell_box, joined_fell, same_station}
use Rattle.station.proofs.state.Station.falls.Goals as goal

pub settled-requires : goal.settled-requires
settled-requires c =
    let s = station_of c.args.self in
    let d = c.args.drawn in
    subst Joined (sym (same_station {t = falls d s} c.in_ok-links.ensures.is (c.falls-2.ensures.is ∙ sym (fell_box d s)))) (joined_fell d s (joined_had s c.args.self.joined))

pub returns : goal.returns
returns c =
    let s = station_of c.args.self in
    let d = c.args.drawn in
    let j = joined_had s c.args.self.joined in
    let is = c.settled.ensures ∙ same_station {t = falls d s} c.in_ok-links.ensures.is (c.falls-2.ensures.is ∙ sym (fell_box d s)) in
    record { refused = search rules; is = is; so = did_as s (falls d s) (station_of c.settled.result) (Falls s.box.me ∷ relinks s.links (fell d s.links) s.box.n) j is (λ es. falls_so_lem s es d) }
