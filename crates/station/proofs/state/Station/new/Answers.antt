-- No wire has a road at first.
use Rattle.std.proofs.Common.{sym, subst}
use Rattle.linkmodel.specs.Calls.{Joined}
use Rattle.linkmodel.specs.Station.{station}
use Rattle.station.proofs.Joining.{joined_new, same_station}
use Rattle.station.proofs.state.Station.new.Goals as goal

pub settled-requires : goal.settled-requires
settled-requires c =
    let a = c.args in
    subst Joined (sym (same_station {t = station a.n a.me a.drawn} c.in_ok-links.ensures.is c.in_ok-router.ensures.is)) (joined_new a.n a.me a.drawn)
