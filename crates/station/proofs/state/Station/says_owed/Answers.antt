-- What it says changes no road.
use Rattle.std.proofs.Common.{sym, ◌∙◌, subst}
use Rattle.model.specs.Box.{Box}
use Rattle.linkmodel.specs.Calls.{Joined}
use Rattle.linkmodel.specs.Station.{with_box}
use Rattle.station.specs.State.{station_of}
use Rattle.station.proofs.Had.{joined_had}
use Rattle.station.proofs.Joining.{joined_said, owed_lem}
use Rattle.station.proofs.state.Station.says_owed.Goals as goal

pub settled-requires : goal.settled-requires
settled-requires c =
    let s = station_of c.args.self in
    subst (λ (b : Box). Joined (with_box b s)) (sym (c.in_ok-router.ensures.is ∙ owed_lem c.args.tag s.box)) (joined_said c.args.tag s (joined_had s c.args.self.joined))
