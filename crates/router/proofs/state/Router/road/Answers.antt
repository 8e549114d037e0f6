-- One element of the roads and one row of what is shown are replaced.
use Rattle.std.proofs.Common.{◌≡◌, ◌<◌, cond, ◌∷◌, length, sym, refl, ap, ◌∙◌, rules}
use Rattle.messages.specs.Values.{at}
use Rattle.model.specs.Flood.{row}
use Rattle.model.specs.Words.{Road}
use Rattle.router.specs.State.{box_of}
use Rattle.router.proofs.Allowed.{road_allowed}
use Rattle.router.proofs.Stood.{stands_as_lem, road_so}
use Rattle.router.proofs.Tables.{get_or_row, bit_row}
use Rattle.router.proofs.SameBox.{same_box}
use Rattle.router.proofs.state.Router.road.Goals as goal

pub returns : goal.returns
returns c =
    let l : length c.args.self.links ≡ 64 = search rules in
    let m : length c.args.self.shown ≡ 64 = search rules in
    let none = c.in_ok-allows_road.ensures in
    let inside : c.args.to < 64 = search rules in
    let roads = c.args.self.links in
    let s = box_of c.args.self in
    let is =
    same_box refl refl
    (λ e. get_or_row roads c.args.to 64 c.args.cost 0 l inside e ∙ sym (ap (λ b. cond b (row c.args.to c.args.cost (at roads)) (at roads) e) (road_allowed c.args.to c.args.cost s none)))
    (λ i. refl) (bit_row c.args.self.shown c.args.to 64 c.still_shown.result _ m inside c.still_shown.ensures) in
    record { refused = none; is = is; so = λ es st. stands_as_lem (Road s.me c.args.to c.args.cost ∷ es) is (road_so s es c.args.to c.args.cost st) }
