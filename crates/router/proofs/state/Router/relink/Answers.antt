-- Both lists are those of the model.
use Rattle.std.proofs.Common.{◌≡◌, length, refl, rules}
use Rattle.bits.specs.Bits.{bit}
use Rattle.router.specs.State.{box_of}
use Rattle.router.proofs.AllRoads.{all_roads, all_shown}
use Rattle.router.proofs.SameBox.{same_box}
use Rattle.router.proofs.state.Router.relink.Goals as goal

pub returns : goal.returns
returns c =
    let l : length c.roads_from-costs.result ≡ 64 = search rules in
    let m : length c.all_kept-shown.result ≡ 64 = search rules in
    let s = box_of c.args.self in
    let few = c.args.self.few in
    let roads = all_roads c.args.links c.roads_from-costs.result s l few c.roads_from-costs.ensures in
    same_box refl refl roads (λ i. refl) (all_shown c.args.links c.roads_from-costs.result c.all_kept-shown.result (bit c.args.anew) s m few roads c.all_kept-shown.ensures)
