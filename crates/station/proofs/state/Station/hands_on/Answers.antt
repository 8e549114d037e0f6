-- The table is that of the words.
use Rattle.std.proofs.Common.{◌≤◌, Bool, cond, ap, ◌∙◌, le-ltb, lt-ltb}
use Rattle.model.specs.Box.{map_in}
use Rattle.model.specs.Map.{Hop, Nowhere, hop}
use Rattle.router.specs.State.{box_of}
use Rattle.database.proofs.Had.{no_hop}
use Rattle.station.proofs.state.Station.hands_on.Goals as goal

pub returns : goal.returns
returns c =
    let s = c.args.self.now in
    let b = box_of s.router in
    let few : b.n ≤ 64 = s.router.few in
    let is = c.next.ensures.found (map_in b) b.me few s.ways in
    let by : Bool → Hop = λ l. cond l (hop (map_in b) c.args.to b.me) Nowhere in
    record {
      inside = λ h. is ∙ ap by (lt-ltb c.args.to b.n h);
      beyond = λ h. no_hop c.next.result (is ∙ ap by (le-ltb c.args.to b.n h));
    }
