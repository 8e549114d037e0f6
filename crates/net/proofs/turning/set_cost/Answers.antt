use Rattle.std.proofs.Common.{◌≡◌, ℕ, ◌<◌, true, [], length, get_or, set, ap, ◌∙◌}
use Rattle.linkmodel.specs.Links.{Links}
use Rattle.linkmodel.specs.Station.{Station as Whole}
use Rattle.model.specs.Flood.{row}
use Rattle.netmodel.specs.Net.{small_costs}
use Rattle.node.specs.State.{whole_of}
use Rattle.node.specs.declared.state.Node.{Node}
use Rattle.outbox.specs.Parcels.{contents}
use Rattle.net.specs.Plays.{Turned, costing, whole_at}
use Rattle.net.proofs.Settled.{costs_small, costs_turned}
use Rattle.net.proofs.Turns.{costs_so}
use Rattle.net.proofs.Wholes.{becomes_at, was_whole}
use Rattle.net.proofs.turning.set_cost.Goals as goal
use Rattle.net.proofs.turning.set_cost.Goals.{After-settings}

turned_here : (c : After-settings) → c.args.end.at < length c.args.boxes.now → c.args.end.wire < 8 →
    Turned (costing c.args.end.wire c.args.cost) (λ s. []) c.args.end.at c.args.boxes.now (set c.args.boxes.now c.from-place.result c.settings.new.self) (contents c.settings.new.out)
turned_here c l w =
    let node : Node = get_or c.args.boxes.now c.from-place.result c.index-boxes-place.result in
    let x = c.with_cost.result in
    let same = c.links.ensures in
    record {
      before = node;
      after = c.settings.new.self;
      becomes = becomes_at c.args.end.at c.from-place.result c.args.boxes.now c.index-boxes-place.result c.settings.new.self c.from-place.ensures l;
      turned =
          costs_turned c.bytes_of-settings.result x c.args.end.wire c.args.cost node c.settings.new.self (contents c.settings.new.out) c.bytes_of-settings.ensures c.with_cost.ensures.range
          (c.with_cost.ensures.boxes ∙ ap (λ (s : Links). s.n) same) (c.with_cost.ensures.me ∙ ap (λ (s : Links). s.me) same)
          (λ v. c.with_cost.ensures.costs w v ∙ ap (λ (s : Links). row c.args.end.wire c.args.cost s.cost v) same) c.settings.ensures.turned;
    }

pub returns-clause-turned : goal.returns-clause-turned
returns-clause-turned c = turned_here (goal.at.returns-clause-turned c).After-settings

small_here : (c : After-settings) → c.args.end.at < length c.args.boxes.now → c.args.end.wire < 8 → small_costs (row c.args.end.wire c.args.cost (whole_at c.args.boxes.now c.args.end.at).links.cost) 8 ≡ true
small_here c l w =
    let node : Node = get_or c.args.boxes.now c.from-place.result c.index-boxes-place.result in
    let was : whole_of node ≡ whole_at c.args.boxes.now c.args.end.at =
    was_whole c.args.end.at c.args.boxes.now _ node c.settings.new.self l (becomes_at c.args.end.at c.from-place.result c.args.boxes.now c.index-boxes-place.result c.settings.new.self c.from-place.ensures l) in
    let same = ap (λ (s : Links). s.cost) (c.links.ensures ∙ ap (λ (s : Whole). s.links) was) in
    costs_small c.with_cost.result (row c.args.end.wire c.args.cost (whole_at c.args.boxes.now c.args.end.at).links.cost) c.with_cost.ensures.range
    (λ v. c.with_cost.ensures.costs w v ∙ ap (λ (f : ℕ → ℕ). row c.args.end.wire c.args.cost f v) same)

pub returns-clause-so : goal.returns-clause-so
returns-clause-so c first ms g l w =
    let k = (goal.at.returns-clause-so c).After-settings in
    costs_so c.args.end.wire c.args.cost c.args.end.at c.args.boxes.now _ (contents c.settings.new.out) (turned_here k l w) (small_here k l w) first ms g l
