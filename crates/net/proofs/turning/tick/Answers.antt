use Rattle.std.proofs.Common.{◌<◌, length, set}
use Rattle.ground.specs.Wires.{drawn_of}
use Rattle.node.specs.Giving.{tick_all_gives, tick_leaves}
use Rattle.outbox.specs.Parcels.{contents}
use Rattle.net.specs.Plays.{Turned}
use Rattle.net.proofs.Turns.{tick_so, turned_so}
use Rattle.net.proofs.turning.tick.Goals as goal
use Rattle.net.proofs.turning.tick.Goals.{After-tick}

turned_here : (c : After-tick) → c.args.a < length c.args.boxes.now → Turned (tick_leaves (drawn_of c.draw-tag.new.self)) (tick_all_gives (drawn_of c.draw-tag.new.self)) c.args.a c.args.boxes.now (set c.args.boxes.now c.from-place.result c.tick.new.self) (contents c.tick.new.out)
turned_here c l =
    turned_so tick_leaves tick_all_gives c.args.a c.from-place.result c.draw-tag.result (drawn_of c.draw-tag.new.self) c.args.boxes.now c.index-boxes-place.result c.tick.new.self (contents c.tick.new.out)
    c.from-place.ensures l c.draw-tag.ensures.is c.tick.ensures.turned

pub returns-clause-turned : goal.returns-clause-turned
returns-clause-turned c = turned_here (goal.at.returns-clause-turned c).After-tick

pub returns-clause-so : goal.returns-clause-so
returns-clause-so c first ms l =
    tick_so c.args.a c.args.boxes.now _ c.args.ground.now c.draw-tag.new.self (contents c.tick.new.out) (turned_here (goal.at.returns-clause-so c).After-tick l) c.draw-tag.ensures.drew first ms l
