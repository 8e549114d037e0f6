use Rattle.std.proofs.Common.{◌<◌, length, set}
use Rattle.ground.specs.Wires.{drawn_of}
use Rattle.node.specs.Turns.{fall_gives, fall_leaves}
use Rattle.outbox.specs.Parcels.{contents}
use Rattle.net.specs.Plays.{Turned}
use Rattle.net.proofs.Turns.{fall_so, turned_so}
use Rattle.net.proofs.turning.fall.Goals as goal
use Rattle.net.proofs.turning.fall.Goals.{After-fall}

turned_here : (c : After-fall) → c.args.a < length c.args.boxes.now → Turned (fall_leaves (drawn_of c.draw-drawn.new.self)) (fall_gives (drawn_of c.draw-drawn.new.self)) c.args.a c.args.boxes.now (set c.args.boxes.now c.from-place.result c.fall.new.self) (contents c.fall.new.out)
turned_here c l =
    turned_so fall_leaves fall_gives c.args.a c.from-place.result c.draw-drawn.result (drawn_of c.draw-drawn.new.self) c.args.boxes.now c.index-boxes-place.result c.fall.new.self (contents c.fall.new.out)
    c.from-place.ensures l c.draw-drawn.ensures.is c.fall.ensures.turned

pub returns-clause-turned : goal.returns-clause-turned
returns-clause-turned c = turned_here (goal.at.returns-clause-turned c).After-fall

pub returns-clause-so : goal.returns-clause-so
returns-clause-so c first ms l =
    fall_so c.args.a c.args.boxes.now _ c.args.ground.now c.draw-drawn.new.self (contents c.fall.new.out) (turned_here (goal.at.returns-clause-so c).After-fall l) c.draw-drawn.ensures.drew first ms l
