use Rattle.std.proofs.Common.{◌<◌, ◌∙◌, ap, arith, subst}
use Rattle.ground.specs.Wires.{drawn_of}
use Rattle.node.specs.Turns.{BegunBy}
use Rattle.outbox.specs.Parcels.{contents}
use Rattle.net.specs.Plays.{begun_as}
use Rattle.net.proofs.Begins.{adds_so, begins_so, begun_is}
use Rattle.net.proofs.turning.begin.Goals as goal
use Rattle.net.proofs.turning.begin.Goals.{After-begin}

begun_here : (c : After-begin) → BegunBy (begun_as c.args.boxes c.args.me (drawn_of c.draw-drawn.new.self)) c.begin.result (contents c.begin.new.out)
begun_here c =
    let d = c.draw-drawn.result in
    let some : 0 < d = omega (arith, c.draw-drawn.ensures.is, c.draw-drawn.ensures.drew.drawn) in
    subst (λ z. BegunBy z c.begin.result (contents c.begin.new.out)) (begun_is c.args.boxes c.args.me d c.bytes_of-settings.result some c.bytes_of-settings.ensures ∙ ap (begun_as c.args.boxes c.args.me) c.draw-drawn.ensures.is) c.begin.ensures.begun

pub returns-clause-begun : goal.returns-clause-begun
returns-clause-begun c = begun_here (goal.at.returns-clause-begun c).After-begin

pub returns-clause-adds : goal.returns-clause-adds
returns-clause-adds c =
    let k = (goal.at.returns-clause-adds c).After-begin in
    adds_so c.args.boxes c.args.me c.args.ground.now c.draw-drawn.new.self c.begin.result (contents c.begin.new.out) (begun_here k) c.draw-drawn.ensures.drew (omega (arith, c.draw-drawn.ensures.is, c.draw-drawn.type_inv))

pub returns-clause-plays : goal.returns-clause-plays
returns-clause-plays c = begins_so
