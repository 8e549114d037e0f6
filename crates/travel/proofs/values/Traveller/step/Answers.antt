use Rattle.outbox.specs.Parcels.{contents}
use Rattle.travel.specs.Steps.{Did}
use Rattle.travel.proofs.AsPassed.{passes_so}
use Rattle.travel.proofs.AsTrip.{did_goes}
use Rattle.travel.proofs.Nearer.{nearer}
use Rattle.travel.proofs.values.Traveller.step.Goals as goal

pub returns-clause-passes : goal.returns-clause-passes
returns-clause-passes c =
    let a = c.args in
    let n = c.got-port.new in
    let m = c.goes.new in
    let d : Did a.self.now a.frame.now a.boxes.now a.ground.now m.self n.frame n.boxes m.ground (contents n.out) c.goes.result =
    record { port = c.got-port.result; got = c.got-port.ensures; gone = c.goes.ensures.gone; used = c.goes.ensures.used } in
    λ k. passes_so a.self.now m.self a.frame.now n.frame a.boxes.now n.boxes a.ground.now m.ground (contents n.out) c.goes.result k d

pub returns-clause-goes : goal.returns-clause-goes
returns-clause-goes c =
    let a = c.args in
    let n = c.got-port.new in
    let m = c.goes.new in
    let d : Did a.self.now a.frame.now a.boxes.now a.ground.now m.self n.frame n.boxes m.ground (contents n.out) c.goes.result =
    record { port = c.got-port.result; got = c.got-port.ensures; gone = c.goes.ensures.gone; used = c.goes.ensures.used } in
    did_goes a.self.now m.self a.frame.now n.frame a.boxes.now n.boxes a.ground.now m.ground (contents n.out) c.goes.result d c.goes.ensures.fits

pub returns-clause-delivers : goal.returns-clause-delivers
returns-clause-delivers c =
    let a = c.args in
    let n = c.got-port.new in
    let m = c.goes.new in
    let d : Did a.self.now a.frame.now a.boxes.now a.ground.now m.self n.frame n.boxes m.ground (contents n.out) c.goes.result =
    record { port = c.got-port.result; got = c.got-port.ensures; gone = c.goes.ensures.gone; used = c.goes.ensures.used } in
    nearer a.self.now m.self a.frame.now n.frame a.boxes.now n.boxes a.ground.now m.ground (contents n.out) c.goes.result
    (λ k. passes_so a.self.now m.self a.frame.now n.frame a.boxes.now n.boxes a.ground.now m.ground (contents n.out) c.goes.result k d)
    (did_goes a.self.now m.self a.frame.now n.frame a.boxes.now n.boxes a.ground.now m.ground (contents n.out) c.goes.result d c.goes.ensures.fits)
