use Rattle.std.proofs.Common.{◌≡◌, sym, ap, ◌∙◌, arith}
use Rattle.linkmodel.specs.Links.{Links}
use Rattle.node.specs.State.{whole_of}
use Rattle.node.proofs.state.Node.wire.Goals as goal
use Rattle.node.proofs.state.Node.wire.Goals.{After-cost}

cost_of : (c : After-cost) → (whole_of c.args.self.now).links.cost c.args.wire ≡ c.cost.result
cost_of c = sym (ap (λ (l : Links). l.cost c.args.wire) c.links.ensures) ∙ sym c.cost.ensures

pub returns-then-cost-eq0-clause-unfit : goal.returns-then-cost-eq0-clause-unfit
returns-then-cost-eq0-clause-unfit c p n = let z = cost_of (goal.at.returns-then-cost-eq0-clause-unfit c).After-cost in absurd (omega (arith, z))

pub returns-then-cost-eq0-clause-read : goal.returns-then-cost-eq0-clause-read
returns-then-cost-eq0-clause-read c p n = let z = cost_of (goal.at.returns-then-cost-eq0-clause-read c).After-cost in absurd (omega (arith, z))

pub returns-then-cost-eq0-clause-so : goal.returns-then-cost-eq0-clause-so
returns-then-cost-eq0-clause-so c p n = let z = cost_of (goal.at.returns-then-cost-eq0-clause-so c).After-cost in absurd (omega (arith, z))

pub returns-in-Ok-clause-dropped : goal.returns-in-Ok-clause-dropped
returns-in-Ok-clause-dropped c e = absurd (c.if-cost-eq0.false (sym (cost_of (goal.at.returns-in-Ok-clause-dropped c).After-cost) ∙ e))

pub returns-in-Err-clause-dropped : goal.returns-in-Err-clause-dropped
returns-in-Err-clause-dropped c e = absurd (c.if-cost-eq0.false (sym (cost_of (goal.at.returns-in-Err-clause-dropped c).After-cost) ∙ e))
