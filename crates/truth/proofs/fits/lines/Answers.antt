use Rattle.std.proofs.Common.{◌^◌, ◌<◌, ap, ◌∙◌, subst}
use Rattle.model.specs.Box.{Box}
use Rattle.truth.proofs.fits.lines.Goals as goal

pub returns-clause-roads : goal.returns-clause-roads
returns-clause-roads c = λ e. subst (λ x. x < 2 ^ 16) (ap (λ f. f e) (c.roads.ensures ∙ ap (λ (b : Box). b.cost) c.router.ensures)) (c.costs.ensures e)
