use Rattle.std.proofs.Common.{◌≡◌, ℕ, rules, tests}
use Rattle.messages.proofs.Arrays.{made_at}
use Rattle.messages.specs.Values.{at}
use Rattle.model.specs.Flood.{row}
use Rattle.net.proofs.Settled.{one_cost}
use Rattle.net.proofs.settings.with_cost.Goals as goal

pub returns-clause-costs : goal.returns-clause-costs
returns-clause-costs c l =
    one_cost c.args.links.costs c.from_fn.result c.args.wire c.args.cost (search rules) (search rules) l
    (λ w h. made_at _ (λ (i y : ℕ). y ≡ row c.args.wire c.args.cost (at c.args.links.costs) i) _ (λ i y q k. search (rules, tests)) _ _ w 0 c.from_fn.ensures.items h)
