-- Each wire keeps what it was or is silent, by what it costs itself.
use Rattle.std.proofs.Common.{◌≡◌, ℕ, refl, rules}
use Rattle.messages.proofs.Arrays.{made_at}
use Rattle.hello.specs.State.{wire_at, wire_of}
use Rattle.hello.specs.declared.state.Wire.{Wire}
use Rattle.hello.specs.declared.state.Wire.TheVariants.{Silent}
use Rattle.hello.proofs.Same.{same_links}
use Rattle.hello.proofs.Wires.{costed, costed_silent, everywhere}
use Rattle.hello.proofs.state.Links.rewire.Goals as goal

pub returns-clause-is : goal.returns-clause-is
returns-clause-is c =
    same_links refl refl refl refl (λ w. refl)
    (everywhere (costed c.args.settings.costs) c.args.self.wires c.from_fn-self.result (search rules) (search rules) (costed_silent c.args.settings.costs)
    (λ w h. made_at _ (λ (i : ℕ) (y : Wire). wire_of y ≡ costed c.args.settings.costs i (wire_at c.args.self.wires i)) _ (λ i y q k. search rules) _ _ w Silent c.from_fn-self.ensures.items h))
    (λ e. refl)
