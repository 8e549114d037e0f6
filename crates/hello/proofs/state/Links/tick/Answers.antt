-- Each wire is aged by itself.
use Rattle.std.proofs.Common.{◌≡◌, suc, refl, rules, add-one}
use Rattle.linkmodel.specs.Links.{aged}
use Rattle.messages.proofs.Arrays.{mapped_at}
use Rattle.hello.specs.State.{wire_of}
use Rattle.hello.specs.declared.state.Wire.{Wire}
use Rattle.hello.specs.declared.state.Wire.TheVariants.{Silent}
use Rattle.hello.proofs.Same.{same_links}
use Rattle.hello.proofs.Wires.{everywhere}
use Rattle.hello.proofs.state.Links.tick.Goals as goal

pub returns-clause-is : goal.returns-clause-is
returns-clause-is c =
    let now = suc c.args.self.tick in
    same_links refl refl refl (add-one _) (λ w. refl)
    (everywhere (λ w. aged now) c.args.self.wires c.map-self.result (search rules) (search rules) (λ w. refl)
    (λ w h. mapped_at _ (λ (x y : Wire). wire_of y ≡ aged now (wire_of x)) _ (λ x y q k. rw (← add-one c.args.self.tick) (search rules)) _ _ _ w Silent Silent c.map-self.ensures.items h))
    (λ e. refl)
