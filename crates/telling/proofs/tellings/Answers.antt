-- Each is told its own.
use Rattle.std.proofs.Common.{ℕ, rules}
use Rattle.bits.specs.declared.Picked.{Picked}
use Rattle.messages.proofs.Arrays.{made_at}
use Rattle.router.specs.State.{box_of}
use Rattle.telling.specs.Telling.{Names, no_place, told_to}
use Rattle.telling.proofs.tellings.Goals as goal

pub returns : goal.returns
returns c e h = made_at _ (λ (d : ℕ) (p : Picked). Names p (told_to d (box_of c.args.router))) _ (λ d y q k. search rules) _ _ e no_place c.from_fn.ensures.items h
