-- Silent wires, and no number heard of any box.
use Rattle.std.proofs.Common.{refl, rules}
use Rattle.messages.proofs.Zeros.{at_zeros}
use Rattle.hello.proofs.Tables.{all_silent}
use Rattle.hello.proofs.Same.{same_links}
use Rattle.hello.proofs.state.Links.falls.Goals as goal

pub returns : goal.returns
returns c = record { refused = search rules; is = same_links refl refl refl refl (λ w. refl) (all_silent 8) (at_zeros 64) }
