use Rattle.std.proofs.Common.{arith, length-append}
use Rattle.octets.proofs.Puts.{length_octets}
use Rattle.outbox.proofs.state.Outbox.give_hello.Goals as goal

-- two numbers of eight bytes, and two bytes
pub give-requires : goal.give-requires
give-requires c = (c.requires, simp (length-append, length_octets) (omega arith))
