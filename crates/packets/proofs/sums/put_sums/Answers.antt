use Rattle.packets.proofs.Summing.{in_turn_lem}
use Rattle.packets.proofs.sums.put_sums.Goals as goal

pub returns : goal.returns
returns c = in_turn_lem c.args.packet.now c.put_sum.new.bytes c.put_sum-2.new.bytes c.requires c.put_sum.ensures c.put_sum-2.ensures
