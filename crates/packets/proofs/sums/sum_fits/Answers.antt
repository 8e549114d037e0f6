use Rattle.checksum.specs.Internet.{ones_sum}
use Rattle.std.proofs.lemmas.Bool.Decides.{Decides-eqb, same_from_decides}
use Rattle.packets.specs.Sums.{sum_fits}
use Rattle.packets.proofs.sums.sum_fits.Goals as goal

pub returns : goal.returns
unfolding sum_fits
returns c =
    same_from_decides c.header_fits.result (sum_fits c.args.bytes.now) c.header_fits.ensures (Decides-eqb (ones_sum c.args.bytes.now) 0xffff)
