-- The part behind the body holds the body's sum.
use Rattle.std.proofs.Common.{◌∙◌}
use Rattle.checksum.proofs.Sum.{written}
use Rattle.checksum.proofs.crc.write_sum.Goals as goal

pub returns : goal.returns
returns c = (
  c.if-frame-lt4.false,
  written c.args.frame.now c.split_at_mut-body.result.0.now c.copy_from_slice.new.self c.crc.result c.split_at_mut-body.ensures.front
      c.crc.ensures.value (c.copy_from_slice.ensures.after ∙ c.to_le_bytes.ensures),
)
