-- One turn is a byte step, by the table; and at the end nothing is left.
use Rattle.std.proofs.Common.{ℕ, ◌+◌, ◌<◌, get_or, drop, sym, ap, ◌∙◌}
use lib.Bits.{bit_xor}
use Rattle.std.proofs.lemmas.List.{at_drop_more, at_drop_all}
use Rattle.checksum.specs.Crc.{crc_from, crc_of}
use Rattle.checksum.proofs.Frame.{byte_by_table}
use Rattle.checksum.proofs.Known.{known_sums_lem}
use Rattle.checksum.proofs.crc.crc.Goals as goal

pub loop-b-preserved : goal.loop-b-preserved
loop-b-preserved c =
    let b = get_or c.args.bytes.now c.loop-b.b-index 0 in
    let rest = drop (c.loop-b.b-index + 1) c.args.bytes.now in
    let l : b < 256 = (c.type_inv.bytes c.loop-b.b-index).fits in
    ap (λ (r : ℕ). crc_from r rest) (sym (byte_by_table c.loop-b.c b c.eight_bits.result l c.eight_bits.ensures))
    ∙ sym (at_drop_more (crc_from c.loop-b.c) c.args.bytes.now c.loop-b.b-index 0 c.loop-b-test.true)
    ∙ c.loop-b.invariant

pub returns : goal.returns
unfolding crc_of
returns c =
    record {
      value =
          ap (λ (r : ℕ). bit_xor r 0xFFFF_FFFF)
          (sym (at_drop_all (crc_from c.loop-b.c) c.args.bytes.now c.loop-b.b-index c.loop-b-test.false) ∙ c.loop-b.invariant);
      known = known_sums_lem;
    }
