use Rattle.std.proofs.Common.{arith}
use Rattle.octets.proofs.Puts.{written_none, then_byte, then_number}
use Rattle.wordframes.proofs.id_bytes.put_id.Goals as goal

pub returns : goal.returns
returns c =
    let w1 = then_byte c.args.id.about (written_none c.args.at c.args.out.now) (omega arith) c.put_byte-at.ensures.wrote c.put_byte-at.ensures.next in
    let w2 = then_number 8 c.args.id.count w1 (omega arith) c.put_number-at.ensures.wrote c.put_number-at.ensures.next in
    let w3 = then_number 8 c.args.id.tag w2 (omega arith) c.put_number.ensures.wrote c.put_number.ensures.next in
    record { next = omega (arith, c.put_byte-at.ensures.next, c.put_number-at.ensures.next, c.put_number.ensures.next); wrote = w3.is }
