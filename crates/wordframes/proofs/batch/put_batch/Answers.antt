use Rattle.std.proofs.Common.{[], ◌∷◌, refl, sym, ap, ◌∙◌, append_assoc, zero-add, arith}
use Rattle.std.specs.List.{flat_map}
use Rattle.octets.specs.Writes.{octets}
use Rattle.octets.proofs.Puts.{written_none, then_byte, then_number, then_bytes, written_as}
use Rattle.wordframes.proofs.Lengths.{length_row}
use Rattle.wordframes.proofs.batch.put_batch.Goals as goal

pub returns-then-out-size_of_all : goal.returns-then-out-size_of_all
returns-then-out-size_of_all g c = rw (sym c.held-items.ensures) (omega (arith, length_row g.T.Item.bytes c.args.packet.drawn c.args.packet.count c.held-items.result.now, c.size_of_all.ensures.known), refl)

pub returns : goal.returns
returns g c =
    let w1 = then_byte c.args.kind (written_none 0 c.args.out.now) (omega arith) c.put_byte-at.ensures.wrote c.put_byte-at.ensures.next in
    let w2 = then_number 8 c.args.packet.drawn w1 (omega arith) c.put_number-at.ensures.wrote c.put_number-at.ensures.next in
    let w3 = then_byte c.args.packet.count w2 (omega arith) c.put_byte-at-2.ensures.wrote c.put_byte-at-2.ensures.next in
    let w4 = then_bytes (flat_map g.T.Item.bytes c.held-items.result.now) w3 (omega arith) c.put_all.ensures.wrote c.put_all.ensures.next in
    let w = written_as (ap (λ z. c.args.kind ∷ z) (append_assoc (octets 8 c.args.packet.drawn) (c.args.packet.count ∷ []) _)) w4 in
    rw (sym c.held-items.ensures) (w.place ∙ zero-add _, w.is)
