use Rattle.std.proofs.Common.{◌∷◌, ◌++◌, refl, ap, ◌∙◌, zero-add, arith, length-append}
use Rattle.octets.specs.Writes.{octets}
use Rattle.octets.proofs.Puts.{written_none, then_byte, then_number, then_bytes, written_as, length_octets}
use Rattle.frames.specs.Reading.{line_in}
use Rattle.frames.specs.Writing.{bytes_of_entry, bytes_of_line}
use Rattle.frames.proofs.Lines.{front_put, line_again_lem}
use Rattle.frames.proofs.line_bytes.write_line.Goals as goal

pub returns-then-out-entry_length : goal.returns-then-out-entry_length
returns-then-out-entry_length c =
    let l = length-append (octets 4 c.args.line.tick) (bytes_of_entry c.args.line.what) in
    record { wrote = (omega (arith, l, length_octets 4 c.args.line.tick, c.entry_length.ensures.known), refl); again = tt }

pub returns : goal.returns
returns c =
    let w1 = then_byte 5 (written_none 0 c.args.out.now) (omega arith) c.put_byte-at.ensures.wrote c.put_byte-at.ensures.next in
    let v = c.from.ensures in
    let w2 = then_number 4 c.from.result w1 (omega arith) c.put_number-at.ensures.wrote c.put_number-at.ensures.next in
    let w3 = then_bytes (bytes_of_entry c.args.line.what) w2 (omega arith) c.put_entry.ensures.wrote c.put_entry.ensures.next in
    let w = written_as (ap (λ t. 5 ∷ (octets 4 t ++ bytes_of_entry c.args.line.what)) v) w3 in
    record {
      wrote = (w.place ∙ zero-add _, w.is);
      again = λ n few r rest. ap (λ z. line_in n (z ++ rest)) (front_put _ (bytes_of_line c.args.line) c.args.out.now _ (w.place ∙ zero-add _) w.is) ∙ line_again_lem n c.args.line r rest;
    }
