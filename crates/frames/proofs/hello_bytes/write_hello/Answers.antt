use Rattle.std.proofs.Common.{refl, ap, ◌∙◌, zero-add, arith, length-append}
use Rattle.octets.proofs.Puts.{written_none, then_byte, then_number, length_octets}
use Rattle.frames.specs.Ranges.{bytes_of_frame}
use Rattle.frames.specs.Reading.{a_hello, frame_in}
use Rattle.frames.proofs.Lines.{front_put}
use Rattle.frames.proofs.Whole.{frame_again_lem}
use Rattle.frames.proofs.hello_bytes.write_hello.Goals as goal

pub returns-then-out-lt18 : goal.returns-then-out-lt18
returns-then-out-lt18 c = record { wrote = (simp (length-append, length_octets) (omega arith), refl); again = tt }

pub returns : goal.returns
returns c =
    let w1 = then_byte 1 (written_none 0 c.args.out.now) (omega arith) c.put_byte-at.ensures.wrote c.put_byte-at.ensures.next in
    let w2 = then_byte c.args.hello.from w1 (omega arith) c.put_byte-at-2.ensures.wrote c.put_byte-at-2.ensures.next in
    let w3 = then_number 8 c.args.hello.drawn w2 (omega arith) c.put_number-at.ensures.wrote c.put_number-at.ensures.next in
    let w4 = then_number 8 c.args.hello.heard w3 (omega arith) c.put_number-at-2.ensures.wrote c.put_number-at-2.ensures.next in
    record {
      wrote = (w4.place ∙ zero-add _, w4.is);
      again = λ n few r. ap (frame_in n) (front_put _ (bytes_of_frame (a_hello c.args.hello)) c.args.out.now _ (w4.place ∙ zero-add _) w4.is) ∙ frame_again_lem n few (a_hello c.args.hello) r;
    }
