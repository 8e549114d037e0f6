use Rattle.std.proofs.Common.{ap, ◌∙◌, zero-add, arith}
use Rattle.octets.proofs.Puts.{written_none, then_byte, then_bytes}
use Rattle.frames.specs.Ranges.{bytes_of_frame}
use Rattle.frames.specs.Reading.{a_packet, frame_in}
use Rattle.frames.proofs.Lines.{front_put}
use Rattle.frames.proofs.Whole.{frame_again_lem}
use Rattle.frames.proofs.frame_bytes.write_packet.Goals as goal

pub returns : goal.returns
returns c =
    let w1 = then_byte 4 (written_none 0 c.args.out.now) (omega arith) c.put_byte-at.ensures.wrote c.put_byte-at.ensures.next in
    let w2 = then_bytes c.args.bytes.now w1 (omega arith) c.put_bytes.ensures.wrote c.put_bytes.ensures.next in
    record {
      wrote = (w2.place ∙ zero-add _, w2.is);
      again = λ n few r. ap (frame_in n) (front_put _ (bytes_of_frame (a_packet c.args.bytes.now)) c.args.out.now _ (w2.place ∙ zero-add _) w2.is) ∙ frame_again_lem n few (a_packet c.args.bytes.now) r;
    }
