use Rattle.std.proofs.Common.{◌≡◌, ◌+◌, length, ap, ◌∙◌, arith, rules}
use Rattle.frames.specs.Ranges.{bytes_of_frame}
use Rattle.frames.specs.Reading.{told_by}
use Rattle.outbox.specs.Parcels.{sealed}
use Rattle.outbox.proofs.InPlace.{in_place}
use Rattle.outbox.proofs.Sealing.{same_parcel}
use Rattle.outbox.proofs.state.Outbox.give.Goals as goal

pub returns : goal.returns
returns c =
    let l : length c.args.self.now.bytes ≡ 65536 = search rules in
    let b = in_place c.args.self.now.bytes c.write_frame.new.out (bytes_of_frame (told_by c.args.frame)) c.args.self.now.used (c.args.self.now.used + 3) c.in-Some.k (omega (arith, c.requires.0)) l (omega arith)
    c.in-Some.ensures.wrote c.write_frame.auto.out in
    record {
      holds = c.seal.ensures.holds ∙ same_parcel c.args.wire b.front (ap sealed b.body);
      used = omega (arith, c.seal.ensures.used, c.in-Some.ensures.wrote.0, c.requires.1);
    }
