use Rattle.std.proofs.Common.{◌≡◌, ◌+◌, ◌-◌, length, ◌∙◌, arith, length-drop, length-take, rules}
use borrow.Rule.Slice.PartMut.{mid_of}
use Rattle.frames.specs.Writing.{bytes_of_line}
use Rattle.outbox.proofs.InPlace.{in_place, line_small}
use Rattle.outbox.proofs.Sealing.{same_parcel}
use Rattle.outbox.proofs.state.Outbox.note.Goals as goal

-- there is always room for it
pub returns-in_default : goal.returns-in_default
returns-in_default c =
    let l : length c.args.self.now.bytes ≡ 65536 = search rules in
    let m : length (mid_of (c.args.self.now.used + 3) (65536 - (c.args.self.now.used + 3)) c.args.self.now.bytes) ≡ 65536 - (c.args.self.now.used + 3) = simp (length-take, length-drop) (omega arith) in
    absurd (omega (arith, c.in_default.ensures.wrote.0, line_small c.args.line, c.requires))

pub close-requires : goal.close-requires
close-requires c = omega (arith, c.in-Some.ensures.wrote.0, line_small c.args.line, c.requires)

pub returns : goal.returns
returns c =
    let l : length c.args.self.now.bytes ≡ 65536 = search rules in
    let b = in_place c.args.self.now.bytes c.write_line.new.out (bytes_of_line c.args.line) c.args.self.now.used (c.args.self.now.used + 3) c.in-Some.k (omega (arith, c.requires)) l (omega arith)
    c.in-Some.ensures.wrote c.write_line.auto.out in
    record {
      holds = c.close.ensures.holds ∙ same_parcel 9 b.front b.body;
      used = omega (arith, c.close.ensures.used, c.in-Some.ensures.wrote.0, line_small c.args.line);
    }
