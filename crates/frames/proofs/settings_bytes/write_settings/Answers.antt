use Rattle.std.proofs.Common.{◌≡◌, ◌+◌, length, refl, ap, ◌∙◌, zero-add, arith}
use Rattle.octets.proofs.Puts.{written_none, then_byte, then_bytes}
use Rattle.frames.specs.Writing.{bytes_of_settings, bytes_of_wires}
use Rattle.frames.specs.Reading.{settings_in, value_in}
use Rattle.frames.proofs.Lines.{front_put}
use Rattle.frames.proofs.Whole.{length_wires, settings_again_lem}
use Rattle.frames.proofs.settings_bytes.write_settings.Goals as goal

pub returns-then-out-lt19 : goal.returns-then-out-lt19
returns-then-out-lt19 c =
    let l : length c.args.settings.costs ≡ 8 = omega arith in
    record { wrote = (omega (arith, length_wires c.args.settings.costs), refl); again = tt }

pub returns : goal.returns
returns c =
    let l : length c.args.settings.costs ≡ 8 = omega arith in
    let w1 = then_byte 6 (written_none 0 c.args.out.now) (omega arith) c.put_byte-at.ensures.wrote c.put_byte-at.ensures.next in
    let w2 = then_byte c.args.settings.boxes w1 (omega arith) c.put_byte-at-2.ensures.wrote c.put_byte-at-2.ensures.next in
    let w3 = then_byte c.args.settings.me w2 (omega arith) c.put_byte-at-3.ensures.wrote c.put_byte-at-3.ensures.next in
    let n : c.put_wires.result ≡ c.put_byte-at-3.result + length (bytes_of_wires c.args.settings.costs) = omega (arith, length_wires c.args.settings.costs, c.put_wires.ensures.next) in
    let w4 = then_bytes (bytes_of_wires c.args.settings.costs) w3 (omega arith) c.put_wires.ensures.wrote n in
    record {
      wrote = (w4.place ∙ zero-add _, w4.is);
      again = λ r. ap (λ bytes. value_in (settings_in bytes)) (front_put _ (bytes_of_settings c.args.settings) c.args.out.now _ (w4.place ∙ zero-add _) w4.is) ∙ settings_again_lem c.args.settings r;
    }
