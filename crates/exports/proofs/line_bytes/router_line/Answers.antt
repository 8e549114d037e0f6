use Rattle.std.proofs.Common.{◌≡◌, true, ltb, length, take, sym, ap, ◌∙◌, subst, arith}
use Rattle.std.proofs.lemmas.Bool.{lt-ltb}
use Rattle.frames.specs.Writing.{bytes_of_line}
use Rattle.exports.specs.Verdicts.{again, line_length}
use Rattle.exports.proofs.Agains.{short_line, taken_length, wrote_again}
use Rattle.exports.proofs.line_bytes.router_line.Goals as goal

pub returns-in-Ok : goal.returns-in-Ok
returns-in-Ok c =
    let e = c.in-Ok.ensures in
    let short : ltb c.in-Ok.length 256 ≡ true = lt-ltb _ _ (omega (arith, e.long, short_line c.args.n c.in-Ok.line e.only.1)) in
    let k : c.in-Ok.length ≡ length (take c.in-Ok.length c.args.bytes.now) = e.long ∙ ap length (sym e.only.0) in
    let w = wrote_again (bytes_of_line c.in-Ok.line) c.args.out.now c.write_line.new.out _ (omega arith) c.write_line.ensures.wrote in
    record {
      answer = taken_length c.args.bytes.now c.in-Ok.length k ∙ ap (line_length c.args.bytes.now) (sym e.reads);
      wrote = rw short (subst (λ b. c.write_line.new.out ≡ again true b c.args.out.now) (sym e.only.0) w);
    }
