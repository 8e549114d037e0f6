use Rattle.std.proofs.Common.{◌≡◌, true, sym, ap, subst, arith}
use Rattle.frames.specs.Writing.{bytes_of_settings}
use Rattle.exports.specs.Verdicts.{again, verdict_of}
use Rattle.exports.proofs.Agains.{wrote_again}
use Rattle.exports.proofs.settings_bytes.router_settings.Goals as goal

pub returns-in-Ok : goal.returns-in-Ok
returns-in-Ok c =
    let e = c.in-Ok.ensures in
    let w = wrote_again (bytes_of_settings c.in-Ok.settings) c.args.out.now c.write_settings.new.out _ (omega arith) c.write_settings.ensures.wrote in
    record {
      verdict = ap verdict_of e.reads;
      wrote = subst (λ b. c.write_settings.new.out ≡ again true b c.args.out.now) (sym e.only.0) w;
    }
