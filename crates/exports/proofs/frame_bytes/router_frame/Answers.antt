use Rattle.std.proofs.Common.{◌≡◌, true, leb, sym, ap, subst, arith}
use Rattle.std.proofs.lemmas.Bool.{le-leb}
use Rattle.exports.specs.Verdicts.{again, verdict_of}
use Rattle.exports.proofs.Agains.{wrote_again}
use Rattle.exports.proofs.frame_bytes.router_frame.Goals as goal

pub returns-in-Ok : goal.returns-in-Ok
returns-in-Ok c =
    let few : leb c.args.n 64 ≡ true = le-leb _ _ (omega arith) in
    let e = c.in-Ok.ensures in
    let w = wrote_again _ c.args.out.now c.write_frame.new.out _ (omega arith) c.write_frame.ensures.wrote in
    record {
      verdict = rw few (ap verdict_of (sym e.reads));
      wrote = subst (λ b. c.write_frame.new.out ≡ again true b c.args.out.now) (sym e.only.0) w;
    }
