use Rattle.std.proofs.Common.{◌≡◌, Some, sym, ap, ◌∙◌, arith}
use Rattle.std.specs.Result.{result_ok}
use Rattle.packets.specs.Errors.{trouble_of}
use Rattle.exports.proofs.Agains.{wrote_again, wrote_fitting}
use Rattle.exports.proofs.packet_bytes.router_write_error.Goals as goal

pub returns-clause-long : goal.returns-clause-long
returns-clause-long c =
    let e : trouble_of c.args.kind ≡ Some c.in-Ok.trouble = sym c.try_from.ensures ∙ ap result_ok c.in-Ok.is in
    rw e (c.unwrap_or.ensures ∙ wrote_fitting _ c.args.out.now c.write_error.new.out _ (omega arith) c.write_error.ensures.wrote)

pub returns-clause-left : goal.returns-clause-left
returns-clause-left c =
    let e : trouble_of c.args.kind ≡ Some c.in-Ok.trouble = sym c.try_from.ensures ∙ ap result_ok c.in-Ok.is in
    rw e (wrote_again _ c.args.out.now c.write_error.new.out _ (omega arith) c.write_error.ensures.wrote)
