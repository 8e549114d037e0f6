use Rattle.std.proofs.Common.{◌≡◌, take, ap, ◌∙◌, subst, arith, rules}
use Rattle.std.proofs.lemmas.List.{take_min}
use Rattle.octets.specs.Writes.{Wrote}
use Rattle.checksum.proofs.Bytes.{bytes_from}
use Rattle.packets.specs.Errors.{error_quoting}
use Rattle.packets.proofs.Going.{error_good_lem}
use Rattle.packets.proofs.packet_error.write_error.Goals as goal

pub returns-clause-wrote : goal.returns-clause-wrote
returns-clause-wrote c =
    let p = c.args.packet.now in
    let e : take c.min-quoted.result p ≡ take 28 p = ap (λ k. take k p) (c.min-quoted.ensures ∙ omega arith) ∙ take_min 28 p in
    subst (λ q. Wrote (error_quoting c.args.me c.args.trouble q) c.args.out.now c.put_error.result c.put_error.new.out) e c.put_error.ensures

pub returns-clause-good : goal.returns-clause-good
returns-clause-good c = error_good_lem c.args.me c.args.trouble c.args.packet.now (omega arith) (bytes_from c.args.packet.now (search rules))
