use Rattle.std.proofs.Common.{◌≡◌, sym, ◌∙◌, subst, arith}
use Rattle.octets.specs.Writes.{octets, put}
use Rattle.octets.proofs.Puts.{put_last, put_none}
use Rattle.octets.proofs.put_number.Goals as goal

pub loop-i-preserved : goal.loop-i-preserved
loop-i-preserved c = put_last c.args.at c.loop-i.i c.loop-i.high c.loop-i.out (omega arith) (omega arith) ∙ c.loop-i.invariant

pub returns-clause-wrote : goal.returns-clause-wrote
unfolding octets
returns-clause-wrote c =
    let z : c.loop-i.i ≡ 0 = omega arith in
    sym (put_none c.args.at c.loop-i.out)
    ∙ subst (λ i. put c.args.at (octets i c.loop-i.high) c.loop-i.out ≡ put c.args.at (octets c.args.width c.args.x) c.args.out.now) z c.loop-i.invariant
