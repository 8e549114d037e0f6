use Rattle.std.proofs.Common.{◌≡◌, ◌+◌, ◌*◌, [], get_or, arith, rules}
use Rattle.octets.proofs.Puts.{written_none, written_as, then_byte}
use Rattle.console.proofs.Digits.{pair_more, length_pairs}
use Rattle.console.specs.Hex.{pair_byte}
use Rattle.console.proofs.hex.Hex.write.Goals as goal

pub loop-high-init : goal.loop-high-init
loop-high-init c = written_none 0 c.args.out.now

pub loop-high-preserved : goal.loop-high-preserved
loop-high-preserved c =
    let b : c.value.result * 16 + c.value-in-loop-high.result ≡ pair_byte (get_or c.self.inside.pairs.now c.loop-high.high-index []) = search rules in
    written_as
    (rw b (pair_more c.self.inside.pairs.now c.loop-high.high-index c.loop-high-test.true))
    (then_byte _ c.loop-high.invariant (omega (arith, c.loop-high.invariant.place, length_pairs c.self.inside.pairs.now c.loop-high.high-index c.loop-high-test.true)) c.put_byte-at.ensures.wrote c.put_byte-at.ensures.next)
