use Rattle.std.proofs.Common.{◌≡◌, ◌*◌, ◌/◌, true, map, length, refl, arith, rules}
use Rattle.console.proofs.Digits.{chunked}
use Rattle.console.specs.Hex.{pair_byte, bytes_of, is_hex}
use Rattle.console.proofs.hex.Hex.read.Goals as goal

pub returns : goal.returns
returns c =
    let even : length c.args.digits.now ≡ length c.args.digits.now / 2 * 2 = omega arith in
    let e : map pair_byte c.as_chunks.result.0.now ≡ bytes_of c.args.digits.now = rw c.as_chunks.ensures.front (chunked (length c.args.digits.now / 2) c.args.digits.now even) in
    let h : is_hex c.args.digits.now ≡ true = search rules in
    rw (h, e) refl
