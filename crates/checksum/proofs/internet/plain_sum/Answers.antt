-- One turn is one word.
use Rattle.std.proofs.Common.{◌≡◌, ◌+◌, ◌*◌, ◌/◌, ◌<◌, ◌∙◌, [], ap, get_or, length, drop, refl, arith}
use Rattle.checksum.specs.Internet.{total}
use Rattle.checksum.proofs.Words.{chunk_at, total_two}
use Rattle.checksum.proofs.internet.plain_sum.Goals as goal

pub loop-word-preserved : goal.loop-word-preserved
loop-word-preserved c =
    let k = c.loop-word.word-index in
    let xs = c.args.piece.now in
    let n = c.as_chunks.ensures.front_len in
    let b : k < length xs / 2 = omega (arith, c.loop-word-test.true, n) in
    let w = ap (λ ws. get_or ws k []) c.as_chunks.ensures.front ∙ chunk_at (length xs / 2) k (2 * k) xs b (omega arith) refl in
    let f : c.from_be_bytes.result ≡ get_or xs (2 * k) 0 * 256 + get_or xs (2 * k + 1) 0 = c.from_be_bytes.ensures ∙ ap (λ z. get_or z 0 0 * 256 + get_or z 1 0) w in
    let t = total_two xs (2 * k) (omega arith) in
    let e : 2 * (k + 1) ≡ 2 * k + 2 = omega arith in
    let m : total (drop (2 * (k + 1)) xs) ≡ total (drop (2 * k + 2) xs) = ap (λ j. total (drop j xs)) e in
    let s = c.from-sum.ensures in
    let l = c.from_be_bytes.type_inv in
    (omega arith, omega arith)
