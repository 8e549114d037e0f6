use Rattle.std.proofs.Common.{◌≡◌, ◌+◌, [], ◌∷◌, ◌++◌, length, ap, ◌∙◌, append_assoc, arith}
use Rattle.octets.proofs.Puts.{written_none, then_byte, then_bytes, written_as}
use Rattle.wordframes.specs.Writing.{bytes_of_id, bytes_of_roads}
use Rattle.wordframes.proofs.Lengths.{length_id}
use Rattle.wordframes.proofs.Roads.{length_word, length_roads}
use Rattle.wordframes.proofs.words_bytes.put_word.Goals as goal

pub put_id-at-requires : goal.put_id-at-requires
put_id-at-requires c = omega (arith, length_word c.args.word, c.requires)

pub put_byte-at-requires : goal.put_byte-at-requires
put_byte-at-requires c = omega (arith, length_word c.args.word, c.requires, c.put_id-at.ensures.next)

pub put_roads-requires : goal.put_roads-requires
put_roads-requires c = omega (arith, length_word c.args.word, c.requires, c.put_id-at.ensures.next, c.put_byte-at.ensures.next)

pub returns : goal.returns
returns c =
    let l = length_word c.args.word in
    let n1 : c.put_id-at.result ≡ c.args.at + length (bytes_of_id c.args.word.id) = omega (arith, length_id c.args.word.id, c.put_id-at.ensures.next) in
    let w1 = then_bytes (bytes_of_id c.args.word.id) (written_none c.args.at c.args.out.now) (omega (arith, l, c.requires)) c.put_id-at.ensures.wrote n1 in
    let w2 = then_byte c.road_count.result w1 (omega (arith, l, c.requires, c.put_id-at.ensures.next)) c.put_byte-at.ensures.wrote c.put_byte-at.ensures.next in
    let n3 : c.put_roads.result ≡ c.put_byte-at.result + length (bytes_of_roads c.args.word.costs) = omega (arith, length_roads c.args.word.costs, c.put_roads.ensures.next) in
    let w3 = then_bytes (bytes_of_roads c.args.word.costs) w2 (omega (arith, l, c.requires, c.put_id-at.ensures.next, c.put_byte-at.ensures.next)) c.put_roads.ensures.wrote n3 in
    let w =
    written_as
    (append_assoc (bytes_of_id c.args.word.id) (c.road_count.result ∷ []) (bytes_of_roads c.args.word.costs)
    ∙ ap (λ k. bytes_of_id c.args.word.id ++ (k ∷ bytes_of_roads c.args.word.costs)) c.road_count.ensures)
    w3 in
    record { next = w.place; wrote = w.is }
