use Rattle.std.proofs.Common.{◌≡◌, ◌<◌, length, take, replicate, Ok, ap, ◌∙◌, subst, arith}
use Rattle.std.proofs.lemmas.Result.{err_from_is_err_and}
use Rattle.std.proofs.lemmas.List.{take_more_set, take_all, length-take-le}
use Rattle.octets.specs.Reads.{many}
use Rattle.octets.proofs.Many.{many_none, many_more, many_stops}
use Rattle.wordframes.proofs.Filling.{four_read, four_stops}
use Rattle.wordframes.proofs.batch.four.Goals as goal

pub loop-item-init : goal.loop-item-init
loop-item-init g c = many_none (g.T.Item.reads c.args.n) c.args.reader.now.left.now

pub returns-in_err-item : goal.returns-in_err-item
returns-in_err-item g c =
    let p = g.T.Item.reads c.args.n in
    let bytes = c.args.reader.now.left.now in
    let q = err_from_is_err_and c.from_residual.result c.from_residual.ensures.1 in
    let l : length (take c.from.result (replicate 4 c.default-items.result)) ≡ c.from.result = length-take-le c.from.result (replicate 4 c.default-items.result) (omega (arith, c.from.ensures, c.requires.1)) in
    let lt : c.loop-item.item-index < c.args.count = omega (arith, l, c.from.ensures, c.loop-item.auto.item-items, c.loop-item-test.true) in
    rw (q.1, q.2) (four_stops p g.T.Item.blank c.args.count bytes _ (many_stops p bytes _ c.args.count c.loop-item.item-index _ _ c.loop-item.invariant c.in_err-item.ensures lt))

pub loop-item-preserved : goal.loop-item-preserved
loop-item-preserved g c =
    let i = c.loop-item.item-index in
    let lt : i < length c.loop-item.item-items = omega (arith, c.loop-item.auto.item-items, c.loop-item-test.true) in
    rw (take_more_set c.loop-item.item-items i c.in_ok-item.field-0 lt)
    (many_more (g.T.Item.reads c.args.n) c.args.reader.now.left.now i _ _ _ _ c.loop-item.invariant c.in_ok-item.ensures)

pub returns : goal.returns
returns g c =
    let p = g.T.Item.reads c.args.n in
    let bytes = c.args.reader.now.left.now in
    let xs = c.loop-item.item-items in
    let d = c.default-items.result in
    let l : length (take c.from.result (replicate 4 d)) ≡ c.from.result = length-take-le c.from.result (replicate 4 d) (omega (arith, c.from.ensures, c.requires.1)) in
    let long : c.args.count ≡ length xs = omega (arith, l, c.from.ensures, c.loop-item.auto.item-items) in
    let all : c.loop-item.item-index ≡ c.args.count = omega (arith, l, long, c.from.ensures, c.loop-item.auto.item-index-end, c.loop-item-test.false) in
    let h = subst (λ k. many k p bytes ≡ Ok (xs, c.loop-item.reader.left.now)) all (c.loop-item.invariant ∙ ap (λ ys. Ok (ys, c.loop-item.reader.left.now)) (take_all c.loop-item.item-index xs (omega (arith, all, long)))) in
    four_read p g.T.Item.blank d c.args.count c.from.result bytes c.loop-item.reader.left.now xs (g.met.T.Item.zeros d c.default-items.ensures) long c.from.ensures h
