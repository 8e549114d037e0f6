use Rattle.std.proofs.Common.{◌<◌, ◌≤◌, length, arith}
use Rattle.octets.proofs.Puts.{written_none, then_bytes, written_as}
use Rattle.wordframes.proofs.Lengths.{joined_one, within_all}
use Rattle.wordframes.proofs.batch.put_all.Goals as goal

pub loop-item-init : goal.loop-item-init
loop-item-init g c = written_none c.args.at c.args.out.now

pub put-next-requires : goal.put-next-requires
put-next-requires g c =
    omega (arith, within_all g.T.Item.bytes c.args.items.now c.loop-item.item-index c.item-item.result (omega arith) c.item-item.is, c.loop-item.invariant.place, c.requires)

pub loop-item-preserved : goal.loop-item-preserved
loop-item-preserved g c =
    let w = g.T.Item.bytes in
    let xs = c.args.items.now in
    let i = c.loop-item.item-index in
    let x = c.item-item.result in
    let lt : i < length xs = omega arith in
    let le : c.loop-item.next ≤ length c.args.out.now = omega (arith, within_all w xs i x lt c.item-item.is, c.loop-item.invariant.place, c.requires) in
    written_as (joined_one w xs i x lt c.item-item.is) (then_bytes (w x) c.loop-item.invariant le c.put-next.ensures.wrote c.put-next.ensures.next)
