use Rattle.std.proofs.Common.{◌≡◌, ◌≤◌, length, get_or, None, sym, ap, arith, rules}
use Rattle.std.specs.List.{flat_map}
use Rattle.messages.specs.declared.values.Word.{Word}
use Rattle.station.specs.Ticking.{item_of}
use Rattle.node.specs.Giving.{note_of}
use Rattle.node.specs.Hearing.{note_for}
use Rattle.node.specs.State.{whole_of}
use Rattle.node.proofs.Steps.{added_as, added_more, added_none, notes_more, notes_none, told_item}
use Rattle.node.proofs.state.Node.note_words.Goals as goal

pub loop-k-init : goal.loop-k-init
loop-k-init c = added_as 0 _ (added_none c.args.out.now) (omega arith) (sym (notes_none c.args.outcomes c.args.words.items c.args.tags (whole_of c.args.self.now)))

pub loop-k-preserved : goal.loop-k-preserved
loop-k-preserved c =
    let s = whole_of c.args.self.now in
    let four : length c.args.words.items ≡ 4 = search rules in
    let few : c.args.words.count ≤ length c.args.words.items = omega (arith, c.requires.1.0) in
    let same = told_item c.args.words.count c.loop-k.k c.args.words.items c.held-told.result.now _ c.held-told.ensures few c.loop-k-test.true in
    added_more _ _ c.loop-k.invariant
    (added_as 1 _ c.note_outcome.ensures (omega arith) (ap (λ (w : Word). flat_map (note_of s) (note_for (get_or c.args.outcomes c.loop-k.k None) (item_of w) (get_or c.args.tags c.loop-k.k 0) s)) same))
    (omega arith) (notes_more c.args.outcomes c.args.words.items c.args.tags s c.loop-k.k)
