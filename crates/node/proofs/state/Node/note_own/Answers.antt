use Rattle.std.proofs.Common.{ap, arith}
use Rattle.router.specs.State.{box_of}
use Rattle.node.specs.Book.{Said}
use Rattle.node.specs.Giving.{note_of}
use Rattle.node.specs.State.{whole_of}
use Rattle.node.proofs.Steps.{added_as}
use Rattle.node.proofs.Written.{own_item_lem}
use Rattle.node.proofs.state.Node.note_own.Goals as goal

pub returns : goal.returns
returns c =
    let about = rw c.unwrap-word.ensures at c.word.ensures.about in
    let is = rw c.unwrap-word.ensures at c.word.ensures.is in
    added_as 1 _ c.note.ensures (omega arith)
    (ap (λ x. note_of (whole_of c.args.self.now) (Said x)) (own_item_lem c.unwrap-word.result (box_of c.router-router.result) (whole_of c.args.self.now) c.box_number.result c.router-router.ensures c.box_number.ensures about is))
