-- One turn is a piece of whole words or the last, folded.
use Rattle.std.proofs.Common.{ℕ, ◌+◌, ◌∙◌, sym, subst, arith}
use Rattle.checksum.specs.Internet.{Leaves, total}
use Rattle.checksum.proofs.Folds.{leaves_fold}
use Rattle.checksum.proofs.Words.{left_piece, left_end}
use Rattle.checksum.proofs.internet.ones_sum.Goals as goal

pub loop-piece-preserved : goal.loop-piece-preserved
loop-piece-preserved c =
    let e = c.in-Some.ensures.steps in (
      omega arith,
      e.0 ∙ c.loop-piece.invariant.1,
      left_piece (total c.args.bytes.now) c.loop-piece.piece-iterator.rest.now c.in-Some.piece.now c.next.new.self.rest.now
          c.loop-piece.piece-iterator.size c.loop-piece.sum c.plain_sum.result c.fold-sum.result
          c.loop-piece.invariant.1 e.1.0 e.1.1 c.plain_sum.ensures.value
          (subst (λ (r : ℕ). Leaves (c.loop-piece.sum + c.plain_sum.result) r) (sym c.fold-sum.ensures)
          (leaves_fold (c.loop-piece.sum + c.plain_sum.result)))
          c.loop-piece.invariant.2,
    )

pub returns : goal.returns
returns c =
    left_end c.args.bytes.now c.loop-piece.piece-iterator.rest.now c.loop-piece.sum c.folded.result
    (λ k. (c.type_inv.bytes k).fits) c.in-None.ensures.steps.1.0
    c.loop-piece.invariant.2 c.folded.ensures c.folded.type_inv
