-- Two folds bring it down to 16 bits.
use Rattle.std.proofs.Common.{ℕ, sym, subst, arith}
use Rattle.checksum.specs.Internet.{Leaves}
use Rattle.checksum.proofs.Folds.{leaves_on, leaves_fold}
use Rattle.checksum.proofs.internet.folded.Goals as goal

pub returns : goal.returns
returns c =
    leaves_on c.args.sum c.fold.result c.fold-2.result
    (subst (λ (r : ℕ). Leaves c.args.sum r) (sym c.fold.ensures) (leaves_fold c.args.sum))
    (subst (λ (r : ℕ). Leaves c.fold.result r) (sym c.fold-2.ensures) (leaves_fold c.fold.result))
