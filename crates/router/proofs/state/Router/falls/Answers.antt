-- A box that fell is as it was when it was switched on.
use Rattle.std.proofs.Common.{◌∷◌, ◌++◌}
use Rattle.model.specs.Box.{closings}
use Rattle.model.specs.Words.{Falls}
use Rattle.model.proofs.Falling.{fall_so_lem}
use Rattle.router.specs.State.{box_of}
use Rattle.router.proofs.Stood.{stands_as_lem}
use Rattle.router.proofs.state.Router.falls.Goals as goal

pub returns : goal.returns
returns c =
    let s = box_of c.args.self in
    record { is = c.blank.ensures; so = λ es st. stands_as_lem (Falls s.me ∷ (closings s s.n ++ es)) c.blank.ensures (fall_so_lem s es st) }
