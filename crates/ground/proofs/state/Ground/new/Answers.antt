use Rattle.ground.specs.Wires.{place_of}
use Rattle.ground.proofs.Cleared.{all_none, all_zero}
use Rattle.ground.proofs.state.Ground.new.Goals as goal

pub returns-clause-joined : goal.returns-clause-joined
returns-clause-joined c = λ a w. all_none 512 (place_of a w)

pub returns-clause-losing : goal.returns-clause-losing
returns-clause-losing c = λ a w. all_zero 512 (place_of a w)
