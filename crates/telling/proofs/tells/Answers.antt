-- The lowest four of what it has and that box hasn't shown.
use Rattle.std.proofs.Common.{ℕ, not, ◌&&◌, List, length, ap, ◌∙◌}
use Rattle.bits.specs.Bits.{bit, padded}
use Rattle.router.specs.State.{box_of}
use Rattle.telling.proofs.Lowest.{tells_lowest}
use Rattle.telling.proofs.tells.Goals as goal

pub returns : goal.returns
returns c =
    let is =
    tells_lowest c.args.to c.had.result c.without.result (box_of c.args.router) c.args.router.few c.had.ensures
    (λ j. c.without.ensures j ∙ ap (λ b. bit c.had.result j && not b) (c.shown_by.ensures j)) in
    record { count = c.lowest_four.ensures.count ∙ ap (λ (ps : List ℕ). length ps) is; items = c.lowest_four.ensures.items ∙ ap (padded 4) is }
