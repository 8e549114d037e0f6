-- The boxes of a list, by their places. Assumes nothing.
use Rattle.std.specs.Prelude.{ℕ, zero, suc, List, [], ◌∷◌}
use Rattle.linkmodel.specs.Station.{Station as Whole, station}
use Rattle.node.specs.State.{whole_of}
use Rattle.node.specs.declared.state.Node.{Node}
use Rattle.packets.specs.Quotas.{unspent}
use Rattle.packets.specs.declared.error_quota.Quota.{Quota}

-- the box at a place; past the end one without wires, of no boxes
unfoldable pub whole_at : List Node → ℕ → Whole
whole_at [] a = station 0 0 0
whole_at (b ∷ bs) zero = whole_of b
whole_at (b ∷ bs) (suc a) = whole_at bs a

-- the errors that it made in this second; past the end none
unfoldable pub errors_at : List Node → ℕ → Quota
errors_at [] a = unspent
errors_at (b ∷ bs) zero = b.quota
errors_at (b ∷ bs) (suc a) = errors_at bs a
