use Rattle.std.proofs.Common.{◌≡◌}
use Rattle.octets.specs.Writes.{octets, put}
use Rattle.octets.proofs.put_number.Given as goal

-- what is still to write makes it whole
abbrev pub invariant-loop-i : goal.invariant-loop-i
invariant-loop-i l = put l.at (octets l.i l.high) l.out ≡ put l.at (octets l.width l.x) l.initial.out
