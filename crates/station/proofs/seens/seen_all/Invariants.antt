-- What is left to see, by what it is now, leads to the same.
use Rattle.std.proofs.Common.{◌≡◌, drop}
use Rattle.router.specs.State.{box_of}
use Rattle.station.specs.Packets.{is_out, is_spent}
use Rattle.station.proofs.Scans.{NonePass}
use Rattle.station.proofs.Seeing.{SameRoads, sees_from}
use Rattle.station.proofs.seens.seen_all.Given as goal

abbrev pub invariant-loop-id : goal.invariant-loop-id
invariant-loop-id l =
    (sees_from l.from 0 l.shown (box_of l.initial.next) ≡ sees_from l.from l.id-index l.shown (box_of l.next))
    × SameRoads (box_of l.initial.next) (box_of l.next) × NonePass (is_out (box_of l.initial.next).n) (drop l.id-index l.shown) × NonePass is_spent (drop l.id-index l.shown)
