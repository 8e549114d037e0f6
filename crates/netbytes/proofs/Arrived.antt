-- The bytes of a frame that fits have a right sum, are read as it by any box, and do what it does.
use Rattle.std.proofs.Common.{ℕ, ◌≤◌, List, Ok}
use Rattle.linkmodel.specs.Calls.{Joined}
use Rattle.linkmodel.specs.Station.{Frame, Greets, Shows, Station as Whole, Tells}
use Rattle.netmodel.specs.Fits.{FrameFits}
use Rattle.node.specs.Hearing.{by_frame}
use Rattle.node.specs.Wires.{frame_bytes}
use Rattle.packets.specs.declared.error_quota.Quota.{Quota}
use Rattle.netbytes.proofs.AsRead.{read_as, sealed_fits, told_of}
use Rattle.netbytes.proofs.GreetsAs.{greets_as}
use Rattle.netbytes.proofs.PacketsAs.{shows_as, tells_as}
use Rattle.netbytes.specs.Arriving.{FramesArrive, HandledAs, ShownOpen, wire_bytes}

handled_as : (f : Frame) (w : ℕ) (ts : List ℕ) (s : Whole) (q : Quota) → Joined s → ShownOpen s → s.links.n ≤ 64 → FrameFits s.links.n f → HandledAs w f ts s q (by_frame w (Ok (told_of f)) ts s q (wire_bytes f))
handled_as (Greets h) w ts s q j o few k = greets_as h w ts s q j o
handled_as (Tells p) w ts s q j o few k = tells_as p w ts s q j few k
handled_as (Shows p) w ts s q j o few k = shows_as p w ts s q j k

-- each frame arrives
pub frames_arrive : FramesArrive
frames_arrive f w ts s q j o few k long = (sealed_fits (frame_bytes f), (told_of f, read_as s.links.n f few k, handled_as f w ts s q j o few k))
