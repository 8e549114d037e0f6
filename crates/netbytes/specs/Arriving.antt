-- What the bytes of a frame do to a box when they come over a wire. A proof of FramesArrive is the theorem. Assumes nothing.
use Rattle.std.specs.Prelude.{◌≡◌, ℕ, ◌<◌, ◌≤◌, true, List, [], ◌++◌, length, None, Ok}
use Rattle.std.specs.List.{flat_map}
use Rattle.checksum.specs.Crc.{SumFits}
use Rattle.checksum.specs.Refused.{body_of}
use Rattle.frames.specs.Reading.{Told, frame_in}
use Rattle.linkmodel.specs.Calls.{Joined}
use Rattle.linkmodel.specs.Station.{Frame, Greets, Tells, Shows, Out, Station as Whole, heard_hello, teller}
use Rattle.netmodel.specs.Fits.{FrameFits}
use Rattle.node.specs.Book.{Note}
use Rattle.node.specs.Giving.{note_of}
use Rattle.node.specs.Hearing.{Handled, by_frame}
use Rattle.node.specs.Wires.{frame_bytes, out_bytes}
use Rattle.outbox.specs.Parcels.{sealed}
use Rattle.packets.specs.declared.error_quota.Quota.{Quota}
use Rattle.station.specs.Hearing.{answers_from, words_from}
use Rattle.station.specs.Packets.{seens_from}

-- a frame as it goes over a wire, with its sum
abbrev pub wire_bytes : Frame → List ℕ
wire_bytes f = sealed (frame_bytes f)

-- what a box becomes when a frame comes on wire w,
abbrev pub after_frame : ℕ → Frame → List ℕ → Whole → Whole
after_frame w (Greets h) ts s = heard_hello w h s
after_frame w (Tells p) ts s = words_from (teller w s.links) p ts s
after_frame w (Shows p) ts s = seens_from (teller w s.links) p s

-- and what it then sends; s is the box after it
abbrev pub sent_after : ℕ → Frame → Whole → List Out
sent_after w (Greets h) s = []
sent_after w (Tells p) s = answers_from (teller w s.links) p s
sent_after w (Shows p) s = []

-- lines for the journal, and then these frames
pub record Gives (s : Whole) (outs : List Out) (given : List ℕ) : Type 0 where
  pub notes : List Note
  pub is : given ≡ flat_map (note_of s) notes ++ flat_map out_bytes outs

-- the bytes of a frame were handled as the frame
pub record HandledAs (w : ℕ) (f : Frame) (ts : List ℕ) (s : Whole) (q : Quota) (h : Handled) : Type 0 where
  pub whole : h.whole ≡ after_frame w f ts s
  pub gives : Gives s (sent_after w f (after_frame w f ts s)) h.gives
  pub errors : h.errors ≡ q
  pub left : h.frame ≡ wire_bytes f
  pub goes : h.goes ≡ None

-- only boxes to which a road is open have shown anything
abbrev pub ShownOpen : Whole → Type 0
ShownOpen s = (e i : ℕ) → s.box.shown e i ≡ true → 0 < s.box.cost e

-- The bytes of a frame that fits are read as it, by any box, and do what it does.
abbrev pub FramesArrive : Type 0
FramesArrive =
    (f : Frame) (w : ℕ) (ts : List ℕ) (s : Whole) (q : Quota) → Joined s → ShownOpen s → s.links.n ≤ 64 → FrameFits s.links.n f → length ts ≡ 4 →
    SumFits (wire_bytes f) × ((t : Told) × (frame_in s.links.n (body_of (wire_bytes f)) ≡ Ok t) × HandledAs w f ts s q (by_frame w (Ok t) ts s q (wire_bytes f)))
