-- What holds in every run of a net of whole boxes on wires.
use Rattle.std.proofs.Common.{◌≡◌, ℕ, true, List, Some}
use Rattle.linkmodel.specs.Station.{teller}
use Rattle.linkmodel.specs.Calls.{Joined}
use Rattle.linkmodel.specs.Telling.{KeepsShown}
use Rattle.linkmodel.proofs.Hearers.{teller_heard}
use Rattle.netmodel.specs.Net.{Sent, Move, net, Start, sent_nth, is_there}
use Rattle.netmodel.specs.Standing.{WiresJoin, ShownMeans}
use Rattle.netmodel.specs.Fits.{FramesFit}
use Rattle.netmodel.specs.Quiet.{ShownStays}
use Rattle.netmodel.proofs.Moving.{over_move}
use Rattle.netmodel.proofs.Keeping.{all_keep_shown}
use Rattle.netmodel.proofs.Placing.{placed_in_run}
use Rattle.netmodel.proofs.Wiring.{SentOver, of_place, wired}
use Rattle.netmodel.proofs.Runs.{lawful}
use Rattle.netmodel.proofs.Fitted.{frames_fit_lem}

-- wires are joined both ways, and only who is at the other end was heard
pub wires_join : WiresJoin
wires_join n first ms s a w p e =
    let k = (wired n first ms).plugs a w p e in
    ((k.box, k.wire, k.other, k.end, k.back), λ f h. (lawful n first ms).heard a w f p e h)

-- what is sent fits into frames
pub frames_fit : FramesFit
frames_fit = frames_fit_lem

-- what is shown isn't newer than what who has shown it has
pub shown_means : ShownMeans
shown_means n first ms a e i an en h l = (lawful n first ms).shows a e i h l

-- what is shown stays so over every move
pub shown_stays : ShownStays
shown_stays = over_move KeepsShown all_keep_shown

-- a wire that is still there is just the one over which a frame was sent
pub same_plug : (n : ℕ) (first : ℕ → ℕ) (ms : List Move) → Start n first → (k : ℕ) (f : Sent) → sent_nth k (net n first ms).sent ≡ Some f → is_there ((net n first ms).joined f.by f.on) f.over ≡ true → (net n first ms).joined f.by f.on ≡ Some f.over
same_plug n first ms s k f e t = (of_place (SentOver (net n first ms).joined (net n first ms).laid) k f (net n first ms).sent (wired n first ms).sends e).1 t

-- and who is known at its other end is who sent it
pub teller_sent : (n : ℕ) (first : ℕ → ℕ) (ms : List Move) → Start n first → (k e : ℕ) (f : Sent) → sent_nth k (net n first ms).sent ≡ Some f → is_there ((net n first ms).joined f.by f.on) f.over ≡ true →
    teller f.over.on ((net n first ms).at f.over.at).links ≡ Some e → e ≡ f.by
teller_sent n first ms s k e f i t h =
    let p = (wired n first ms).plugs f.by f.on f.over (same_plug n first ms s k f i t) in
    (lawful n first ms).heard f.over.at f.over.on e (record { at = f.by; on = f.on; laid = f.over.laid }) p.back (teller_heard f.over.on ((net n first ms).at f.over.at).links e h)

-- each box's number is its place, and its roads are those of its wires
pub record Placed (n : ℕ) (first : ℕ → ℕ) (ms : List Move) (a : ℕ) : Type 0 where
  pub count : ((net n first ms).at a).box.n ≡ n
  pub number : ((net n first ms).at a).box.me ≡ a
  pub joined : Joined ((net n first ms).at a)

-- so it is with each in every run
pub placed : (n : ℕ) (first : ℕ → ℕ) (ms : List Move) (a : ℕ) → Start n first → Placed n first ms a
placed n first ms a s = let k = placed_in_run n first ms a in record { count = k.count; number = k.number; joined = k.joined }
