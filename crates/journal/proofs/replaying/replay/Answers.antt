-- Each turn notes one line, or is the last.
use Rattle.std.proofs.Common.{◌≡◌, drop, Some, None, Err, Option, ap, ◌∙◌}
use Rattle.octets.specs.declared.Fault.{Fault}
use Rattle.journal.specs.Replay.{Replayed, replay}
use Rattle.journal.specs.State.{known_by}
use Rattle.journal.proofs.Going.{as_left, as_line, going_none, going_more, going_stops, going_faulty}
use Rattle.journal.proofs.Replays.{enough, grows, grows_by_all_lem, stops}
use Rattle.journal.proofs.replaying.replay.Goals as goal
use Rattle.journal.proofs.replaying.replay.Goals.{in-Ok-None, in-Err}

pub loop-long-init : goal.loop-long-init
loop-long-init c = going_none c.args.until c.args.bytes.now _ c.begun-notes.ensures

pub loop-long-preserved : goal.loop-long-preserved
loop-long-preserved c =
    let k = known_by c.loop-long.notes in
    let m = known_by c.note_line.new.self in
    let bytes = c.args.bytes.now in
    going_more c.args.until bytes c.loop-long.place c.in-Ok-Some.long k m c.loop-long.invariant
    (as_line c.args.until bytes c.loop-long.place k m c.in-Ok-Some.field-0 (Some c.in-Ok-Some.long) c.in-Ok-Some.field-0-is c.in-Ok-Some.ensures)

pub returns : goal.returns
returns c =
    let until = c.args.until in
    let bytes = c.args.bytes.now in
    let place = c.loop-long.place in
    let k = known_by c.loop-long.notes in
    let m = known_by c.note_line.new.self in
    let made : Option Fault → Replayed = λ fault. record { known = m; left = drop place bytes; fault = fault } in
    let e : made c.match-note_line.fault ≡ replay until bytes =
    elim c.match-note_line.branch [
      | in-Ok-None w ↦ ap made w.fault-is ∙ going_stops until bytes place k m c.loop-long.invariant (as_line until bytes place k m w.in-Ok-None.field-0 None w.in-Ok-None.field-0-is w.in-Ok-None.ensures)
      | in-Err w ↦ ap made w.fault-is ∙ going_faulty until bytes place k m w.in-Err.fault c.loop-long.invariant (as_left until bytes place k m (Err w.in-Err.fault) w.in-Err.ensures)
    ] in
    record {
      known = c.remembered.ensures ∙ ap (λ (z : Replayed). z.known) e;
      within = c.loop-long.invariant.within;
      left = ap (λ (z : Replayed). z.left) e;
      fault = ap (λ (z : Replayed). z.fault) e;
      enough = enough;
      grows = grows;
      by_all = grows_by_all_lem;
      stops = stops;
    }
