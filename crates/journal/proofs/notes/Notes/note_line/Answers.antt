-- A line that is read, and what replaying makes of it.
use Rattle.std.proofs.Common.{◌<◌, length, drop, sym, refl, ap, ◌∙◌, arith, length-take, rules}
use Rattle.journal.specs.Replay.{replayed}
use Rattle.journal.specs.State.{known_by}
use Rattle.std.proofs.lemmas.Result.{err_from_is_err_and}
use Rattle.journal.proofs.Replays.{replayed_empty, replayed_line, noted_line, stopped, faulty}
use Rattle.journal.proofs.notes.Notes.note_line.Goals as goal

pub returns-then-is_empty : goal.returns-then-is_empty
returns-then-is_empty c = (refl, λ lines. replayed_empty c.args.until lines c.args.left.now (known_by c.args.self.now) (search rules))

pub returns-in_err-line : goal.returns-in_err-line
returns-in_err-line c =
    let p = err_from_is_err_and c.from_residual.result c.from_residual.ensures.1 in
    let some : 0 < length c.args.left.now = search rules in
    rw (p.1, p.2) (refl, some, faulty c.args.until c.args.left.now (known_by c.args.self.now) _ some c.in_err-line.ensures.reads)

pub returns-then-line-until : goal.returns-then-line-until
returns-then-line-until c =
    let k = known_by c.args.self.now in
    let l = c.in_ok-line.line in
    let e = c.in_ok-line.ensures in
    (refl, stopped c.args.until c.args.left.now k l (drop c.in_ok-line.long c.args.left.now) (search rules) e.reads c.if-line-until.true)

pub returns : goal.returns
returns c =
    let k = known_by c.args.self.now in
    let until = c.args.until in
    let bytes = c.args.left.now in
    let l = c.in_ok-line.line in
    let long = c.in_ok-line.long in
    let e = c.in_ok-line.ensures in
    let some : 0 < length bytes = search rules in (
      omega (arith, e.long),
      omega (arith, e.long, length-take long bytes, ap length e.only.0),
      λ lines.
          replayed_line until lines bytes k some
          ∙ (noted_line until bytes k l (drop long bytes) (replayed until lines) e.reads c.if-line-until.false ∙ ap (replayed until lines (drop long bytes)) (sym c.note.ensures)),
    )
