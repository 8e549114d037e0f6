use Rattle.std.proofs.Common.{◌+◌, ◌≤◌, length, ap, arith}
use Rattle.octets.proofs.Puts.{written_none, then_byte, then_bytes}
use Rattle.wordframes.specs.Writing.{bytes_of_word}
use Rattle.frames.specs.Writing.{bytes_of_entry}
use Rattle.frames.proofs.line_bytes.put_entry.Goals as goal

pub returns-in-Began : goal.returns-in-Began
returns-in-Began c =
    let e = ap bytes_of_entry c.in-Began.is in
    let room : c.args.at + 3 ≤ length c.args.out.now = omega (arith, c.requires, ap length e) in
    let w1 = then_byte 0 (written_none c.args.at c.args.out.now) (omega arith) c.put_byte-at.ensures.wrote c.put_byte-at.ensures.next in
    let w2 = then_byte c.in-Began.boxes w1 (omega arith) c.put_byte-at-in-Began.ensures.wrote c.put_byte-at-in-Began.ensures.next in
    let w3 = then_byte c.in-Began.me w2 (omega arith) c.put_byte.ensures.wrote c.put_byte.ensures.next in
    rw e (record { next = w3.place; wrote = w3.is })

pub returns-in-Said : goal.returns-in-Said
returns-in-Said c =
    let e = ap bytes_of_entry c.in-Said.is in
    let w1 = then_byte 1 (written_none c.args.at c.args.out.now) (omega (arith, c.requires)) c.put_byte-at-in-Said.ensures.wrote c.put_byte-at-in-Said.ensures.next in
    let w2 = then_bytes (bytes_of_word c.in-Said.word) w1 (omega (arith, c.requires, ap length e, c.put_byte-at-in-Said.ensures.next)) c.put_word.ensures.wrote c.put_word.ensures.next in
    rw e (record { next = w2.place; wrote = w2.is })

pub returns-in-Taken : goal.returns-in-Taken
returns-in-Taken c =
    let e = ap bytes_of_entry c.in-Taken.is in
    let w1 = then_byte 2 (written_none c.args.at c.args.out.now) (omega (arith, c.requires)) c.put_byte-at-in-Taken.ensures.wrote c.put_byte-at-in-Taken.ensures.next in
    let w2 = then_bytes (bytes_of_word c.in-Taken.word) w1 (omega (arith, c.requires, ap length e, c.put_byte-at-in-Taken.ensures.next)) c.put_word-in-Taken.ensures.wrote c.put_word-in-Taken.ensures.next in
    rw e (record { next = w2.place; wrote = w2.is })

pub returns-in-Refused : goal.returns-in-Refused
returns-in-Refused c =
    let e = ap bytes_of_entry c.in-Refused.is in
    let w1 = then_byte 3 (written_none c.args.at c.args.out.now) (omega (arith, c.requires)) c.put_byte-at-in-Refused.ensures.wrote c.put_byte-at-in-Refused.ensures.next in
    let w2 = then_byte c.in-Refused.number w1 (omega (arith, c.requires, ap length e, c.put_byte-at-in-Refused.ensures.next)) c.put_byte-in-Refused.ensures.wrote c.put_byte-in-Refused.ensures.next in
    rw e (record { next = w2.place; wrote = w2.is })
