use Rattle.std.proofs.Common.{◌<◌, length, sym, refl, arith}
use Rattle.std.proofs.lemmas.Bool.{eqb-false}
use Rattle.script.proofs.Lines.{number_stops, number_past, number_ends, digits_on}
use Rattle.script.proofs.line.number.Goals as goal

pub returns-then-not-is_ascii_digit : goal.returns-then-not-is_ascii_digit
returns-then-not-is_ascii_digit c =
    record { within = tt; value = (number_stops c.args.most c.loop-b.n _ c.loop-b.b-index c.loop-b-test.true (sym c.if-not-is_ascii_digit.ensures.value) c.loop-b.invariant.1, refl) }

pub returns-then-next-most : goal.returns-then-next-most
returns-then-next-most c =
    let some : 0 < length c.args.text.now = omega arith in
    record {
      within = tt;
      value = (
        number_past c.args.most _ _ _ some c.if-next-most.true
            (digits_on c.loop-b.n _ c.loop-b.b-index c.loop-b-test.true (sym c.if-not-is_ascii_digit.ensures.value) c.loop-b.invariant.1),
        refl,
      );
    }

pub loop-b-preserved : goal.loop-b-preserved
loop-b-preserved c =
    (omega arith, digits_on c.loop-b.n _ c.loop-b.b-index c.loop-b-test.true (sym c.if-not-is_ascii_digit.ensures.value) c.loop-b.invariant.1)

pub returns : goal.returns
returns c =
    let not_None = eqb-false (length c.args.text.now) 0 (sym c.if-is_empty.ensures) in
    let some : 0 < length c.args.text.now = omega arith in
    record { within = c.loop-b.invariant.0; value = number_ends c.args.most c.loop-b.n _ c.loop-b.b-index some c.loop-b-test.false c.loop-b.invariant.0 c.loop-b.invariant.1 }
