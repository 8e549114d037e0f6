use Rattle.std.proofs.Common.{◌≡◌, ◌++◌, get_or, take, ap, ◌∙◌, subst, arith}
use Rattle.octets.specs.Writes.{octets}
use Rattle.octets.proofs.Puts.{Written, written_none, then_number}
use Rattle.frames.specs.Writing.{bytes_of_wires}
use Rattle.wordframes.proofs.Lengths.{joined_next}
use Rattle.frames.proofs.settings_bytes.put_wires.Goals as goal

pub loop-cost-init : goal.loop-cost-init
loop-cost-init c = (written_none c.args.at c.args.out.now, omega arith)

pub loop-cost-preserved : goal.loop-cost-preserved
loop-cost-preserved c =
    let v : c.from.result ≡ get_or c.args.costs c.loop-cost.cost-index 0 = c.from.ensures in
    let w = then_number 2 c.from.result c.loop-cost.invariant.0 (omega arith) c.put_number-next.ensures.wrote c.put_number-next.ensures.next in
    let e = ap (λ x. bytes_of_wires (take c.loop-cost.cost-index c.args.costs) ++ octets 2 x) v ∙ joined_next (octets 2) c.args.costs c.loop-cost.cost-index 0 (omega arith) in
    (subst (λ bytes. Written c.args.at bytes c.args.out.now c.put_number-next.new.out c.put_number-next.result) e w, omega (arith, c.put_number-next.ensures.next))
