use Rattle.std.proofs.Common.{◌≡◌, ◌+◌, ◌-◌, ◌∙◌, [], ◌∷◌, ap, drop, length, take, arith, length-drop, length-take}
use Rattle.std.specs.Prelude.{replicate}
use Rattle.packets.proofs.Summing.{summed_as}
use Rattle.packets.proofs.sums.put_sum.Goals as goal

pub returns : goal.returns
returns c =
    let n : c.args.at + 2 - c.args.at ≡ 2 = omega arith in
    let long : length (take (c.args.at + 2 - c.args.at) (drop c.args.at c.args.bytes.now)) ≡ 2 = simp (length-take, length-drop) (omega arith) in
    let z : c.fill.new.self ≡ 0 ∷ 0 ∷ [] = c.fill.ensures.after (λ y h. h) ∙ ap (λ k. replicate k 0) long in
    summed_as c.args.bytes.now c.args.at _ c.internet_sum.result _ _ n c.requires z c.internet_sum.ensures c.internet_sum.type_inv (c.copy_from_slice.ensures.after ∙ c.to_be_bytes-sum.ensures)
