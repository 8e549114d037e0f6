use Rattle.std.proofs.Common.{◌≡◌, ◌≤◌, false, cond, eqb, List, [], ◌∷◌, ◌++◌, length, sym, ap, ◌∙◌, append-nil, arith, rules, ne_eqb}
use Rattle.std.specs.List.{flat_map}
use Rattle.outbox.specs.Parcels.{contents, parcel_bytes, sealed}
use Rattle.linkmodel.specs.Station.{Out, Shows}
use Rattle.station.specs.Packets.{seens_of}
use Rattle.node.specs.Wires.{out_bytes}
use Rattle.node.proofs.Written.{few_seens, seens_as}
use Rattle.node.proofs.words.give_shown.Goals as goal

pub returns-then-seens-gt0 : goal.returns-then-seens-gt0
returns-then-seens-gt0 c =
    let four : length c.args.seens.items ≡ 4 = search rules in
    let l : c.args.seens.count ≤ length c.args.seens.items = few_seens c.args.seens c.requires.1 in
    let some : eqb c.args.seens.count 0 ≡ false = ne_eqb c.args.seens.count 0 (omega arith) in
    let one : List Out = record { on = c.args.wire; frame = Shows (seens_of c.args.seens) } ∷ [] in
    record {
      holds =
          c.give_seens.ensures.holds
          ∙ (ap (λ z. contents c.args.out.now ++ parcel_bytes c.args.wire (sealed z)) (seens_as c.args.seens l)
          ∙ (ap (λ z. contents c.args.out.now ++ z) (sym (append-nil _))
          ∙ ap (λ z. contents c.args.out.now ++ flat_map out_bytes (cond z [] one)) (sym some)));
      used = c.give_seens.ensures.used;
    }

pub give_seens-requires : goal.give_seens-requires
give_seens-requires c =
    let four : length c.args.seens.items ≡ 4 = search rules in
    (c.requires.0, omega (arith, few_seens c.args.seens c.requires.1))
