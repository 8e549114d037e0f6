use Rattle.std.proofs.Common.{◌≡◌, ◌≤◌, false, cond, eqb, List, [], ◌∷◌, ◌++◌, length, sym, ap, ◌∙◌, append-nil, arith, rules, ne_eqb}
use Rattle.std.specs.List.{flat_map}
use Rattle.outbox.specs.Parcels.{contents, parcel_bytes, sealed}
use Rattle.linkmodel.specs.Station.{Out, Tells}
use Rattle.station.specs.Ticking.{bundle_of}
use Rattle.node.specs.Wires.{out_bytes}
use Rattle.node.proofs.Written.{few_words, words_as}
use Rattle.node.proofs.ticking.give_packet.Goals as goal

pub returns-then-packet-gt0 : goal.returns-then-packet-gt0
returns-then-packet-gt0 c =
    let four : length c.args.packet.items ≡ 4 = search rules in
    let l : c.args.packet.count ≤ length c.args.packet.items = few_words c.args.packet c.requires.1 in
    let some : eqb c.args.packet.count 0 ≡ false = ne_eqb c.args.packet.count 0 (omega arith) in
    let one : List Out = record { on = c.args.wire; frame = Tells (bundle_of c.args.packet) } ∷ [] in
    record {
      holds =
          c.give_words.ensures.holds
          ∙ (ap (λ z. contents c.args.out.now ++ parcel_bytes c.args.wire (sealed z)) (words_as c.args.packet l)
          ∙ (ap (λ z. contents c.args.out.now ++ z) (sym (append-nil _))
          ∙ ap (λ z. contents c.args.out.now ++ flat_map out_bytes (cond z [] one)) (sym some)));
      used = c.give_words.ensures.used;
    }

pub give_words-requires : goal.give_words-requires
give_words-requires c =
    let four : length c.args.packet.items ≡ 4 = search rules in
    (c.requires.0, omega (arith, few_words c.args.packet c.requires.1))
