use Rattle.std.proofs.Common.{◌≡◌, length, sym, subst, arith, rules}
use Rattle.std.proofs.lemmas.List.{get_or_default}
use Rattle.hello.specs.State.{links_of}
use Rattle.station.specs.Ticking.{no_words}
use Rattle.node.specs.Giving.{Full}
use Rattle.node.proofs.Steps.{open_over_lem}
use Rattle.node.proofs.ticking.give_telling.Goals as goal

pub bounds-words-wire : goal.bounds-words-wire
bounds-words-wire c = (open_over_lem c.args.to (links_of c.args.station.now.links) c.in-Some.wire c.in-Some.ensures).small

pub give_packet-requires : goal.give_packet-requires
give_packet-requires c =
    let l = (open_over_lem c.args.to (links_of c.args.station.now.links) c.in-Some.wire c.in-Some.ensures).small in
    let long : length c.args.words.now ≡ 8 = search rules in
    let same = get_or_default c.args.words.now c.in-Some.wire _ no_words (omega arith) in
    (c.requires.0, subst (λ p. Full p) (sym same) (c.requires.1 c.in-Some.wire l))
