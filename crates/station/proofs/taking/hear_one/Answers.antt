-- What was taken changes no road.
use Rattle.std.proofs.Common.{ap, ◌∙◌}
use Rattle.model.specs.Box.{Box}
use Rattle.router.specs.State.{box_of, id_refusal}
use Rattle.linkmodel.specs.Station.{takes_item}
use Rattle.station.specs.Ticking.{item_of}
use Rattle.station.proofs.TakingWords.{id_same, taken_roads}
use Rattle.station.proofs.taking.hear_one.Goals as goal

pub seen_one-requires : goal.seen_one-requires
seen_one-requires c =
    let a = c.args in
    let b = box_of a.router in
    let x = item_of a.word in
    ap (λ (u : Box). id_refusal a.from a.word.id u) c.take_one-outcome.ensures.is
    ∙ id_same a.from a.word.id b (takes_item a.from x a.tag b) (taken_roads a.from x a.tag b) ∙ c.requires
