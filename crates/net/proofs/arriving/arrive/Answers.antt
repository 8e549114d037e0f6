use Rattle.std.proofs.Common.{◌≡◌, ℕ, ◌<◌, true, List, length, set, get_or, arith, refl, sym, ◌∙◌, subst}
use Rattle.model.proofs.Tests.{true_not_false}
use Rattle.ground.specs.Wires.{drawn_of, plug_at, plug_of}
use Rattle.netmodel.specs.Net.{is_there}
use Rattle.checksum.specs.Refused.{body_of}
use Rattle.frames.specs.Reading.{frame_in}
use Rattle.node.specs.Handled.{HandledBy}
use Rattle.node.specs.Hearing.{by_frame}
use Rattle.node.specs.State.{whole_of}
use Rattle.outbox.specs.Parcels.{contents}
use Rattle.net.specs.Plays.{Heard, tags_drawn, tags_of}
use Rattle.net.proofs.Arrives.{arrives_so, lost_so, no_news_so}
use Rattle.net.proofs.Wholes.{becomes_at}
use Rattle.net.proofs.arriving.arrive.Goals as goal
use Rattle.net.proofs.arriving.arrive.Goals.{After-wire, then-place-boxes-via-else-place-boxes+then-not-reaches, then-place-boxes-via-then-place-boxes}

pub returns-then-place-boxes-clause-so : goal.returns-then-place-boxes-clause-so
returns-then-place-boxes-clause-so c first ms k f p nth s few = (
  lost_so c.args.boxes.now c.args.ground.now c.args.from c.args.over c.args.frame.now (tags_drawn c.args.frame.now (drawn_of c.args.ground.now)) (contents c.clear.new.self) away c.clear.ensures.0 first ms k f p nth s c.args.over.end.at,
  refl,
)
  where
    -- that box isn't there, or that wire
    away : is_there (plug_at c.args.ground.now c.args.from.at c.args.from.wire) (plug_of c.args.over) ≡ true → c.args.over.end.at < length c.args.boxes.now → ⊥
    away t l = elim c.then-place-boxes.branch [
      | then-place-boxes-via-then-place-boxes w ↦ let e = c.from-place.ensures in let m = w.if-place-boxes.true in omega arith
      | then-place-boxes-via-else-place-boxes+then-not-reaches w ↦ true_not_false _ t (sym w.reaches.ensures ∙ w.if-not-reaches.true)
    ]

heard_here : (c : After-wire) → c.args.over.end.at < length c.args.boxes.now →
    Heard c.args.over.end.at c.args.over.end.wire (tags_of c.args.frame.now (drawn_of c.args.ground.now)) c.args.boxes.now (set c.args.boxes.now c.from-place.result c.wire.new.self) (contents c.wire.new.out) c.args.frame.now c.wire.new.frame c.wire.result
heard_here c l = record {
  before = get_or c.args.boxes.now c.from-place.result c.index-boxes-place.result;
  after = c.wire.new.self;
  becomes = becomes_at c.args.over.end.at c.from-place.result c.args.boxes.now c.index-boxes-place.result c.wire.new.self c.from-place.ensures l;
  dropped = c.wire.ensures.dropped;
  unfit = c.wire.ensures.unfit;
  read = λ o f. subst (λ (us : List ℕ). HandledBy (by_frame c.args.over.end.wire (frame_in (whole_of (get_or c.args.boxes.now c.from-place.result c.index-boxes-place.result)).links.n (body_of c.args.frame.now)) us (whole_of (get_or c.args.boxes.now c.from-place.result c.index-boxes-place.result)) (get_or c.args.boxes.now c.from-place.result c.index-boxes-place.result).quota c.args.frame.now) c.wire.new.self (contents c.wire.new.out) c.wire.new.frame c.wire.result) c.tags_for-tags.ensures.is (c.wire.ensures.read o f);
}

pub returns-clause-heard : goal.returns-clause-heard
returns-clause-heard c l _ = heard_here (goal.at.returns-clause-heard c).After-wire l

pub returns-clause-so : goal.returns-clause-so
returns-clause-so c =
    let l : c.args.over.end.at < length c.args.boxes.now = omega (arith, c.from-place.ensures) in
    arrives_so c.args.boxes.now _ c.args.ground.now c.tags_for-tags.new.ground c.args.from c.args.over c.args.frame.now c.wire.new.frame (contents c.wire.new.out) c.wire.result (heard_here (goal.at.returns-clause-so c).After-wire l) c.tags_for-tags.ensures.draws (sym c.reaches.ensures ∙ c.if-not-reaches.false)

pub returns-clause-stays : goal.returns-clause-stays
returns-clause-stays c =
    let l : c.args.over.end.at < length c.args.boxes.now = omega (arith, c.from-place.ensures) in
    no_news_so c.args.boxes.now _ c.args.ground.now c.tags_for-tags.new.ground c.args.over.end.at c.args.over.end.wire (tags_of c.args.frame.now (drawn_of c.args.ground.now)) c.args.frame.now c.wire.new.frame (contents c.wire.new.out) c.wire.result
    (heard_here (goal.at.returns-clause-stays c).After-wire l) l c.tags_for-tags.ensures.draws
