use Rattle.std.proofs.Common.{refl}
use Rattle.linkmodel.specs.Station.{teller}
use Rattle.outbox.specs.Parcels.{contents}
use Rattle.station.specs.Hearing.{answer_on, outcomes_from}
use Rattle.station.specs.State.{station_of}
use Rattle.station.specs.Ticking.{bundle_of}
use Rattle.node.specs.Hearing.{words_leave}
use Rattle.node.specs.State.{whole_of}
use Rattle.node.proofs.Heard.{words_given}
use Rattle.node.proofs.state.Node.words.Goals as goal

pub returns : goal.returns
returns c =
    let t = c.in_ok-heard.ensures in
    let heard = c.in_ok-heard.heard in
    let s = whole_of c.args.self.now in
    let p = c.args.words in
    record {
      heard = (t.refused, t.is, refl, λ e. (t.so, t.sends));
      gives =
          words_given (contents c.args.out.now) (contents c.note_words.new.out) (contents c.give_answers.new.out) heard.outcomes (outcomes_from (teller c.args.wire s.links) p c.args.tags s)
          p.items c.args.tags s (station_of heard.station) (words_leave c.args.wire p c.args.tags s) p.count (answer_on heard.wire heard.seens heard.words) (teller c.args.wire s.links) (bundle_of p)
          c.note_words.ensures.holds c.give_answers.ensures.holds t.outcomes t.out t.is;
    }
