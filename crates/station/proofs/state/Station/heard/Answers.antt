-- The words are taken, and then the answers are of what the box has.
use Rattle.std.proofs.Common.{◌≡◌, ℕ, false, eqb, List, ◌++◌, get_or, take, None, sym, refl, ap, ◌∙◌, subst, ap₂}
use Rattle.model.specs.Box.{Box}
use Rattle.linkmodel.specs.Calls.{Joined}
use Rattle.linkmodel.specs.Station.{Out, Station, heard_words, news_for, seens_for, takes_all, with_box}
use Rattle.messages.specs.Values.{ids_of}
use Rattle.station.specs.Hearing.{answer_on, outcomes_in}
use Rattle.station.specs.Packets.{any_in, is_out}
use Rattle.station.specs.State.{station_of}
use Rattle.station.specs.Ticking.{bundle_of}
use Rattle.station.proofs.GoingOut.{packet_out, shown_out}
use Rattle.station.proofs.Had.{joined_had}
use Rattle.station.proofs.Joining.{same_station}
use Rattle.station.proofs.TakingWords.{all_roads, joined_roads}
use Rattle.station.proofs.state.Station.heard.Goals as goal

pub settled-station-requires : goal.settled-station-requires
settled-station-requires c =
    let s = station_of c.args.self in
    let p = c.args.words in
    let fits = eqb p.drawn c.last.result in
    let ts = take p.count c.args.tags in
    subst (λ (b : Box). Joined (with_box b s)) (sym c.hear_all.ensures.is)
    (joined_roads s (takes_all fits c.args.from (bundle_of p).items ts s.box) (joined_had s c.args.self.joined) (all_roads fits c.args.from (bundle_of p).items ts s.box))

pub news_for-requires : goal.news_for-requires
news_for-requires c =
    let s = station_of c.args.self in
    let p = c.args.words in
    let fits = eqb p.drawn c.last.result in
    let same : (station_of c.settled-station.result).box.n ≡ s.box.n =
    ap (λ (u : Station). u.box.n) c.settled-station.ensures ∙ ap (λ (b : Box). b.n) c.hear_all.ensures.is
    ∙ (all_roads fits c.args.from (bundle_of p).items (take p.count c.args.tags) s.box).boxes in
    subst (λ (i : ℕ). any_in (is_out i) p.count (ids_of p.items) ≡ false) (sym same) c.requires.1.1.0

pub returns : goal.returns
returns c =
    let s = station_of c.args.self in
    let r = station_of c.settled-station.result in
    let e = c.args.from in
    let p = c.args.words in
    let xs = (bundle_of p).items in
    let ts = take p.count c.args.tags in
    let seens = c.seens_for.ensures in
    let words = c.news_for.ensures in
    record {
      is = c.settled-station.ensures
          ∙ same_station {t = heard_words e (bundle_of p) ts s} refl (c.hear_all.ensures.is ∙ ap (λ (k : ℕ). takes_all (eqb p.drawn k) e xs ts s.box) c.last.ensures);
      wire = c.lowest.ensures;
      seens = seens;
      words = words;
      outcomes = λ j. c.hear_all.ensures.outcomes j ∙ ap (λ (k : ℕ). get_or (outcomes_in (eqb p.drawn k) e p.count p.items c.args.tags s.box) j None) c.last.ensures;
      out = ap (λ (w : ℕ). answer_on w c.seens_for.result c.news_for.result) c.lowest.ensures
          ∙ ap₂ (λ (a b : List Out). a ++ b) (shown_out e r.links.drawn c.seens_for.result (seens_for xs r.box) r.links refl seens)
          (packet_out e r.links.drawn c.news_for.result (news_for xs r.box) r.links refl words);
    }
