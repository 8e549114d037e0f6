-- What isn't refused comes over an open road, and is in range.
use Rattle.std.proofs.Common.{◌≡◌, ℕ, false, eqb, List, length, get_or, take, None, Option, sym, ap, ◌∙◌, subst, rules}
use Rattle.messages.specs.declared.values.WordId.{WordId}
use Rattle.linkmodel.specs.Station.{Station, teller}
use Rattle.messages.specs.Values.{ids_of}
use Rattle.station.specs.Hearing.{answers_from, outcomes_from, wire_back, words_from}
use Rattle.station.specs.Packets.{any_in, is_out, packet_refusal}
use Rattle.station.specs.State.{station_of}
use Rattle.station.specs.Ticking.{bundle_of}
use Rattle.station.proofs.Admitted.{admitted, teller_is}
use Rattle.station.proofs.Doing.{answers_did_lem, words_did_lem}
use Rattle.station.proofs.TakingWords.{all_roads}
use Rattle.station.proofs.Had.{joined_had}
use Rattle.station.proofs.state.Station.hears_words.Goals as goal

pub heard-requires : goal.heard-requires
heard-requires c =
    let s = station_of c.args.self in
    let p = c.args.words in
    let is = teller_is c.args.wire s c.in_ok-from.from (joined_had s c.args.self.joined) c.in_ok-from.ensures.from in
    let from = teller c.args.wire s.links in
    let fine = admitted s.box.n from p.count (ids_of p.items) (ap (λ (xs : List WordId). packet_refusal s.box.n from p.count xs) (sym c.ids.ensures) ∙ c.in_ok-from.ensures.refused) in
    (is.0, (is.1, fine.1))

pub returns : goal.returns
returns c =
    let s = station_of c.args.self in
    let r = station_of c.heard.result.station in
    let p = c.args.words in
    let ts = take p.count c.args.tags in
    let from = teller c.args.wire s.links in
    let is = sym c.in_ok-from.ensures.from in
    let done = c.heard.ensures in
    let j = joined_had s c.args.self.joined in
    let l : length p.items ≡ 4 = search rules in
    let m : length c.args.tags ≡ 4 = search rules in
    let refused = ap (λ (xs : List WordId). packet_refusal s.box.n from p.count xs) (sym c.ids.ensures) ∙ c.in_ok-from.ensures.refused in
    let fine = admitted s.box.n from p.count (ids_of p.items) refused in
    let all : station_of c.heard.result.station ≡ words_from from (bundle_of p) ts s = done.is ∙ ap (λ (o : Option ℕ). words_from o (bundle_of p) ts s) is in
    let size : r.box.n ≡ s.box.n =
    ap (λ (u : Station). u.box.n) done.is ∙ (all_roads (eqb p.drawn (s.links.last c.in_ok-from.from)) c.in_ok-from.from (bundle_of p).items ts s.box).boxes in
    record {
      so = words_did_lem c.args.wire p.count p.drawn p.items c.args.tags s r j fine.0 l m (λ e q. all ∙ ap (λ (o : Option ℕ). words_from o (bundle_of p) ts s) q);
      sends = answers_did_lem c.args.wire p.count p.drawn p.items r (joined_had r c.heard.result.station.joined)
          (subst (λ (i : ℕ). any_in (is_out i) p.count (ids_of p.items) ≡ false) (sym size) fine.1.0);
      refused = refused;
      is = all;
      wire = done.wire ∙ ap (λ (o : Option ℕ). wire_back o r.links) is;
      seens = done.seens;
      words = done.words;
      outcomes = λ j. done.outcomes j ∙ ap (λ (o : Option ℕ). get_or (outcomes_from o p c.args.tags s) j None) is;
      out = done.out ∙ ap (λ (o : Option ℕ). answers_from o (bundle_of p) r) is;
    }
