-- What is too old is dropped, and then what is owed is said.
use Rattle.std.proofs.Common.{◌≡◌, ap, ◌∙◌, rules}
use Rattle.hello.specs.State.{links_of}
use Rattle.linkmodel.specs.Hellos.{Passes}
use Rattle.linkmodel.specs.Links.{Links, passes}
use Rattle.linkmodel.specs.Station.{Station, relink_as, says_if_owed, ticks}
use Rattle.station.specs.State.{station_of}
use Rattle.station.specs.Ticking.{says_word}
use Rattle.station.proofs.Doing.{tells_did_lem, tick_did_lem}
use Rattle.station.proofs.GoingOut.{all_out}
use Rattle.station.proofs.Had.{joined_had}
use Rattle.station.proofs.Joining.{same_station, still_sound}
use Rattle.station.proofs.state.Station.tick.Goals as goal

pub relinked-aged-requires : goal.relinked-aged-requires
relinked-aged-requires c =
    let s = station_of c.args.self in
    still_sound Passes s.links (links_of c.in_ok-links.links) (joined_had s c.args.self.joined).sound c.in_ok-links.ensures.is

pub returns : goal.returns
returns c =
    let s = station_of c.args.self in
    let t = c.args.tag in
    let done = c.says_owed-said.ensures in
    let q : station_of c.relinked-aged.result ≡ relink_as (passes s.links) s = c.relinked-aged.ensures ∙ ap (λ (l : Links). relink_as l s) c.in_ok-links.ensures.is in
    let r = c.unwrap_or-station.result in
    let same = ap station_of c.unwrap_or-station.ensures in
    let is = same ∙ same_station {t = ticks t s} (done.links ∙ ap (λ (u : Station). u.links) q) (done.is ∙ ap (λ (u : Station). says_if_owed t u.box) q) in
    record {
      refused = search rules;
      is = is;
      so = tick_did_lem t s (station_of r) (joined_had s c.args.self.joined) is;
      tells = tells_did_lem (station_of r) (joined_had (station_of r) r.joined);
      said = c.is_some.ensures ∙ done.said ∙ ap (λ (u : Station). says_word u.box) q;
      hellos = c.all_hellos.ensures;
      words = c.all_words.ensures;
      out = all_out c.all_words.result (station_of r) c.all_words.ensures c.all_hellos.result c.all_hellos.ensures;
    }
