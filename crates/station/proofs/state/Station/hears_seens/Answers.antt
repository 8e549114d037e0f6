-- What isn't refused comes over an open road, and is in range.
use Rattle.std.proofs.Common.{◌≡◌, ℕ, Bool, cond, [], Option, sym, refl, ap, ◌∙◌, subst, eq-eqb}
use Rattle.model.specs.Box.{Box, map_in}
use Rattle.linkmodel.specs.Calls.{Joined}
use Rattle.linkmodel.specs.Station.{heard_seens, sees_all, teller, with_box}
use Rattle.station.specs.Packets.{seens_from, seens_of}
use Rattle.station.specs.State.{station_of}
use Rattle.linkmodel.proofs.Takings.{seens_so_lem}
use Rattle.station.proofs.Doing.{did_as}
use Rattle.station.proofs.Had.{joined_had}
use Rattle.station.proofs.Joining.{same_station}
use Rattle.station.proofs.Admitted.{admitted, teller_is}
use Rattle.station.proofs.Seeing.{seen_joined, seen_map, seen_self}
use Rattle.station.proofs.state.Station.hears_seens.Goals as goal

pub seen_all-router-requires : goal.seen_all-router-requires
seen_all-router-requires c =
    let s = station_of c.args.self in
    let e = c.in_ok-from.from in
    let is = teller_is c.args.wire s e (joined_had s c.args.self.joined) c.in_ok-from.ensures.from in
    let p = admitted s.box.n (teller c.args.wire s.links) c.args.seens.count c.args.seens.items c.in_ok-from.ensures.refused in
    (is.0, (is.1, p.1))

pub rejoined-requires : goal.rejoined-requires
rejoined-requires c =
    let s = station_of c.args.self in
    let e = c.in_ok-from.from in
    let xs = (seens_of c.args.seens).items in
    let q = c.seen_all-router.ensures in (
      subst (λ (b : Box). Joined (with_box b s)) (sym q) (seen_joined e xs s (joined_had s c.args.self.joined)),
      (ap map_in q ∙ seen_map e xs s.box, ap (λ (b : Box). b.me) q ∙ seen_self e xs s.box),
    )

pub returns : goal.returns
returns c =
    let s = station_of c.args.self in
    let e = c.in_ok-from.from in
    let p = seens_of c.args.seens in
    let fits = ap (λ (b : Bool). with_box (cond b (sees_all e p.items s.box) s.box) s) (eq-eqb p.drawn (s.links.last e) (c.if-seens-last.false ∙ c.last.ensures)) in
    let is : station_of c.rejoined.result ≡ heard_seens e p s = c.rejoined.ensures ∙ same_station {t = with_box (sees_all e p.items s.box) s} refl c.seen_all-router.ensures ∙ sym fits in
    record {
      refused = c.in_ok-from.ensures.refused;
      is = is ∙ sym (ap (λ (o : Option ℕ). seens_from o p s) c.in_ok-from.ensures.from);
      so = did_as s (heard_seens e p s) (station_of c.rejoined.result) [] (joined_had s c.args.self.joined) is (λ es. seens_so_lem s es e p);
    }
