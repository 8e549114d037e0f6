-- Each turn sees one.
use Rattle.std.proofs.Common.{◌+◌, List, map, sym, refl, ap, ◌∙◌, subst}
use Rattle.messages.specs.declared.values.WordId.{WordId}
use Rattle.linkmodel.specs.Station.{Sight, sees_all}
use Rattle.model.specs.Box.{Box}
use Rattle.router.specs.State.{box_of}
use Rattle.std.specs.List.{list_any}
use Rattle.station.specs.Packets.{is_out, is_spent, no_id, sight_of}
use Rattle.station.proofs.Scans.{any_in_take, first_in_take, none_later}
use Rattle.station.proofs.Seeing.{SameRoads, roads_refl, seen_end, seen_step, sees_from}
use Rattle.station.proofs.seens.seen_all.Goals as goal

pub loop-id-init : goal.loop-id-init
loop-id-init c =
    let p = c.args.seens in
    let n = c.args.router.n in
    let good = c.requires.1.1 in (
      refl,
      roads_refl (box_of c.args.router),
      ap (λ (xs : List WordId). list_any (is_out n) xs) c.held-shown.ensures ∙ sym (any_in_take (is_out n) p.count p.items) ∙ good.0,
      ap (λ (xs : List WordId). list_any is_spent xs) c.held-shown.ensures ∙ sym (any_in_take is_spent p.count p.items) ∙ good.1,
    )

pub loop-id-preserved : goal.loop-id-preserved
loop-id-preserved c =
    let a = c.args in
    let k = c.loop-id.id-index in
    let xs = c.held-shown.result.now in
    let h = c.loop-id-test.true in
    let inv = c.loop-id.invariant in (
      inv.0 ∙ seen_step a.from k xs (box_of c.loop-id.next) h ∙ ap (λ (u : Box). sees_from a.from (k + 1) xs u) (sym c.seen_one-next.ensures),
      subst (SameRoads (box_of a.router)) (sym c.seen_one-next.ensures) (record { boxes = inv.1.boxes; self = inv.1.self; roads = inv.1.roads }),
      none_later (is_out a.router.n) no_id xs k h inv.2,
      none_later is_spent no_id xs k h inv.3,
    )

pub returns : goal.returns
returns c =
    let a = c.args in
    let p = a.seens in
    sym (ap (λ (ys : List Sight). sees_all a.from ys (box_of a.router)) (first_in_take sight_of p.count p.items ∙ ap (λ (xs : List WordId). map sight_of xs) (sym c.held-shown.ensures))
    ∙ c.loop-id.invariant.0 ∙ seen_end a.from c.loop-id.id-index c.held-shown.result.now (box_of c.loop-id.next) c.loop-id-test.false)
