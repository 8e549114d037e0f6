-- Each turn answers one word, if the box has it just so.
use Rattle.std.proofs.Common.{◌≡◌, ◌+◌, ◌<◌, ◌≤◌, Bool, true, false, cond, List, [], ◌∷◌, map, length, get_or, set, sym, refl, ap, ◌∙◌, arith, rules}
use Rattle.messages.specs.Values.{same_id}
use Rattle.messages.specs.Packets.{Seens}
use Rattle.messages.specs.declared.values.Word.{Word}
use Rattle.messages.specs.declared.values.WordId.{WordId}
use Rattle.linkmodel.specs.Station.{Item, Sight, seens_for}
use Rattle.station.specs.Packets.{no_id, sight_of}
use Rattle.station.specs.State.{station_of}
use Rattle.station.specs.Ticking.{item_of}
use Rattle.station.proofs.AnsweringWords.{put_as, put_count, put_list, put_more, put_none, put_not, seens_left, seens_end, seens_step}
use Rattle.station.proofs.Carrying.{four_blank, no_id_lem}
use Rattle.station.proofs.Scans.{few_told, first_in_take}
use Rattle.station.proofs.TakingWords.{any_word}
use Rattle.station.proofs.state.Station.seens_for.Goals as goal
use Rattle.station.proofs.state.Station.seens_for.Goals.{then-is_same_as, else-is_same_as}

pub loop-word-init : goal.loop-word-init
loop-word-init c =
    let p = c.args.words in
    let l : length p.items ≡ 4 = search rules in
    let all = seens_left 0 c.held-told.result.now (station_of c.args.self).box in
    let x = c.default.result in (
      put_none sight_of no_id all all (x ∷ x ∷ x ∷ x ∷ []) refl (four_blank x no_id (no_id_lem x c.default.ensures)) refl,
      few_told p.count 4 p.items c.held-told.result.now l c.held-told.ensures,
      c.drawn.ensures,
    )

pub loop-word-preserved : goal.loop-word-preserved
loop-word-preserved c =
    let b = (station_of c.args.self).box in
    let ws = c.held-told.result.now in
    let k = c.loop-word.word-index in
    let h : k < length ws = c.loop-word-test.true in
    let x = get_or ws k any_word in
    let all = seens_left 0 ws b in
    let left = seens_left k ws b in
    let rest = seens_left (k + 1) ws b in
    let ys = c.loop-word.seens.items in
    let m = c.loop-word.seens.count in
    let r = c.if-is_same_as.seens in
    let inv = c.loop-word.invariant in
    let few : k < 4 = omega (arith, inv.1, h) in
    let tested : (t : Bool) → t ≡ same_id x.id c.id_of.result → left ≡ cond t (sight_of x.id ∷ rest) rest =
    λ t e. seens_step k ws b h ∙ ap (λ (s : Bool). cond s (sight_of x.id ∷ rest) rest) (sym (e ∙ ap (λ (y : WordId). same_id x.id y) c.id_of.ensures)) in (
      elim c.if-is_same_as.branch [
        | then-is_same_as w ↦
            put_as sight_of no_id all rest (k + 1) (m + 1) r.count (set ys m x.id) r.items (ap (λ (p : Seens). p.count) w.seens-is) (ap (λ (p : Seens). p.items) w.seens-is)
            (put_more sight_of no_id all left rest k m ys x.id few inv.0 (tested true w.if-is_same_as.ensures))
        | else-is_same_as w ↦
            put_as sight_of no_id all rest (k + 1) m r.count ys r.items (ap (λ (p : Seens). p.count) w.seens-is) (ap (λ (p : Seens). p.items) w.seens-is)
            (put_not sight_of no_id all left rest k m ys inv.0 (tested false w.if-is_same_as.ensures))
      ],
      inv.1,
      elim c.if-is_same_as.branch [
        | then-is_same_as w ↦ ap (λ (p : Seens). p.drawn) w.seens-is ∙ inv.2
        | else-is_same_as w ↦ ap (λ (p : Seens). p.drawn) w.seens-is ∙ inv.2
      ],
    )

pub returns : goal.returns
returns c =
    let p = c.args.words in
    let b = (station_of c.args.self).box in
    let ws = c.held-told.result.now in
    let k = c.loop-word.word-index in
    let s = c.loop-word.seens in
    let inv = c.loop-word.invariant in
    let put = inv.0 in
    let all = seens_left 0 ws b in
    let left = seens_left k ws b in
    let none = seens_end k ws b c.loop-word-test.false in
    let told = ap (λ (ys : List Word). seens_for (map item_of ys) b) c.held-told.ensures ∙ sym (ap (λ (ys : List Item). seens_for ys b) (first_in_take item_of p.count p.items)) in
    let few : k ≤ 4 = omega (arith, inv.1, c.loop-word.auto.word-index-end) in
    let count = put_count sight_of no_id all left k s.count s.items few put none in
    record {
      drawn = inv.2;
      count = count ∙ ap (λ (ys : List Sight). length ys) told;
      items = put_list sight_of no_id all left k s.count s.items put none ∙ told;
      rest = λ j i q. put.blank j (let same = ap (λ (ys : List Sight). length ys) told in omega (arith, count, same, i));
    }
