-- Each turn answers one word, if the box has a newer one.
use Rattle.std.proofs.Common.{◌≡◌, ◌+◌, ◌<◌, ◌≤◌, Bool, true, false, cond, List, ◌∷◌, map, length, get_or, set, sym, refl, ap, ◌∙◌, subst, zero-le, arith, rules}
use Rattle.messages.specs.Values.{newer_id}
use Rattle.messages.specs.declared.values.Word.{Word}
use Rattle.messages.specs.declared.values.WordId.{WordId}
use Rattle.messages.specs.Packets.{Words}
use Rattle.linkmodel.specs.Station.{Item, news_for}
use Rattle.station.specs.Packets.{is_out}
use Rattle.station.specs.State.{station_of}
use Rattle.station.specs.Ticking.{item_of, no_word}
use Rattle.station.proofs.AnsweringWords.{news_left, news_end, news_step, put_as, put_count, put_list, put_more, put_none, put_not, rest_blank}
use Rattle.station.proofs.Scans.{NonePass, few_told, first_in_take, none_later, none_told}
use Rattle.station.proofs.TakingWords.{any_word}
use Rattle.station.proofs.state.Station.news_for.Goals as goal
use Rattle.station.proofs.state.Station.news_for.Goals.{then-is_newer_than, else-is_newer_than}

pub loop-word-init : goal.loop-word-init
loop-word-init c =
    let p = c.args.words in
    let l : length p.items ≡ 4 = search rules in
    let n = c.args.self.router.n in
    let ws = c.held-told.result.now in
    let all = news_left 0 ws (station_of c.args.self).box in
    let none = c.empty-news.ensures in
    let m : length c.empty-news.result.items ≡ 4 = search rules in (
      put_as item_of no_word all all 0 0 c.empty-news.result.count c.empty-news.result.items c.empty-news.result.items none.count refl
          (put_none item_of no_word all all c.empty-news.result.items m (rest_blank c.empty-news.result.items no_word m (λ j q. none.rest j zero-le q)) refl),
      subst (NonePass (λ (x : Word). is_out n x.id)) (sym c.held-told.ensures) (none_told (is_out n) p.count p.items c.requires),
      few_told p.count 4 p.items ws l c.held-told.ensures,
      none.drawn ∙ c.drawn.ensures,
    )

pub loop-word-preserved : goal.loop-word-preserved
loop-word-preserved c =
    let b = (station_of c.args.self).box in
    let ws = c.held-told.result.now in
    let k = c.loop-word.word-index in
    let h : k < length ws = c.loop-word-test.true in
    let x = get_or ws k any_word in
    let new : Item = record { about = x.id.about; entry = b.word x.id.about } in
    let all = news_left 0 ws b in
    let left = news_left k ws b in
    let rest = news_left (k + 1) ws b in
    let ys = c.loop-word.news.items in
    let m = c.loop-word.news.count in
    let r = c.if-is_newer_than.news in
    let inv = c.loop-word.invariant in
    let few : k < 4 = omega (arith, inv.2, h) in
    let tested : (t : Bool) → t ≡ newer_id c.id_of.result x.id → left ≡ cond t (new ∷ rest) rest =
    λ t e. news_step k ws b h ∙ ap (λ (s : Bool). cond s (new ∷ rest) rest) (sym (e ∙ ap (λ (y : WordId). newer_id y x.id) c.id_of.ensures)) in (
      elim c.if-is_newer_than.branch [
        | then-is_newer_than w ↦
            put_as item_of no_word all rest (k + 1) (m + 1) r.count (set ys m w.word_of.result) r.items (ap (λ (p : Words). p.count) w.news-is) (ap (λ (p : Words). p.items) w.news-is)
            (put_more item_of no_word all left rest k m ys w.word_of.result few inv.0 (tested true w.if-is_newer_than.ensures ∙ ap (λ (i : Item). i ∷ rest) (sym w.word_of.ensures)))
        | else-is_newer_than w ↦
            put_as item_of no_word all rest (k + 1) m r.count ys r.items (ap (λ (p : Words). p.count) w.news-is) (ap (λ (p : Words). p.items) w.news-is)
            (put_not item_of no_word all left rest k m ys inv.0 (tested false w.if-is_newer_than.ensures))
      ],
      none_later (λ y. is_out c.args.self.router.n y.id) any_word ws k h inv.1,
      inv.2,
      elim c.if-is_newer_than.branch [
        | then-is_newer_than w ↦ ap (λ (p : Words). p.drawn) w.news-is ∙ inv.3
        | else-is_newer_than w ↦ ap (λ (p : Words). p.drawn) w.news-is ∙ inv.3
      ],
    )

pub returns : goal.returns
returns c =
    let p = c.args.words in
    let b = (station_of c.args.self).box in
    let ws = c.held-told.result.now in
    let k = c.loop-word.word-index in
    let s = c.loop-word.news in
    let inv = c.loop-word.invariant in
    let put = inv.0 in
    let all = news_left 0 ws b in
    let left = news_left k ws b in
    let none = news_end k ws b c.loop-word-test.false in
    let told = ap (λ (ys : List Word). news_for (map item_of ys) b) c.held-told.ensures ∙ sym (ap (λ (ys : List Item). news_for ys b) (first_in_take item_of p.count p.items)) in
    let few : k ≤ 4 = omega (arith, inv.2, c.loop-word.auto.word-index-end) in
    let count = put_count item_of no_word all left k s.count s.items few put none in
    record {
      drawn = inv.3;
      count = count ∙ ap (λ (ys : List Item). length ys) told;
      items = put_list item_of no_word all left k s.count s.items put none ∙ told;
      rest = λ j i q. put.blank j (let same = ap (λ (ys : List Item). length ys) told in omega (arith, count, same, i));
    }
