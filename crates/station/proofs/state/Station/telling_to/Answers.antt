-- Each turn sets one word, of a box that there is.
use Rattle.std.proofs.Common.{◌≡◌, ℕ, ◌-◌, ◌<◌, ◌≤◌, not, ◌&&◌, ltb, List, length, get_or, take, replicate, sym, refl, ap, ◌∙◌, subst, arith, rules, length-take-le}
use Rattle.bits.proofs.Picks.{pick_at, pick_length}
use Rattle.model.specs.Box.{tells}
use Rattle.linkmodel.specs.Station.{items_of}
use Rattle.station.specs.State.{station_of}
use Rattle.station.specs.Ticking.{no_word, words_in}
use Rattle.station.proofs.Carrying.{four_blank, item_at, items_length, named_at, no_word_lem, words_by}
use Rattle.station.proofs.Scans.{take_less}
use Rattle.station.proofs.state.Station.telling_to.Goals as goal

pub loop-k-init : goal.loop-k-init
loop-k-init c = let x = c.default-items.result in (refl, λ j q. absurd (omega arith), λ j q r. four_blank x no_word (no_word_lem x c.default-items.ensures) j)

pub word_of-requires : goal.word_of-requires
word_of-requires c =
    let b = (station_of c.args.self.now).box in
    let e = c.args.to in
    let ps = tells e b in
    let k = c.loop-k.k in
    let p = c.tells-picked.result in
    let a = c.places-abouts.result.now in
    let held = c.places-abouts.ensures in
    let h : k < length (take p.count p.items) = subst (λ (is : List ℕ). k < length is) held c.loop-k-test.true in
    let m : k < p.count = take_less p.count p.items k h in
    let l : k < length ps = subst (λ (n : ℕ). k < n) c.tells-picked.ensures.count m in
    let is = pick_at b.n 4 (λ i. ltb 0 (b.word i).number && not (b.shown e i)) 0 k l in
    let low : get_or ps k 0 < b.n = omega (arith, is.1) in
    subst (λ (i : ℕ). i < b.n) (sym (ap (λ (is : List ℕ). get_or is k 0) held ∙ named_at p.count p.items ps (replicate (4 - length ps) 0) k c.tells-picked.ensures.items l h)) low

pub returns : goal.returns
returns c =
    let b = (station_of c.args.self.now).box in
    let e = c.args.to in
    let ps = tells e b in
    let ys = items_of ps b in
    let p = c.tells-picked.result in
    let xs = c.loop-k.items in
    let inv = c.loop-k.invariant in
    let count : p.count ≡ length ys = c.tells-picked.ensures.count ∙ sym (items_length ps b) in
    let few : length ps ≤ 4 = pick_length b.n 4 (λ i. ltb 0 (b.word i).number && not (b.shown e i)) 0 in
    let same = items_length ps b in
    let all : length ys ≤ length xs = omega (arith, inv.0) in
    let l : length p.items ≡ 4 = search rules in
    let cut : length (take p.count p.items) ≡ p.count = length-take-le p.count p.items (omega (arith, c.tells-picked.ensures.count)) in
    let held = c.places-abouts.ensures in
    let long : length c.places-abouts.result.now ≡ length (take p.count p.items) = ap (λ (is : List ℕ). length is) held in
    let at-end : c.loop-k.k ≡ length ys = omega (arith, long, c.loop-k.auto.k-end, c.loop-k-test.false) in
    record {
      drawn = c.drawn.ensures;
      count = count;
      items = ap (λ (n : ℕ). words_in n xs) count ∙ words_by xs ys all
          (λ j q.
          let l : j < length ps = omega arith in
          let h : j < length (take p.count p.items) = omega arith in
          inv.1 j (omega arith)
          ∙ ap (λ (i : ℕ). record { about = i; entry = b.word i }) (ap (λ (is : List ℕ). get_or is j 0) held ∙ named_at p.count p.items ps (replicate (4 - length ps) 0) j c.tells-picked.ensures.items l h)
          ∙ sym (item_at ps b j l));
      rest = λ k l m. inv.2 k (omega arith) m;
    }
