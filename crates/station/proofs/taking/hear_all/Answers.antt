-- Each turn hears one word.
use Rattle.std.proofs.Common.{◌≡◌, ◌<◌, List, [], ◌∷◌, map, length, get_or, None, Option, sym, refl, ap, ◌∙◌, subst, arith, rules}
use Rattle.messages.specs.declared.values.Word.{Word}
use Rattle.router.specs.State.{box_of}
use Rattle.router.specs.declared.answers.Outcome.{Outcome}
use Rattle.linkmodel.specs.Station.{takes_all}
use Rattle.station.specs.Ticking.{item_of}
use Rattle.station.proofs.Carrying.{four_blank}
use Rattle.station.proofs.Scans.{few_told}
use Rattle.station.proofs.TakingWords.{GoodWords, good_told, heard_end, heard_more, heard_none, outcomes, outcomes_end, outcomes_told, takes_told}
use Rattle.station.proofs.taking.hear_all.Goals as goal

pub loop-k-init : goal.loop-k-init
loop-k-init c =
    let a = c.args in
    let p = a.words in
    let l : length p.items ≡ 4 = search rules in
    let ws = c.held-told.result.now in (
      heard_none a.fits a.from ws a.tags (box_of a.router) (None ∷ None ∷ None ∷ None ∷ []) refl (four_blank None None refl) (subst (GoodWords a.router.n) (sym c.held-told.ensures) (good_told a.router.n p.count p.items c.requires.1.1)),
      few_told p.count 4 p.items ws l c.held-told.ensures,
    )

pub loop-k-preserved : goal.loop-k-preserved
loop-k-preserved c =
    let a = c.args in
    let m : length a.tags ≡ 4 = search rules in
    let k = c.loop-k.k in
    let inv = c.loop-k.invariant in
    let few : k < 4 = omega (arith, inv.1, c.loop-k-test.true) in
    let tagged : k < length a.tags = omega arith in
    let one = c.hear_one-outcome in (
      heard_more a.fits a.from c.held-told.result.now a.tags (box_of a.router) k (box_of c.loop-k.next) (box_of one.result.0) c.loop-k.outcomes one.result.1 few c.loop-k-test.true tagged inv.0 one.ensures.is one.ensures.outcome,
      inv.1,
    )

pub returns : goal.returns
returns c =
    let a = c.args in
    let p = a.words in
    let r = box_of a.router in
    let b = box_of c.loop-k.next in
    let ws = c.held-told.result.now in
    let k = c.loop-k.k in
    let os = c.loop-k.outcomes in
    let inv = c.loop-k.invariant.0 in
    record {
      is = heard_end a.fits a.from ws a.tags r k b os c.loop-k-test.false inv
          ∙ ap (λ (ys : List Word). takes_all a.fits a.from (map item_of ys) a.tags r) c.held-told.ensures ∙ sym (takes_told a.fits a.from p.count p.items a.tags r);
      outcomes = λ j. outcomes_end a.fits a.from ws a.tags r k b os c.loop-k-test.false inv j
          ∙ ap (λ (ys : List Word). get_or (outcomes a.fits a.from ys a.tags r) j None) c.held-told.ensures
          ∙ ap (λ (us : List (Option Outcome)). get_or us j None) (sym (outcomes_told a.fits a.from p.count p.items a.tags r));
    }
