-- Going through all keeps the newest.
use Rattle.std.proofs.Common.{◌≡◌, ◌∷◌, [], cond, sym, ap, ◌∙◌, subst, refl, rules}
use Rattle.std.specs.List.{best_of}
use Rattle.std.proofs.lemmas.Fn.{fold_over}
use Rattle.std.proofs.lemmas.List.Sums.{fold-append}
use Rattle.std.proofs.iter.Yields.{fronts, slice_gives}
use Rattle.chart.specs.declared.held.Held.{Held}
use Rattle.chart.specs.Holding.{Newest, goes_before}
use Rattle.chart.proofs.Ranking.{newest_of}
use Rattle.chart.proofs.held.newest.Goals as goal

pub returns : goal.returns
returns c =
    let first = c.args.first in
    let xs = c.args.others.now in
    let e : c.fold.result ≡ best_of goes_before first xs =
    subst (λ l. c.fold.result ≡ best_of goes_before first l) c.iter.ensures.rest
    (fold_over fronts (λ y. y.now) _ (λ ys r. r ≡ best_of goes_before first ys) _
    (λ ys a x b f' j k. let b_is : b ≡ cond (goes_before x.now a) x.now a = search rules in
    (b_is ∙ ap (λ a. cond (goes_before x.now a) x.now a) j ∙ sym (fold-append (λ (b x : Held). cond (goes_before x b) x b) first ys (x.now ∷ [])), search rules))
    _ _ _ _ (slice_gives c.iter.result) refl c.fold.ensures.ran) in
    subst (λ r. Newest first xs r) (sym e) (newest_of first xs)
