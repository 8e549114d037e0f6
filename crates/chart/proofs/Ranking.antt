-- Going before is an order, so what is kept going through all is the newest.
use Rattle.std.proofs.Common.{◌≡◌, true, false, List, ◌∷◌, get_or, ◌∙◌, subst, arith}
use Rattle.std.specs.Cmp.{IsStrictWeakOrder}
use Rattle.std.specs.List.{best_of}
use Rattle.std.proofs.lemmas.List.MinMax.{IsFirstBest-from_best_of}
use Rattle.std.proofs.lemmas.List.{get_or_default}
use Rattle.std.proofs.lemmas.Bool.Decides.{nat_tests}
use Rattle.chart.specs.declared.held.Held.{Held}
use Rattle.chart.specs.Holding.{Newest, goes_before}

one_way : (x y : Held) → goes_before x y ≡ true → goes_before y x ≡ false
one_way x y h = grind (arith, nat_tests)

chain : (x y z : Held) → goes_before x y ≡ false → goes_before y z ≡ false → goes_before x z ≡ false
chain x y z h k = grind (arith, nat_tests)

ranks : IsStrictWeakOrder goes_before
ranks = record { one_way = one_way; chain = chain }

pub newest_of : (first : Held) (others : List Held) → Newest first others (best_of goes_before first others)
newest_of first others =
    let h = IsFirstBest-from_best_of ranks first others in
    let best = λ (d : Held). get_or_default (first ∷ others) h.0 d first h.1.0 ∙ h.2 in
    ((h.0, h.1.0, best (best_of goes_before first others)), λ i d l. subst (λ r. goes_before (get_or (first ∷ others) i d) r ≡ false) (best d) (h.1.1 i d l))
