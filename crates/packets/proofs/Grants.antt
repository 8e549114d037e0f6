-- No second has more than ten grants.
use Rattle.std.proofs.Common.{◌≡◌, ℕ, ◌+◌, ◌-◌, ◌/◌, ◌<◌, ◌≤◌, true, false, cond, ◌&&◌, eqb, ltb, List, [], ◌∷◌, ⊎_elim, arith}
use Rattle.std.proofs.lemmas.Bool.{cases_eq, cases_lt, eq-eqb, ne_eqb, lt-ltb, le-ltb}
use Rattle.std.proofs.lemmas.Bool.Decides.{nat_tests}
use Rattle.packets.specs.declared.error_quota.Quota.{Quota}
use Rattle.packets.specs.Quotas.{AtMostTen, NeverFall, grants_in, unspent}

-- how many more a second can get
abbrev room : ℕ → Quota → ℕ
room s q = cond (eqb s q.second) (10 - q.made) (cond (ltb s q.second) 0 10)

-- one more in the same second, the first in a later one, and none
more : (s t g : ℕ) (q : Quota) → t / 10 ≡ q.second → q.made < 10 → g ≤ room s (record { second = t / 10; made = q.made + 1 }) → cond (eqb (t / 10) s && true) 1 0 + g ≤ room s q
more s t g q e l h = grind (arith, nat_tests)

first : (s t g : ℕ) (q : Quota) → q.second ≤ t / 10 → (t / 10 ≡ q.second → ⊥) → g ≤ room s (record { second = t / 10; made = 1 }) → cond (eqb (t / 10) s && true) 1 0 + g ≤ room s q
first s t g q l ne h = grind (arith, nat_tests)

none : (s t g : ℕ) (q : Quota) → g ≤ room s q → cond (eqb (t / 10) s && false) 1 0 + g ≤ room s q
none s t g q h = grind (arith, nat_tests)

few : (ticks : List ℕ) (s : ℕ) (q : Quota) → NeverFall q.second ticks → q.made ≤ 10 → grants_in s q ticks ≤ room s q
few [] s q h m = omega arith
few (t ∷ ts) s q h m =
    ⊎_elim
    (λ e. ⊎_elim
    (λ l. rw (eq-eqb (t / 10) q.second e, lt-ltb q.made 10 l) (more s t _ q e l (few ts s (record { second = t / 10; made = q.made + 1 }) h.1 (omega arith))))
    (λ l. rw (eq-eqb (t / 10) q.second e, le-ltb q.made 10 l) (none s t _ q (few ts s q (rw e at h.1) m)))
    (cases_lt q.made 10))
    (λ e. rw (ne_eqb (t / 10) q.second e) (first s t _ q h.0 e (few ts s (record { second = t / 10; made = 1 }) h.1 (omega arith))))
    (cases_eq (t / 10) q.second)

pub at_most_ten_lem : AtMostTen
at_most_ten_lem ticks s h = let l = few ticks s unspent h (omega arith) in grind (arith, nat_tests)
