-- That roads and boxes stay as they are over moves, as a test that computes.
use Rattle.std.proofs.Common.{◌≡◌, ℕ, ◌<◌, Bool, ◌&&◌, T, eqb, List, [], ◌∷◌, ◌++◌, subst, arith, eqb-true}
use Rattle.model.specs.Promise.{all_below}
use Rattle.model.proofs.Tests.{t_true, left_t, right_t}
use Rattle.model.proofs.Below.{below_so}
use Rattle.netmodel.specs.Net.{Net, Move, net}
use Rattle.netmodel.specs.Standing.{Stays, AllStays}

-- box a's road to e, and the number that it heard of e last
abbrev same_to : ℕ → Net → Net → ℕ → Bool
same_to a x y e = eqb ((y.at a).box.cost e) ((x.at a).box.cost e) && eqb ((y.at a).links.last e) ((x.at a).links.last e)

-- all of box a
abbrev same_at : ℕ → Net → Net → ℕ → Bool
same_at n x y a = eqb (y.at a).links.drawn (x.at a).links.drawn && all_below n (same_to a x y)

abbrev pub is_still : ℕ → Net → Net → Bool
is_still n x y = all_below n (same_at n x y)

still_so : (n : ℕ) (x y : Net) → T (is_still n x y) → Stays n x y
still_so n x y h = record {
  roads = λ a e la le.
      let c = eqb ((y.at a).box.cost e) ((x.at a).box.cost e) in
      eqb-true ((y.at a).box.cost e) ((x.at a).box.cost e) (t_true c (left_t c (eqb ((y.at a).links.last e) ((x.at a).links.last e)) (to a e la le)));
  lasts = λ a e la le.
      let c = eqb ((y.at a).links.last e) ((x.at a).links.last e) in
      eqb-true ((y.at a).links.last e) ((x.at a).links.last e) (t_true c (right_t (eqb ((y.at a).box.cost e) ((x.at a).box.cost e)) c (to a e la le)));
  lives = λ a la.
      let c = eqb (y.at a).links.drawn (x.at a).links.drawn in
      eqb-true (y.at a).links.drawn (x.at a).links.drawn (t_true c (left_t c (all_below n (same_to a x y)) (below_so n (same_at n x y) h a la)));
}
  where
    to : (a e : ℕ) → a < n → e < n → T (same_to a x y e)
    to a e la le = below_so n (same_to a x y) (right_t (eqb (y.at a).links.drawn (x.at a).links.drawn) (all_below n (same_to a x y)) (below_so n (same_at n x y) h a la)) e le

-- at each moment of rs after ms
unfoldable pub all_still : ℕ → (ℕ → ℕ) → List Move → List Move → Bool
all_still n first [] ms = is_still n (net n first ms) (net n first ms)
all_still n first (m ∷ rs) ms = is_still n (net n first ms) (net n first (m ∷ (rs ++ ms))) && all_still n first rs ms

-- the test is right
pub all_still_so : (n : ℕ) (first : ℕ → ℕ) (rs ms : List Move) → T (all_still n first rs ms) → AllStays n first rs ms
unfolding all_still
all_still_so n first [] ms h [] before e = subst (λ (l : List Move). Stays n (net n first ms) (net n first (l ++ ms))) e (still_so n (net n first ms) (net n first ms) h)
all_still_so n first [] ms h (k ∷ later) before e = absurd (let z : ◌≡◌ {A = ℕ} 0 1 = cc in let y : ⊥ = omega arith in y)
all_still_so n first (m ∷ rs) ms h [] before e =
    subst (λ (l : List Move). Stays n (net n first ms) (net n first (l ++ ms))) e
    (still_so n (net n first ms) (net n first (m ∷ (rs ++ ms))) (left_t (is_still n (net n first ms) (net n first (m ∷ (rs ++ ms)))) (all_still n first rs ms) h))
all_still_so n first (m ∷ rs) ms h (k ∷ later) before e =
    all_still_so n first rs ms (right_t (is_still n (net n first ms) (net n first (m ∷ (rs ++ ms)))) (all_still n first rs ms) h) later before (let z : rs ≡ later ++ before = cc in z)
