-- A word that is taken is the event that it comes; a fall is the closing of each open road, and then the fall.
use Rattle.std.proofs.Common.{◌≡◌, ℕ, zero, suc, ◌<◌, ◌≤◌, Bool, true, false, cond, not, ◌&&◌, eqb, ltb, List, ◌∷◌, ◌++◌, sym, refl, ap, ◌∙◌, le_refl, arith}
use Rattle.std.proofs.lemmas.Bool.{eqb-true, lt-ltb, ltb-true, ltb-false, eq-eqb, ne_eqb, le-ltb, and_from, and_left, and_right, cond-true, cond-false}
use Rattle.std.proofs.lemmas.Bool.Decides.{nat_tests}
use Rattle.model.specs.Words.{World, Ev, Road, Comes, Falls, world}
use Rattle.model.specs.Flood.{row}
use Rattle.model.specs.Box.{Box, Stands, is_open, road_is, takes, forgets, fallen, closings}
use Rattle.model.specs.Boxes.{TakesSo, FallSo}
use Rattle.model.proofs.Tests.{of_cond}
use Rattle.model.proofs.Sizes.{world_n, no_road}
use Rattle.model.proofs.Rows.{Like, like_of, stands_of, like_road, like_falls, like_takes}
use Rattle.model.proofs.BoxCode.{one_more, one_comes}

pub takes_so_lem : TakesSo
takes_so_lem s es i t x st h here f =
    let n = s.n in
    let a = s.me in
    (stands_of n a (takes x t s) (Comes i t ∷ es) st.is_one (one_comes n a es i t x (takes x t s) h (like_takes n a st.is_one (world n es) (world_n n es) s x t here f (like_of n a s es (refl, refl, st))))).2

-- a row of a world as a box that was shown nothing
abbrev box_of : ℕ → ℕ → World → Box
box_of n a w = record { n = n; me = a; cost = w.real a; word = w.knows a; shown = λ e i. false }

box_of_like : (n a : ℕ) (w : World) → Like n a w (box_of n a w)
box_of_like n a w = record { size = refl; self = refl; real = λ e. refl; knows = λ i. refl }

-- one more is closed
closed_more : (q k c : ℕ) → cond (eqb q k) 0 (cond (ltb q k) 0 c) ≡ cond (ltb q (suc k)) 0 c
closed_more q k c = grind (arith, nat_tests)

closed_had : (q k c : ℕ) → (q ≡ k → c ≡ 0) → cond (ltb q k) 0 c ≡ cond (ltb q (suc k)) 0 c
closed_had q k c h = go (eqb q k) refl
  where
    go : (b : Bool) → eqb q k ≡ b → cond (ltb q k) 0 c ≡ cond (ltb q (suc k)) 0 c
    go true e = let z : c ≡ 0 = h (eqb-true q k e) in rw z (grind (arith, nat_tests))
    go false e = grind (arith, nat_tests)

-- a box has no road to itself
open_other : (s : Box) (es : List Ev) → Stands s es → (k : ℕ) → 0 < s.cost k → s.me ≡ k → ⊥
open_other s es st k o e =
    let z : (world s.n es).real s.me k ≡ 0 = no_road s.n es s.me k (and_right (ltb k s.n) (not (eqb s.me k)) (ap not (eq-eqb s.me k e))) in
    let y : s.cost k ≡ 0 = sym (st.real k) ∙ z in
    omega arith

-- after its roads to the boxes below k are closed
closed_to_lem : (s : Box) (es : List Ev) → Stands s es → (k : ℕ) → k ≤ s.n → (q : ℕ) → (world s.n (closings s k ++ es)).real s.me q ≡ cond (ltb q k) 0 (s.cost q)
unfolding closings
closed_to_lem s es st zero l q = st.real q ∙ sym (cond-false (ltb q 0) 0 (s.cost q) (le-ltb q 0 (omega arith)))
closed_to_lem s es st (suc k) l q = go (is_open k s) refl (closed_to_lem s es st k (omega arith) q)
  where
    go : (b : Bool) → is_open k s ≡ b → (world s.n (closings s k ++ es)).real s.me q ≡ cond (ltb q k) 0 (s.cost q) →
        (world s.n (cond b (Road s.me k 0 ∷ closings s k) (closings s k) ++ es)).real s.me q ≡ cond (ltb q (suc k)) 0 (s.cost q)
    go true o r =
        let w : World = world s.n (closings s k ++ es) in
        let other : eqb s.me k ≡ false = ne_eqb s.me k (λ e. open_other s es st k (ltb-true 0 (s.cost k) o) e) in
        (one_more s.n s.me (closings s k ++ es) (Road s.me k 0) (road_is k 0 (box_of s.n s.me w)) (like_road s.n s.me st.is_one w (world_n s.n (closings s k ++ es)) (box_of s.n s.me w) k 0 (box_of_like s.n s.me w))).real q
        ∙ (ap (λ (f : ℕ → ℕ). f q) (cond-true (ltb k s.n && not (eqb s.me k)) (row k 0 (w.real s.me)) (w.real s.me) (and_from (ltb k s.n) (not (eqb s.me k)) (lt-ltb k s.n l) (ap not other)))
        ∙ (ap (λ (x : ℕ). cond (eqb q k) 0 x) r ∙ closed_more q k (s.cost q)))
    go false o r = r ∙ closed_had q k (s.cost q) (λ e. ap s.cost e ∙ (let z : s.cost k ≤ 0 = ltb-false 0 (s.cost k) o in omega arith))

-- and of those that there are none is open
closed_all : (s : Box) (es : List Ev) → Stands s es → (q : ℕ) → cond (ltb q s.n) 0 (s.cost q) ≡ 0
closed_all s es st q =
    of_cond (λ (x : ℕ). x ≡ 0) (ltb q s.n) 0 (s.cost q) (λ _. refl) (λ h. sym (st.real q) ∙ no_road s.n es s.me q (and_left (ltb q s.n) (not (eqb s.me q)) h))

pub fall_so_lem : FallSo
fall_so_lem s es st =
    let n = s.n in
    let a = s.me in
    let fs : List Ev = closings s n ++ es in
    let k = one_more n a fs (Falls a) (forgets (box_of n a (world n fs))) (like_falls n a st.is_one (world n fs) (world_n n fs) (box_of n a (world n fs)) (box_of_like n a (world n fs))) in
    (stands_of n a (fallen s) (Falls a ∷ fs) st.is_one (record { size = refl; self = refl; real = λ q. k.real q ∙ (closed_to_lem s es st n (le_refl n) q ∙ closed_all s es st q); knows = k.knows })).2
