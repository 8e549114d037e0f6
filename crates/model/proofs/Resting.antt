-- Rest: the test of it is right, and quiet is rest.
use Rattle.std.proofs.Common.{◌≡◌, ℕ, ◌<◌, Bool, not, ◌&&◌, ◌||◌, T, eqb, ltb, subst, arith, eqb→eq, ltb→lt, lt→ltb}
use Rattle.std.proofs.lemmas.Bool.Decides.{nat_tests}
use Rattle.model.specs.Words.{World, world}
use Rattle.model.specs.Promise.{all_below, own_true, Even, Rest, QuietIsRest}
use Rattle.model.specs.Settling.{at_rest, RestTest}
use Rattle.model.specs.Roads.{item_of}
use Rattle.model.proofs.Tests.{t_true, true_t, both_t, left_t, right_t, since_t, t_since, eq_t}
use Rattle.model.proofs.Below.{below_so, so_below}
use Rattle.model.proofs.Sizes.{world_n}
use Rattle.model.proofs.Fresh.{same_both}

-- either no road, or something was said
road_said : (r k : ℕ) → T (eqb r 0 || ltb 0 k) → 0 < r → 0 < k
road_said r k h p = grind (arith, nat_tests, t_true (eqb r 0 || ltb 0 k) h)

said_road : (r k : ℕ) → (0 < r → 0 < k) → T (eqb r 0 || ltb 0 k)
said_road r k h = true_t (eqb r 0 || ltb 0 k) (grind (arith, nat_tests))

-- what a router has said of itself is so
pub own_so_lem : (a : ℕ) (w : World) → T (own_true a w) → (x : ℕ) → x < w.n → ((w.knows a a).road x ≡ w.real a x) × (0 < w.real a x → 0 < (w.knows a a).number)
own_so_lem a w h x l =
    let k = below_so w.n (λ x. eqb ((w.knows a a).road x) (w.real a x) && (eqb (w.real a x) 0 || ltb 0 (w.knows a a).number)) h x l in (
      eqb→eq ((w.knows a a).road x) (w.real a x) (left_t (eqb ((w.knows a a).road x) (w.real a x)) (eqb (w.real a x) 0 || ltb 0 (w.knows a a).number) k),
      road_said (w.real a x) (w.knows a a).number (right_t (eqb ((w.knows a a).road x) (w.real a x)) (eqb (w.real a x) 0 || ltb 0 (w.knows a a).number) k),
    )

-- the other way
pub so_own : (a : ℕ) (w : World) → ((x : ℕ) → x < w.n → ((w.knows a a).road x ≡ w.real a x) × (0 < w.real a x → 0 < (w.knows a a).number)) → T (own_true a w)
so_own a w h = so_below w.n (λ x. eqb ((w.knows a a).road x) (w.real a x) && (eqb (w.real a x) 0 || ltb 0 (w.knows a a).number))
    (λ x l. both_t (eqb ((w.knows a a).road x) (w.real a x)) (eqb (w.real a x) 0 || ltb 0 (w.knows a a).number) (eq_t ((w.knows a a).road x) (w.real a x) (h x l).0) (said_road (w.real a x) (w.knows a a).number (h x l).1))

-- rest from what holds at each router
pub rest_from : (w : World) → Even w → ((a : ℕ) → a < w.n → T (own_true a w)) →
    ((a e i : ℕ) → a < w.n → e < w.n → i < w.n → 0 < w.real a e → 0 < w.real e a → ((w.knows a i).number ≡ (w.knows e i).number) × ((w.knows a i).tag ≡ (w.knows e i).tag)) → Rest w
rest_from w v o k = record {
  even = v;
  own = λ a x l m. (own_so_lem a w (o a l) x m).0;
  said = λ a e l m r q. (own_so_lem a w (o a l) e m).1 r;
  alike = k;
}

-- at rest each has said what is so
rest_own : (w : World) → Rest w → (a : ℕ) → a < w.n → T (own_true a w)
rest_own w r a l = so_own a w (λ x m. (r.own a x l m, λ p. r.said a x l m p (r.even a x l m p)))

-- the test of rest is right
pub rest_test_lem : RestTest
rest_test_lem w = (to, from)
  where
    out : ℕ → ℕ → Bool
    out a e = ltb 0 (w.real a e)

    shared : ℕ → ℕ → Bool
    shared a e = out a e && out e a

    number : ℕ → ℕ → ℕ → Bool
    number a e i = eqb (w.knows a i).number (w.knows e i).number

    tag : ℕ → ℕ → ℕ → Bool
    tag a e i = eqb (w.knows a i).tag (w.knows e i).tag

    same : ℕ → ℕ → ℕ → Bool
    same a e i = number a e i && tag a e i

    evenly : ℕ → ℕ → Bool
    evenly a e = not (out a e) || out e a

    alike : ℕ → ℕ → Bool
    alike a e = not (shared a e) || all_below w.n (same a e)

    pair : ℕ → ℕ → Bool
    pair a e = evenly a e && alike a e

    box : ℕ → Bool
    box a = own_true a w && all_below w.n (pair a)

    to : T (at_rest w) → Rest w
    to h = rest_from w
        (λ a e l m p. ltb→lt 0 (w.real e a) (t_since (out a e) (out e a) (left_t (evenly a e) (alike a e) (two a e l m)) (lt→ltb 0 (w.real a e) p)))
        (λ a l. left_t (own_true a w) (all_below w.n (pair a)) (all a l))
        (λ a e i l m k p q.
        let s = below_so w.n (same a e) (t_since (shared a e) (all_below w.n (same a e)) (right_t (evenly a e) (alike a e) (two a e l m)) (both_t (out a e) (out e a) (lt→ltb 0 (w.real a e) p) (lt→ltb 0 (w.real e a) q))) i k in
        (eqb→eq (w.knows a i).number (w.knows e i).number (left_t (number a e i) (tag a e i) s), eqb→eq (w.knows a i).tag (w.knows e i).tag (right_t (number a e i) (tag a e i) s)))
      where
        all : (a : ℕ) → a < w.n → T (box a)
        all = below_so w.n box h

        two : (a e : ℕ) → a < w.n → e < w.n → T (pair a e)
        two a e l m = below_so w.n (pair a) (right_t (own_true a w) (all_below w.n (pair a)) (all a l)) e m

    from : Rest w → T (at_rest w)
    from r = so_below w.n box (λ a l. both_t (own_true a w) (all_below w.n (pair a)) (rest_own w r a l) (so_below w.n (pair a) (λ e m. both_t (evenly a e) (alike a e)
        (since_t (out a e) (out e a) (λ p. lt→ltb 0 (w.real e a) (r.even a e l m (ltb→lt 0 (w.real a e) p))))
        (since_t (shared a e) (all_below w.n (same a e)) (λ p. so_below w.n (same a e) (λ i k.
        let q = r.alike a e i l m k (ltb→lt 0 (w.real a e) (left_t (out a e) (out e a) p)) (ltb→lt 0 (w.real e a) (right_t (out a e) (out e a) p)) in
        both_t (number a e i) (tag a e i) (eq_t (w.knows a i).number (w.knows e i).number q.0) (eq_t (w.knows a i).tag (w.knows e i).tag q.1)))))))

-- when nothing is new to a neighbour and each has said what is so, that is rest
pub quiet_is_rest_lem : QuietIsRest
quiet_is_rest_lem n es v q o = rest_from (world n es) v
    (λ a l. o a (subst (λ k. a < k) (world_n n es) l))
    (λ a e i l m k p r. let l' = subst (λ k. a < k) (world_n n es) l in let m' = subst (λ k. e < k) (world_n n es) m in let k' = subst (λ k. i < k) (world_n n es) k in
    same_both (item_of ((world n es).knows a i)) (item_of ((world n es).knows e i)) (q a e i l' m' k' p r) (q e a i m' l' k' r p))
