-- When nothing is new to a neighbour and nobody owes, that is rest; and the test of rest is right.
use Rattle.std.proofs.Common.{ℕ, ◌<◌, Bool, not, ◌&&◌, ◌||◌, T, eqb, eqb→eq}
use Rattle.std.proofs.lemmas.Bool.{not-true, not_from_false}
use Rattle.model.specs.Promise.{all_below}
use Rattle.model.specs.Spread.{owes, Settled, settled, QuietFor, SettledTest}
use Rattle.model.proofs.Tests.{t_true, true_t, eq_t, both_t, left_t, right_t, since_t, t_since}
use Rattle.model.proofs.Below.{below_so, so_below}
use Rattle.model.proofs.Fresh.{same_both}

pub quiet_for_lem : (P : Type 0) → QuietFor P
quiet_for_lem P s w i same none = record { own = none; alike = λ a e m n p q. same_both (w.holds a i) (w.holds e i) (same a e m n p q) (same e a n m q p) }

pub settled_test_lem : (P : Type 0) → SettledTest P
settled_test_lem P s w i = (to, back)
  where
    shared : ℕ → ℕ → Bool
    shared a e = w.link a e && w.link e a

    number : ℕ → ℕ → Bool
    number a e = eqb (w.holds a i).number (w.holds e i).number

    tag : ℕ → ℕ → Bool
    tag a e = eqb (w.holds a i).tag (w.holds e i).tag

    pair : ℕ → ℕ → Bool
    pair a e = not (shared a e) || (number a e && tag a e)

    box : ℕ → Bool
    box a = not (owes s w a i) && all_below s.boxes (pair a)

    to : T (settled s w i) → Settled s w i
    to t = record {
      own = λ a m. not-true (owes s w a i) (t_true (not (owes s w a i)) (left_t (not (owes s w a i)) (all_below s.boxes (pair a)) (all a m)));
      alike = λ a e m n p q.
          let h = t_since (shared a e) (number a e && tag a e) (below_so s.boxes (pair a) (right_t (not (owes s w a i)) (all_below s.boxes (pair a)) (all a m)) e n)
          (both_t (w.link a e) (w.link e a) (true_t (w.link a e) p) (true_t (w.link e a) q)) in
          (eqb→eq (w.holds a i).number (w.holds e i).number (left_t (number a e) (tag a e) h), eqb→eq (w.holds a i).tag (w.holds e i).tag (right_t (number a e) (tag a e) h));
    }
      where
        all : (a : ℕ) → a < s.boxes → T (box a)
        all = below_so s.boxes box t

    back : Settled s w i → T (settled s w i)
    back r = so_below s.boxes box (λ a m. both_t (not (owes s w a i)) (all_below s.boxes (pair a)) (true_t (not (owes s w a i)) (not_from_false (owes s w a i) (r.own a m))) (so_below s.boxes (pair a) (λ e n.
        since_t (shared a e) (number a e && tag a e) (λ t.
        let h = r.alike a e m n (t_true (w.link a e) (left_t (w.link a e) (w.link e a) t)) (t_true (w.link e a) (right_t (w.link a e) (w.link e a) t)) in
        both_t (number a e) (tag a e) (eq_t (w.holds a i).number (w.holds e i).number h.0) (eq_t (w.holds a i).tag (w.holds e i).tag h.1)))))
