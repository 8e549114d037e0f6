-- Two boxes as the promises about both ends of a wire ask: each gets at once what the other sends, one of them only while a line holds.
use Rattle.std.proofs.Common.{◌≡◌, ℕ, zero, suc, ◌<◌, Bool, true, cond, ◌&&◌, ltb, List, [], ◌∷◌, sym, refl, ap, subst, inl, inr, arith, ltb-true}
use Rattle.model.proofs.Tests.{of_cond, cond-true}
use Rattle.linkmodel.proofs.Bools.{and_left, and_right, and_both}
use Rattle.linkmodel.specs.Links.{Silent, Hello, Links, passes, hello_for, sends_hello}
use Rattle.linkmodel.specs.Hellos.{Input, Hears, links_after}
use Rattle.linkmodel.specs.Agreeing.{Run, links_at, ticked_at, is_of, SentLately, Fair, End, Came, CanAgree}

abbrev begin : ℕ → ℕ → Links
begin me d = record { n = 2; me = me; drawn = d; tick = 0; cost = λ w. 1; wire = λ w. Silent; last = λ e. 0 }

-- what comes of what this box sends now
abbrev coming : Bool → Links → List Input
coming b s = cond (b && sends_hello 0 s) (Hears 0 (hello_for 0 s) ∷ []) []

-- both boxes after so many steps; line k: what box 0 sends in step k comes
pair : (ℕ → Bool) → ℕ → Links × Links
pair line zero = (begin 0 7, begin 1 9)
pair line (suc k) = (links_after (passes (pair line k).0) (coming true (passes (pair line k).1)), links_after (passes (pair line k).1) (coming (line k) (passes (pair line k).0)))

abbrev zeroth : (ℕ → Bool) → Run
zeroth line = record { start = begin 0 7; met = λ k. coming true (passes (pair line k).1) }

abbrev first : (ℕ → Bool) → Run
first line = record { start = begin 1 9; met = λ k. coming (line k) (passes (pair line k).0) }

at_zeroth : (line : ℕ → Bool) (k : ℕ) → links_at (zeroth line) k ≡ (pair line k).0
unfolding links_at pair
at_zeroth line zero = refl
at_zeroth line (suc k) = ap (λ (s : Links). links_after (passes s) (coming true (passes (pair line k).1))) (at_zeroth line k)

at_first : (line : ℕ → Bool) (k : ℕ) → links_at (first line) k ≡ (pair line k).1
unfolding links_at pair
at_first line zero = refl
at_first line (suc k) = ap (λ (s : Links). links_after (passes s) (coming (line k) (passes (pair line k).0))) (at_first line k)

-- what comes was sent, and the line held
came : (b : Bool) (s : Links) (i : Input) → is_of i (coming b s) → (b ≡ true) × (sends_hello 0 s ≡ true) × (i ≡ Hears 0 (hello_for 0 s))
unfolding is_of
came b s i m = of_cond (λ (l : List Input). is_of i l → (b ≡ true) × (sends_hello 0 s ≡ true) × (i ≡ Hears 0 (hello_for 0 s))) (b && sends_hello 0 s) (Hears 0 (hello_for 0 s) ∷ []) []
    (λ e. elim [ inl q ↦ (and_left b (sends_hello 0 s) e, and_right b (sends_hello 0 s) e, q) | inr q ↦ absurd q ]) (λ _ q. absurd q) m

goes_on : (b : Bool) (s : Links) → b ≡ true → sends_hello 0 s ≡ true → is_of (Hears 0 (hello_for 0 s)) (coming b s)
unfolding is_of
goes_on b s p q = subst (is_of (Hears 0 (hello_for 0 s))) (sym (cond-true (b && sends_hello 0 s) (Hears 0 (hello_for 0 s) ∷ []) [] (and_both b (sends_hello 0 s) p q))) (inl refl)

-- one box gets what the other sends, if the line holds
fair_one : (other : Run) (may : Hello → Type 0) (b : Bool) (k : ℕ) (s : Links) → links_at other k ≡ s → ((h : Hello) → b ≡ true → SentLately other 0 k h → may h) → (i : Input) → is_of i (coming b (passes s)) → Fair other 0 k may i
fair_one other may b k s e f i m =
    let c = came b (passes s) i m in
    subst (Fair other 0 k may) (sym c.2)
    ((λ _. f (hello_for 0 (passes s)) c.0 (record { step = k; so_far = omega arith; lately = omega arith; goes = subst (λ (x : Links). sends_hello 0 (passes x) ≡ true) (sym e) c.1; is = ap (λ (x : Links). hello_for 0 (passes x)) (sym e) })), λ n. absurd (n refl))

end_zeroth : (line : ℕ → Bool) → End (zeroth line) (first line) 0 (SentLately (first line) 0)
end_zeroth line = record {
  box = omega arith;
  net = refl;
  apart = λ e. omega arith;
  drew = omega arith;
  there = omega arith;
  costs = omega arith;
  past = omega arith;
  fair = λ k. fair_one (first line) (SentLately (first line) 0 k) true k (pair line k).1 (at_first line k) (λ h _ p. p);
}

end_first : (line : ℕ → Bool) (may : ℕ → Hello → Type 0) → ((k : ℕ) (h : Hello) → line k ≡ true → SentLately (zeroth line) 0 k h → may k h) → End (first line) (zeroth line) 0 may
end_first line may f = record {
  box = omega arith;
  net = refl;
  apart = λ e. omega arith;
  drew = omega arith;
  there = omega arith;
  costs = omega arith;
  past = omega arith;
  fair = λ k. fair_one (zeroth line) (may k) (line k) k (pair line k).0 (at_zeroth line k) (f k);
}

comes_one : (one other : Run) (j : ℕ) (s : Links) → links_at other j ≡ s → one.met j ≡ coming true (passes s) → sends_hello 0 (ticked_at other j) ≡ true → Came one other 0 0 j
comes_one one other j s e m q = (
  j,
  omega arith,
  omega arith,
  subst (λ (l : List Input). is_of (Hears 0 (hello_for 0 (ticked_at other j))) l) (sym m) (subst (λ (x : Links). is_of (Hears 0 (hello_for 0 (passes x))) (coming true (passes s))) (sym e) (goes_on true (passes s) refl (subst (λ (x : Links). sends_hello 0 (passes x) ≡ true) e q))),
)

pub can_agree_lem : CanAgree
can_agree_lem = (
  (
    zeroth (λ k. true),
    first (λ k. true),
    0,
    0,
    end_zeroth (λ k. true),
    end_first (λ k. true) (SentLately (zeroth (λ k. true)) 0) (λ k h _ p. p),
    (λ j _ q. inl (comes_one (zeroth (λ k. true)) (first (λ k. true)) j (pair (λ k. true) j).1 (at_first (λ k. true) j) refl q)),
    (λ j _ q. inl (comes_one (first (λ k. true)) (zeroth (λ k. true)) j (pair (λ k. true) j).0 (at_zeroth (λ k. true) j) refl q)),
  ),
  (λ m. (zeroth (λ k. ltb k m), first (λ k. ltb k m), 0, 0, end_zeroth (λ k. ltb k m), end_first (λ k. ltb k m) (λ k h. (k < m) × SentLately (zeroth (λ k. ltb k m)) 0 k h) (λ k h e p. (ltb-true k m e, p)))),
)
