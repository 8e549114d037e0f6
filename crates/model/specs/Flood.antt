-- Flooding, whatever is said: boxes that tell each other the newest item of each subject, links that each end opens and closes by itself, copies that come late, and boxes that fall. Assumes nothing.
use Rattle.std.specs.Prelude.{◌≡◌, ℕ, zero, suc, Bool, true, false, cond, not, ◌&&◌, ◌||◌, List, [], ◌∷◌, ◌++◌, ◌==◌, nat_lt}
use Rattle.model.specs.Words.{is_in, at2}

-- what was said of a subject: a number, a tag that is never drawn twice, and what it says. Number 0: nothing was said
pub record Item (P : Type 0) : Type 0 where
  pub number : ℕ
  pub tag : ℕ
  pub body : P

-- the larger number, or with equal numbers the larger tag
abbrev pub fresher : {P : Type 0} → Item P → Item P → Bool
fresher x y = nat_lt y.number x.number || (y.number == x.number && nat_lt y.tag x.tag)

-- an item on its way over a link: what somebody had of a subject when it told it
pub record Copy (P : Type 0) : Type 0 where
  pub from : ℕ
  pub to : ℕ
  pub about : ℕ
  pub item : Item P

-- what is given: how many boxes and subjects; the body of what was never said; when two bodies say the same; which body need not be said by who said nothing; who speaks for whom, and would say what, at the beginning
pub record Setup (P : Type 0) : Type 0 where
  pub boxes : ℕ
  pub subjects : ℕ
  pub blank : P
  pub same : P → P → Bool
  pub same_self : (p : P) → same p p ≡ true
  pub mute : P → Bool
  pub speaks : ℕ → ℕ → Bool
  pub would : ℕ → ℕ → P

-- link a e: a holds its link to e open. speaks a i: box a speaks for subject i. would a i: what it would say of it now. holds a i: what a has of i. had a i: all that it ever had of i, the latest first.
-- flight: all copies that were ever told; any may come, again and again, or never
pub record Net (P : Type 0) : Type 0 where
  pub link : ℕ → ℕ → Bool
  pub speaks : ℕ → ℕ → Bool
  pub would : ℕ → ℕ → P
  pub holds : ℕ → ℕ → Item P
  pub had : ℕ → ℕ → List (Item P)
  pub flight : List (Copy P)
  pub drawn : List ℕ

-- Turns: from now on box a holds just these links open, speaks for these subjects, and would say this. Speaks: it says so of subject i. Tells: a tells e what it has of i. Gets: the so-manieth copy comes.
-- Back: box a falls and comes back with something that it had before of each subject: 0 nothing at all, 1 the latest, 2 the one before, and so on
pub data Act (P : Type 0) : Type 0 where
  Turns : (a : ℕ) (links speaks : ℕ → Bool) (would : ℕ → P) → Act P
  Speaks : (a i tag : ℕ) → Act P
  Tells : (a e i : ℕ) → Act P
  Gets : (which tag : ℕ) → Act P
  Back : (a : ℕ) (to : ℕ → ℕ) → Act P

-- one row of a table replaced
abbrev pub row : {A : Type 0} → ℕ → A → (ℕ → A) → ℕ → A
row a x f p = cond (p == a) x (f p)

abbrev pub unspoken : {P : Type 0} → Setup P → Item P
unspoken s = record { number = 0; tag = 0; body = s.blank }

-- box a has x of subject i from now on, for which these tags were drawn
abbrev pub puts : {P : Type 0} → ℕ → ℕ → Item P → List ℕ → Net P → Net P
puts a i x ts w = record { link = w.link; speaks = w.speaks; would = w.would; holds = at2 a i x w.holds; had = at2 a i (x ∷ w.had a i) w.had; flight = w.flight; drawn = ts ++ w.drawn }

-- what a says of i now, above a number
abbrev pub spoken : {P : Type 0} → ℕ → ℕ → ℕ → ℕ → Net P → Item P
spoken a i number t w = record { number = suc number; tag = t; body = w.would a i }

-- a copy comes. If it is fresher than what the box has, the box takes it; but who speaks for that subject says anew, above it
abbrev pub taken : {P : Type 0} → Copy P → ℕ → Net P → Net P
taken x t w = cond (fresher x.item (w.holds x.to x.about))
    (cond (w.speaks x.to x.about) (puts x.to x.about (spoken x.to x.about x.item.number t w) (t ∷ []) w)
    (puts x.to x.about x.item [] w)) w

abbrev pub gets : {P : Type 0} → Copy P → ℕ → Net P → Net P
gets x t w = cond (w.link x.to x.from && not (is_in t w.drawn)) (taken x t w) w

unfoldable pub gets_nth : {P : Type 0} → ℕ → ℕ → List (Copy P) → Net P → Net P
gets_nth k t [] w = w
gets_nth zero t (x ∷ xs) w = gets x t w
gets_nth (suc k) t (x ∷ xs) w = gets_nth k t xs w

-- the so-manieth from the latest, counted from 1; 0, or too far back: nothing
unfoldable pub recall : {A : Type 0} → A → ℕ → List A → A
recall z k [] = z
recall z zero (x ∷ xs) = z
recall z (suc k) (x ∷ xs) = cond (k == 0) x (recall z k xs)

abbrev pub act : {P : Type 0} → Setup P → Act P → Net P → Net P
act s (Turns a l sp p) w = cond (nat_lt a s.boxes)
    (record { link = row a l w.link; speaks = row a sp w.speaks; would = row a p w.would; holds = w.holds; had = w.had; flight = w.flight; drawn = w.drawn }) w
act s (Speaks a i t) w = cond (nat_lt a s.boxes && (nat_lt i s.subjects && (w.speaks a i && not (is_in t w.drawn)))) (puts a i (spoken a i (w.holds a i).number t w) (t ∷ []) w) w
act s (Tells a e i) w = cond (nat_lt a s.boxes && (nat_lt e s.boxes && (nat_lt i s.subjects && w.link a e)))
    (record { link = w.link; speaks = w.speaks; would = w.would; holds = w.holds; had = w.had; flight = record { from = a; to = e; about = i; item = w.holds a i } ∷ w.flight; drawn = w.drawn }) w
act s (Gets k t) w = gets_nth k t w.flight w
act s (Back a to) w = cond (nat_lt a s.boxes)
    (record { link = w.link; speaks = w.speaks; would = w.would; holds = row a (λ i. recall (unspoken s) (to i) (w.had a i)) w.holds; had = w.had; flight = w.flight; drawn = w.drawn }) w

-- nobody holds a link open and nobody has anything
abbrev pub idle : {P : Type 0} → Setup P → Net P
idle s = record { link = λ a e. false; speaks = s.speaks; would = s.would; holds = λ a i. unspoken s; had = λ a i. []; flight = []; drawn = [] }

-- by acts, the latest first
unfoldable pub net : {P : Type 0} → Setup P → List (Act P) → Net P
net s [] = idle s
net s (e ∷ es) = act s e (net s es)
