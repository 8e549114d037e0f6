-- One act of flooding taken apart: what a copy that comes may do, what is put where, and that whatever holds of each thing that an act can do holds of the act.
use Rattle.std.proofs.Common.{◌≡◌, ℕ, zero, suc, ◌<◌, ◌≤◌, Bool, true, false, cond, not, ◌&&◌, ltb, List, [], ◌∷◌, refl, le_refl}
use Rattle.std.proofs.lemmas.Bool.{ltb-true, not-true, and_left, and_right, and_parts}
use Rattle.model.specs.Words.{is_in}
use Rattle.model.specs.Flood.{fresher, Copy, Setup, Net, Act, Turns, Speaks, Tells, Gets, Back, row, unspoken, puts, spoken, taken, gets, gets_nth, recall, act, net, Item}
use Rattle.model.specs.Spread.{copy_is}
use Rattle.model.proofs.Tests.{of_cond, and_first, and_second}
use Rattle.model.proofs.Fresh.{fresher_number}
use Rattle.model.proofs.Tables.{at2_here, at2_there, at2_other}

-- the net after box a turns, tells or is back
abbrev pub turned : {P : Type 0} → ℕ → (ℕ → Bool) → (ℕ → Bool) → (ℕ → P) → Net P → Net P
turned a l sp p w = record { link = row a l w.link; speaks = row a sp w.speaks; would = row a p w.would; holds = w.holds; had = w.had; flight = w.flight; drawn = w.drawn }

abbrev pub telling : {P : Type 0} → ℕ → ℕ → ℕ → Net P → Net P
telling a e i w = record { link = w.link; speaks = w.speaks; would = w.would; holds = w.holds; had = w.had; flight = record { from = a; to = e; about = i; item = w.holds a i } ∷ w.flight; drawn = w.drawn }

abbrev pub back : {P : Type 0} → Setup P → ℕ → (ℕ → ℕ) → Net P → Net P
back s a to w = record { link = w.link; speaks = w.speaks; would = w.would; holds = row a (λ i. recall (unspoken s) (to i) (w.had a i)) w.holds; had = w.had; flight = w.flight; drawn = w.drawn }

-- v is w, but box e has x of subject i
pub record Puts {P : Type 0} (w v : Net P) (e i : ℕ) (x : Item P) : Type 0 where
  pub link : v.link ≡ w.link
  pub speaks : v.speaks ≡ w.speaks
  pub would : v.would ≡ w.would
  pub here : v.holds e i ≡ x
  pub there : (p : ℕ) → (p ≡ e → ⊥) → v.holds p i ≡ w.holds p i
  pub other : (p j : ℕ) → (j ≡ i → ⊥) → v.holds p j ≡ w.holds p j

pub puts_here : {P : Type 0} (e i : ℕ) (x : Item P) (ts : List ℕ) (w : Net P) → Puts w (puts e i x ts w) e i x
puts_here e i x ts w = record { link = refl; speaks = refl; would = refl; here = at2_here e i x w.holds; there = at2_there e i x w.holds; other = at2_other e i x w.holds }

-- any property of a state after a copy came, from the three ways it may go: who speaks says anew, another takes it, nothing happens
pub gets_cases : {P : Type 0} (Q : Net P → Type 0) (x : Copy P) (t : ℕ) (w : Net P) →
    (w.link x.to x.from ≡ true → is_in t w.drawn ≡ false → fresher x.item (w.holds x.to x.about) ≡ true → w.speaks x.to x.about ≡ true →
    Q (puts x.to x.about (spoken x.to x.about x.item.number t w) (t ∷ []) w)) →
    (w.link x.to x.from ≡ true → is_in t w.drawn ≡ false → fresher x.item (w.holds x.to x.about) ≡ true → w.speaks x.to x.about ≡ false →
    Q (puts x.to x.about x.item [] w)) →
    ((w.link x.to x.from && (not (is_in t w.drawn) && fresher x.item (w.holds x.to x.about))) ≡ false → Q w) → Q (gets x t w)
gets_cases {P} Q x t w says takes stays =
    of_cond Q (l && n) (taken x t w) w
    (λ p. of_cond Q f (cond (w.speaks x.to x.about) y z) w
    (λ q. of_cond Q (w.speaks x.to x.about) y z (says (and_first l n p) (not-true (is_in t w.drawn) (and_second l n p)) q) (takes (and_first l n p) (not-true (is_in t w.drawn) (and_second l n p)) q))
    (λ q. stays (and_right l (n && f) (and_right n f q))))
    (λ p. stays (three l n f p))
  where
    l : Bool
    l = w.link x.to x.from

    n : Bool
    n = not (is_in t w.drawn)

    f : Bool
    f = fresher x.item (w.holds x.to x.about)

    y : Net P
    y = puts x.to x.about (spoken x.to x.about x.item.number t w) (t ∷ []) w

    z : Net P
    z = puts x.to x.about x.item [] w

    three : (a b c : Bool) → (a && b) ≡ false → (a && (b && c)) ≡ false
    three true b c h = and_left b c h
    three false b c h = refl

-- what a net has to show of a property so that each act keeps it: from w, by e
pub record Does {P : Type 0} (s : Setup P) (e : Act P) (w : Net P) (Q : Net P → Type 0) : Type 0 where
  pub stays : Q w
  pub turns : (a : ℕ) (l sp : ℕ → Bool) (p : ℕ → P) → e ≡ Turns a l sp p → a < s.boxes → Q (turned a l sp p w)
  pub speaks : (a i number t : ℕ) → w.speaks a i ≡ true → is_in t w.drawn ≡ false → (w.holds a i).number ≤ number → Q (puts a i (spoken a i number t w) (t ∷ []) w)
  pub tells : (a e i : ℕ) → a < s.boxes → e < s.boxes → w.link a e ≡ true → Q (telling a e i w)
  pub takes : (k : ℕ) (x : Copy P) → copy_is k x w.flight → fresher x.item (w.holds x.to x.about) ≡ true → Q (puts x.to x.about x.item [] w)
  pub falls : (a : ℕ) (to : ℕ → ℕ) → e ≡ Back a to → a < s.boxes → Q (back s a to w)

-- a copy that comes is one of those on their way
of_nth : {P : Type 0} (Q : Net P → Type 0) (k t : ℕ) (xs : List (Copy P)) (w : Net P) → Q w → ((m : ℕ) (x : Copy P) → copy_is m x xs → Q (gets x t w)) → Q (gets_nth k t xs w)
unfolding gets_nth copy_is
of_nth Q k t [] w q f = q
of_nth Q zero t (x ∷ xs) w q f = f 0 x refl
of_nth Q (suc k) t (x ∷ xs) w q f = of_nth Q k t xs w q (λ m y h. f (suc m) y h)

-- what each effect keeps, the act keeps
pub by_act : {P : Type 0} (s : Setup P) (e : Act P) (w : Net P) (Q : Net P → Type 0) → Does s e w Q → Q (act s e w)
by_act s (Turns a l sp p) w Q d = of_cond Q (ltb a s.boxes) (turned a l sp p w) w (λ h. d.turns a l sp p refl (ltb-true a s.boxes h)) (λ h. d.stays)
by_act s (Speaks a i t) w Q d =
    of_cond Q (ltb a s.boxes && (ltb i s.subjects && (w.speaks a i && not (is_in t w.drawn)))) (puts a i (spoken a i (w.holds a i).number t w) (t ∷ []) w) w
    (λ h. let g : (w.speaks a i && not (is_in t w.drawn)) ≡ true = and_second (ltb i s.subjects) (w.speaks a i && not (is_in t w.drawn)) (and_second (ltb a s.boxes) (ltb i s.subjects && (w.speaks a i && not (is_in t w.drawn))) h) in
    d.speaks a i (w.holds a i).number t (and_first (w.speaks a i) (not (is_in t w.drawn)) g) (not-true (is_in t w.drawn) (and_second (w.speaks a i) (not (is_in t w.drawn)) g)) (le_refl (w.holds a i).number))
    (λ h. d.stays)
by_act s (Tells a e i) w Q d =
    of_cond Q (ltb a s.boxes && (ltb e s.boxes && (ltb i s.subjects && w.link a e))) (telling a e i w) w
    (λ h. let p = and_parts (ltb a s.boxes) (ltb e s.boxes && (ltb i s.subjects && w.link a e)) h in
    let q = and_parts (ltb e s.boxes) (ltb i s.subjects && w.link a e) p.1 in
    d.tells a e i (ltb-true a s.boxes p.0) (ltb-true e s.boxes q.0) (and_second (ltb i s.subjects) (w.link a e) q.1))
    (λ h. d.stays)
by_act s (Gets k t) w Q d =
    of_nth Q k t w.flight w d.stays (λ m x there.
    gets_cases Q x t w (λ l new f sp. d.speaks x.to x.about x.item.number t sp new (fresher_number x.item (w.holds x.to x.about) f)) (λ l new f sp. d.takes m x there f) (λ _. d.stays))
by_act s (Back a to) w Q d = of_cond Q (ltb a s.boxes) (back s a to w) w (λ h. d.falls a to refl (ltb-true a s.boxes h)) (λ h. d.stays)

-- a property that each act keeps, and that holds at the beginning, holds always
pub always : {P : Type 0} (s : Setup P) (Q : List (Act P) → Net P → Type 0) → Q [] (net s []) → ((e : Act P) (es : List (Act P)) → Q es (net s es) → Does s e (net s es) (Q (e ∷ es))) → (es : List (Act P)) → Q es (net s es)
unfolding net
always s Q q f [] = q
always s Q q f (e ∷ es) = by_act s e (net s es) (Q (e ∷ es)) (f e es (always s Q q f es))
