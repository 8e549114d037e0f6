-- What one telling and one saying do.
use Rattle.std.proofs.Common.{◌≡◌, ℕ, ◌<◌, Bool, true, false, cond, not, ◌&&◌, ltb, List, [], ◌∷◌, sym, subst}
use Rattle.std.proofs.lemmas.Bool.{lt-ltb, and_from, not_from_false, cond-true}
use Rattle.model.specs.Words.{is_in}
use Rattle.model.specs.Flood.{Item, fresher, Copy, Setup, Net, Speaks, Tells, Gets, puts, spoken, taken, gets_nth, act}
use Rattle.model.proofs.Acts.{telling, Puts, puts_here}

pub tells_sends : {P : Type 0} (s : Setup P) (a e i : ℕ) (w : Net P) → a < s.boxes → e < s.boxes → i < s.subjects → w.link a e ≡ true → act s (Tells a e i) w ≡ telling a e i w
tells_sends s a e i w ha he hi hl =
    cond-true (ltb a s.boxes && (ltb e s.boxes && (ltb i s.subjects && w.link a e))) (telling a e i w) w
    (and_from (ltb a s.boxes) (ltb e s.boxes && (ltb i s.subjects && w.link a e)) (lt-ltb a s.boxes ha)
    (and_from (ltb e s.boxes) (ltb i s.subjects && w.link a e) (lt-ltb e s.boxes he) (and_from (ltb i s.subjects) (w.link a e) (lt-ltb i s.subjects hi) hl)))

-- what e has after it was told: what a had, but who speaks for i says anew
abbrev pub told_item : {P : Type 0} → ℕ → ℕ → ℕ → ℕ → Net P → Item P
told_item a e i t w = cond (w.speaks e i) (spoken e i (w.holds a i).number t w) (w.holds a i)

puts_puts : {P : Type 0} (a e i : ℕ) (x : Item P) (ts : List ℕ) (w : Net P) → Puts w (puts e i x ts (telling a e i w)) e i x
puts_puts a e i x ts w = let h = puts_here e i x ts (telling a e i w) in record { link = h.link; speaks = h.speaks; would = h.would; here = h.here; there = h.there; other = h.other }

either_puts : {P : Type 0} (b : Bool) (a e i : ℕ) (x y : Item P) (xs ys : List ℕ) (w : Net P) → Puts w (cond b (puts e i x xs (telling a e i w)) (puts e i y ys (telling a e i w))) e i (cond b x y)
either_puts true a e i x y xs ys w = puts_puts a e i x xs w
either_puts false a e i x y xs ys w = puts_puts a e i y ys w

-- the copy just told
abbrev pub copy_of : {P : Type 0} → ℕ → ℕ → ℕ → Net P → Copy P
copy_of a e i w = record { from = a; to = e; about = i; item = w.holds a i }

taken_puts : {P : Type 0} (a e i t : ℕ) (w : Net P) → fresher (w.holds a i) (w.holds e i) ≡ true → Puts w (taken (copy_of a e i w) t (telling a e i w)) e i (told_item a e i t w)
taken_puts a e i t w h =
    subst (λ v. Puts w v e i (told_item a e i t w))
    (sym (cond-true (fresher (w.holds a i) (w.holds e i))
    (cond (w.speaks e i) (puts e i (spoken e i (w.holds a i).number t w) (t ∷ []) (telling a e i w)) (puts e i (w.holds a i) [] (telling a e i w))) (telling a e i w) h))
    (either_puts (w.speaks e i) a e i (spoken e i (w.holds a i).number t w) (w.holds a i) (t ∷ []) [] w)

-- a telling: the copy is told and comes
pub telling_puts : {P : Type 0} (s : Setup P) (a e i t : ℕ) (w : Net P) → a < s.boxes → e < s.boxes → i < s.subjects → w.link a e ≡ true → w.link e a ≡ true →
    is_in t w.drawn ≡ false → fresher (w.holds a i) (w.holds e i) ≡ true → Puts w (act s (Gets 0 t) (act s (Tells a e i) w)) e i (told_item a e i t w)
unfolding gets_nth
telling_puts s a e i t w ha he hi hl hb hd hf =
    subst (λ v. Puts w (act s (Gets 0 t) v) e i (told_item a e i t w)) (sym (tells_sends s a e i w ha he hi hl))
    (subst (λ v. Puts w v e i (told_item a e i t w))
    (sym (cond-true (w.link e a && not (is_in t w.drawn)) (taken (copy_of a e i w) t (telling a e i w)) (telling a e i w)
    (and_from (w.link e a) (not (is_in t w.drawn)) hb (not_from_false (is_in t w.drawn) hd))))
    (taken_puts a e i t w hf))

-- a saying
pub saying_puts : {P : Type 0} (s : Setup P) (a i t : ℕ) (w : Net P) → a < s.boxes → i < s.subjects → w.speaks a i ≡ true → is_in t w.drawn ≡ false →
    Puts w (act s (Speaks a i t) w) a i (spoken a i (w.holds a i).number t w)
saying_puts s a i t w ha hi hs hd =
    let x = spoken a i (w.holds a i).number t w in
    subst (λ v. Puts w v a i x)
    (sym (cond-true (ltb a s.boxes && (ltb i s.subjects && (w.speaks a i && not (is_in t w.drawn)))) (puts a i x (t ∷ []) w) w
    (and_from (ltb a s.boxes) (ltb i s.subjects && (w.speaks a i && not (is_in t w.drawn))) (lt-ltb a s.boxes ha)
    (and_from (ltb i s.subjects) (w.speaks a i && not (is_in t w.drawn)) (lt-ltb i s.subjects hi)
    (and_from (w.speaks a i) (not (is_in t w.drawn)) hs (not_from_false (is_in t w.drawn) hd))))))
    (puts_here a i x (t ∷ []) w)
