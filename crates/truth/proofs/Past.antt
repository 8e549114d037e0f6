-- A journal recalls of a tick what it did, whatever lines of later ticks come behind.
use Rattle.std.proofs.Common.{◌≡◌, ℕ, zero, suc, ◌<◌, ◌≤◌, Bool, true, false, cond, ltb, List, [], ◌∷◌, ◌++◌, length, Some, None, Ok, Err, Option, Result, sym, refl, ap, ◌∙◌, subst, ap₂, arith, length-append, le-ltb, ltb-false}
use Rattle.octets.specs.declared.Fault.{Fault}
use Rattle.frames.specs.declared.values.Line.{Line}
use Rattle.frames.specs.Ranges.{LineInRange}
use Rattle.frames.specs.Reading.{line_in}
use Rattle.frames.specs.Writing.{bytes_of_line}
use Rattle.journal.specs.Replay.{Known, Replayed, by_line, noted, replay, replayed, up_to, whole}
use Rattle.journal.proofs.Local.{line_local}
use Rattle.journal.proofs.Replays.{stops}
use Rattle.truth.specs.Truth.{Recalls}

no_fault : {A : Type 0} (e : Fault) → ◌≡◌ {A = Option Fault} (Some e) None → A
no_fault e q = let z : ◌≡◌ {A = ℕ} 0 1 = cc in absurd (omega arith)

-- what is read whole up to a tick is read whole up to a later one
later : (until v f : ℕ) (bytes : List ℕ) (k m : Known) → until ≤ v → replayed until f bytes k ≡ whole m → replayed v f bytes k ≡ whole m
unfolding replayed
later until v zero bytes k m l h = h
later until v (suc f) [] k m l h = h
later until v (suc f) (b ∷ bs) k m l h = go (line_in k.n (b ∷ bs)) h (λ left o. later until v f left o m l)
  where
    go : (r : Result (Line × List ℕ) Fault) → by_line until (b ∷ bs) k (replayed until f) r ≡ whole m → ((left : List ℕ) (o : Known) → replayed until f left o ≡ whole m → replayed v f left o ≡ whole m) → by_line v (b ∷ bs) k (replayed v f) r ≡ whole m
    go (Err e) h next = no_fault e (ap (λ (z : Replayed). z.fault) h)
    go (Ok t) h next = at_tick (ltb until t.0.tick) refl h
      where
        at_tick : (c : Bool) → ltb until t.0.tick ≡ c → cond c (up_to (b ∷ bs) k) (replayed until f t.1 (noted t.0.what k)) ≡ whole m → by_line v (b ∷ bs) k (replayed v f) (Ok t) ≡ whole m
        at_tick true e w = absurd (omega (arith, ap (λ (z : Replayed). length z.left) w))
        at_tick false e w = ap (λ c. cond c (up_to (b ∷ bs) k) (replayed v f t.1 (noted t.0.what k))) (le-ltb v t.0.tick (omega (arith, ltb-false until t.0.tick e))) ∙ next t.1 (noted t.0.what k) w

-- where it stopped before a line of a later tick, it stops there with more behind, too
stopped_there : (until f h : ℕ) (bytes left : List ℕ) (k m : Known) (more : List ℕ) → length bytes ≤ f → f ≤ h → 0 < length left → replayed until f bytes k ≡ up_to left m → replayed until h (bytes ++ more) k ≡ up_to (left ++ more) m
unfolding replayed
stopped_there until f h [] left k m more l g some q = absurd (omega (arith, some, ap (λ (z : Replayed). length z.left) (sym (replayed_nothing until f k) ∙ q)))
  where
    replayed_nothing : (until f : ℕ) (k : Known) → replayed until f [] k ≡ whole k
    replayed_nothing until zero k = refl
    replayed_nothing until (suc f) k = refl
stopped_there until zero h (b ∷ bs) left k m more l g some q = absurd (omega arith)
stopped_there until (suc f) zero (b ∷ bs) left k m more l g some q = absurd (omega arith)
stopped_there until (suc f) (suc h) (b ∷ bs) left k m more l g some q =
    go (line_in k.n (b ∷ bs)) refl q (λ rest o n. stopped_there until f h rest left o m more (omega (arith, n)) (omega arith) some)
  where
    go : (r : Result (Line × List ℕ) Fault) → line_in k.n (b ∷ bs) ≡ r → by_line until (b ∷ bs) k (replayed until f) r ≡ up_to left m →
        ((rest : List ℕ) (o : Known) → length rest ≤ length bs → replayed until f rest o ≡ up_to left m → replayed until h (rest ++ more) o ≡ up_to (left ++ more) m) →
        by_line until (b ∷ (bs ++ more)) k (replayed until h) (line_in k.n (b ∷ (bs ++ more))) ≡ up_to (left ++ more) m
    go (Err e) i q next = no_fault e (ap (λ (z : Replayed). z.fault) q)
    go (Ok t) i q next = ap (by_line until (b ∷ (bs ++ more)) k (replayed until h)) ((line_local k.n b bs t.0 t.1 i).0 more) ∙ at_tick (ltb until t.0.tick) q
      where
        at_tick : (c : Bool) → cond c (up_to (b ∷ bs) k) (replayed until f t.1 (noted t.0.what k)) ≡ up_to left m → cond c (up_to (b ∷ (bs ++ more)) k) (replayed until h (t.1 ++ more) (noted t.0.what k)) ≡ up_to (left ++ more) m
        at_tick true w = ap (λ (z : Replayed). up_to (z.left ++ more) z.known) w
        at_tick false w = next t.1 (noted t.0.what k) (line_local k.n b bs t.0 t.1 i).1 w

-- a line of a later tick, and more behind it
pub past : (until : ℕ) (book : List ℕ) (s k : Known) (l : Line) (more : List ℕ) → until < l.tick → LineInRange s.n l → replay l.tick book ≡ whole s → Recalls until book k → Recalls until (book ++ (bytes_of_line l ++ more)) k
past until book s k l more late good h c = go (replay until book).left refl
  where
    all : List ℕ
    all = bytes_of_line l ++ more

    is : replay until book ≡ up_to (replay until book).left k
    is = ap₂ (λ (m : Known) (o : Option Fault). record { known = m; left = (replay until book).left; fault = o }) c.0 c.1

    recalled : (left : List ℕ) → replay until (book ++ all) ≡ up_to left k → Recalls until (book ++ all) k
    recalled left e = (ap (λ (z : Replayed). z.known) e, ap (λ (z : Replayed). z.fault) e)

    go : (left : List ℕ) → (replay until book).left ≡ left → Recalls until (book ++ all) k
    go [] e =
        let w : replay until book ≡ whole k = is ∙ ap (λ z. up_to z k) e in
        let same : k ≡ s = ap (λ (z : Replayed). z.known) (sym (later until l.tick (length book) book (record { n = 0; me = 0; word = _ }) k (omega arith) w) ∙ h) in
        recalled all (stops until book k l w (subst (λ (z : Known). LineInRange z.n l) (sym same) good) late more)
    go (x ∷ xs) e = recalled ((x ∷ xs) ++ all) (stopped_there until (length book) (length (book ++ all)) book (x ∷ xs) _ k all (omega arith) (omega (arith, length-append book all)) (omega arith) (is ∙ ap (λ z. up_to z k) e))
