-- Journals that grow, and where replaying one stops.
use Rattle.std.proofs.Common.{◌≡◌, ℕ, zero, suc, ◌+◌, ◌<◌, ◌≤◌, Bool, true, false, cond, ltb, List, [], ◌∷◌, ◌++◌, length, Some, None, Ok, Err, Option, Result, sym, refl, ap, ◌∙◌, ap₂, append_assoc, append-nil, arith, length-append, le-ltb, lt-ltb}
use Rattle.std.specs.List.{flat_map}
use Rattle.octets.specs.declared.Fault.{Fault}
use Rattle.frames.specs.declared.values.Line.{Line}
use Rattle.frames.specs.Reading.{line_in}
use Rattle.frames.specs.Writing.{bytes_of_line}
use Rattle.frames.proofs.Lines.{line_again_lem}
use Rattle.journal.specs.Laws.{Grows, Stops, GrowsByAll, Enough, InTurn, noted_all}
use Rattle.frames.specs.Ranges.{LineInRange}
use Rattle.journal.specs.Replay.{Known, Replayed, nothing, noted, up_to, whole, by_line, replay, replayed}
use Rattle.journal.proofs.Local.{line_local}

-- one line after the other
pub replayed_line : (until lines : ℕ) (bytes : List ℕ) (k : Known) → 0 < length bytes → replayed until (suc lines) bytes k ≡ by_line until bytes k (replayed until lines) (line_in k.n bytes)
unfolding replayed
replayed_line until lines [] k h = absurd (omega arith)
replayed_line until lines (b ∷ bs) k h = refl

pub replayed_none : (until lines : ℕ) (k : Known) → replayed until lines [] k ≡ whole k
unfolding replayed
replayed_none until zero k = refl
replayed_none until (suc lines) k = refl

pub replayed_empty : (until lines : ℕ) (bytes : List ℕ) (k : Known) → length bytes ≡ 0 → replayed until lines bytes k ≡ up_to bytes k
replayed_empty until lines [] k h = replayed_none until lines k
replayed_empty until lines (b ∷ bs) k h = absurd (omega arith)

-- a line at the front that is noted
pub noted_line : (until : ℕ) (bytes : List ℕ) (k : Known) (l : Line) (left : List ℕ) (onward : List ℕ → Known → Replayed) → line_in k.n bytes ≡ Ok (l, left) → l.tick ≤ until →
    by_line until bytes k onward (line_in k.n bytes) ≡ onward left (noted l.what k)
noted_line until bytes k l left onward h t =
    ap (by_line until bytes k onward) h ∙ ap (λ b. cond b (up_to bytes k) (onward left (noted l.what k))) (le-ltb until l.tick t)

-- and one that comes later
pub later_line : (until : ℕ) (bytes : List ℕ) (k : Known) (l : Line) (left : List ℕ) (onward : List ℕ → Known → Replayed) → line_in k.n bytes ≡ Ok (l, left) → until < l.tick →
    by_line until bytes k onward (line_in k.n bytes) ≡ up_to bytes k
later_line until bytes k l left onward h t =
    ap (by_line until bytes k onward) h ∙ ap (λ b. cond b (up_to bytes k) (onward left (noted l.what k))) (lt-ltb until l.tick t)

-- which stops it, however many lines may be read
pub stopped : (until : ℕ) (bytes : List ℕ) (k : Known) (l : Line) (left : List ℕ) → 0 < length bytes → line_in k.n bytes ≡ Ok (l, left) → until < l.tick → (lines : ℕ) → replayed until lines bytes k ≡ up_to bytes k
unfolding replayed
stopped until bytes k l left s h t zero = refl
stopped until bytes k l left s h t (suc lines) = replayed_line until lines bytes k s ∙ later_line until bytes k l left (replayed until lines) h t

-- a fault in front
pub faulty : (until : ℕ) (bytes : List ℕ) (k : Known) (e : Fault) → 0 < length bytes → line_in k.n bytes ≡ Err e → (lines : ℕ) → replayed until (suc lines) bytes k ≡ record { known = k; left = bytes; fault = Some e }
faulty until bytes k e s h lines = replayed_line until lines bytes k s ∙ ap (by_line until bytes k (replayed until lines)) h

-- two ways to go on that agree after each line give the same
agree : (until b : ℕ) (bs : List ℕ) (k : Known) (f g : List ℕ → Known → Replayed) → ((left : List ℕ) (m : Known) → length left ≤ length bs → f left m ≡ g left m) → (r : Result (Line × List ℕ) Fault) → line_in k.n (b ∷ bs) ≡ r → by_line until (b ∷ bs) k f r ≡ by_line until (b ∷ bs) k g r
agree until b bs k f g e (Err x) q = refl
agree until b bs k f g e (Ok t) q = ap (cond (ltb until t.0.tick) (up_to (b ∷ bs) k)) (e t.1 (noted t.0.what k) (line_local k.n b bs t.0 t.1 q).1)

same : (until f h : ℕ) (bytes : List ℕ) (k : Known) → length bytes ≤ f → length bytes ≤ h → replayed until f bytes k ≡ replayed until h bytes k
same until f h [] k a c = replayed_none until f k ∙ sym (replayed_none until h k)
same until zero h (b ∷ bs) k a c = absurd (omega arith)
same until (suc f) zero (b ∷ bs) k a c = absurd (omega arith)
same until (suc f) (suc h) (b ∷ bs) k a c =
    replayed_line until f (b ∷ bs) k (omega arith)
    ∙ agree until b bs k (replayed until f) (replayed until h) (λ left m l. same until f h left m (omega arith) (omega arith)) (line_in k.n (b ∷ bs)) refl
    ∙ sym (replayed_line until h (b ∷ bs) k (omega arith))

pub enough : Enough
enough until bytes k more = same until (length bytes + more) (length bytes) bytes k (omega arith) (omega arith)

-- all was read, so the line in front was read and noted, and it is before more bytes too
onto_line : (until b : ℕ) (bs : List ℕ) (k m : Known) (f g : List ℕ → Known → Replayed) (tail : List ℕ) (end : Replayed)
    → ((left : List ℕ) (o : Known) → f left o ≡ whole m → g (left ++ tail) o ≡ end)
    → (r : Result (Line × List ℕ) Fault) → line_in k.n (b ∷ bs) ≡ r → by_line until (b ∷ bs) k f r ≡ whole m
    → by_line until (b ∷ (bs ++ tail)) k g (line_in k.n (b ∷ (bs ++ tail))) ≡ end
onto_line until b bs k m f g tail end on (Err x) q h =
    let s : ◌≡◌ {A = Option Fault} (Some x) None = ap (λ (z : Replayed). z.fault) h in
    let z : ◌≡◌ {A = ℕ} 0 1 = cc in
    absurd (omega arith)
onto_line until b bs k m f g tail end on (Ok t) q h = go (ltb until t.0.tick) refl h
  where
    go : (c : Bool) → ltb until t.0.tick ≡ c → cond c (up_to (b ∷ bs) k) (f t.1 (noted t.0.what k)) ≡ whole m → by_line until (b ∷ (bs ++ tail)) k g (line_in k.n (b ∷ (bs ++ tail))) ≡ end
    go true e w = absurd (omega (arith, ap (λ (z : Replayed). length z.left) w))
    go false e w =
        ap (by_line until (b ∷ (bs ++ tail)) k g) ((line_local k.n b bs t.0 t.1 q).0 tail)
        ∙ ap (λ c. cond c (up_to (b ∷ (bs ++ tail)) k) (g (t.1 ++ tail) (noted t.0.what k))) e
        ∙ on t.1 (noted t.0.what k) w

-- bytes that are all read, and then others
onto : (until f h : ℕ) (bytes : List ℕ) (k m : Known) (tail : List ℕ) (end : Replayed) → ((g : ℕ) → replayed until (suc g) tail m ≡ end) → replayed until f bytes k ≡ whole m → f < h → replayed until h (bytes ++ tail) k ≡ end
unfolding replayed
onto until f zero bytes k m tail end e w l = absurd (omega arith)
onto until zero (suc h) bytes k m tail end e w l =
    ap₂ (λ (z : List ℕ) (o : Known). replayed until (suc h) (z ++ tail) o) (ap (λ (z : Replayed). z.left) w) (ap (λ (z : Replayed). z.known) w) ∙ e h
onto until (suc f) (suc h) [] k m tail end e w l = ap (λ (o : Known). replayed until (suc h) tail o) (ap (λ (z : Replayed). z.known) w) ∙ e h
onto until (suc f) (suc h) (b ∷ bs) k m tail end e w l =
    onto_line until b bs k m (replayed until f) (replayed until h) tail end (λ left o v. onto until f h left o m tail end e v (omega arith)) (line_in k.n (b ∷ bs)) refl w

some_bytes : (l : Line) (more : List ℕ) → 0 < length (bytes_of_line l ++ more)
some_bytes l more = omega arith

pub grows : Grows
grows until bytes k l h r t =
    onto until (length bytes) (length (bytes ++ bytes_of_line l)) bytes _ k (bytes_of_line l) (whole (noted l.what k)) read h (omega (arith, length-append bytes (bytes_of_line l)))
  where
    in_front : line_in k.n (bytes_of_line l) ≡ Ok (l, [])
    in_front = ap (line_in k.n) (sym (append-nil (bytes_of_line l))) ∙ line_again_lem k.n l r []

    read : (g : ℕ) → replayed until (suc g) (bytes_of_line l) k ≡ whole (noted l.what k)
    read g = replayed_line until g (bytes_of_line l) k (omega arith) ∙ (noted_line until (bytes_of_line l) k l [] (replayed until g) in_front t ∙ replayed_none until g (noted l.what k))

pub stops : Stops
stops until bytes k l h r t more =
    onto until (length bytes) (length (bytes ++ (bytes_of_line l ++ more))) bytes _ k (bytes_of_line l ++ more) (up_to (bytes_of_line l ++ more) k) read h (omega (arith, length-append bytes (bytes_of_line l ++ more), some_bytes l more))
  where
    read : (g : ℕ) → replayed until (suc g) (bytes_of_line l ++ more) k ≡ up_to (bytes_of_line l ++ more) k
    read g = replayed_line until g (bytes_of_line l ++ more) k (some_bytes l more) ∙ later_line until (bytes_of_line l ++ more) k l more (replayed until g) (line_again_lem k.n l r more) t

pub grows_by_all_lem : GrowsByAll
grows_by_all_lem until bytes k [] h r = ap (replay until) (append-nil bytes) ∙ h
grows_by_all_lem until bytes k (l ∷ ls) h r =
    ap (replay until) (sym (append_assoc bytes (bytes_of_line l) (flat_map bytes_of_line ls)))
    ∙ grows_by_all_lem until (bytes ++ bytes_of_line l) (noted l.what k) ls (grows until bytes k l h r.0 r.1) r.2

-- a journal that has just these lines
pub replay_lines : (until : ℕ) (ls : List Line) → InTurn until ls nothing → replay until (flat_map bytes_of_line ls) ≡ whole (noted_all ls nothing)
replay_lines until ls r = grows_by_all_lem until [] nothing ls (replayed_none until 0 nothing) r

-- and then one of a later tick, and whatever comes after it
pub replay_lines_until : (until : ℕ) (ls : List Line) (l : Line) (more : List ℕ) → InTurn until ls nothing → LineInRange (noted_all ls nothing).n l → until < l.tick
    → replay until (flat_map bytes_of_line ls ++ (bytes_of_line l ++ more)) ≡ up_to (bytes_of_line l ++ more) (noted_all ls nothing)
replay_lines_until until ls l more r g t = stops until (flat_map bytes_of_line ls) (noted_all ls nothing) l (replay_lines until ls r) g t more

pub noted_all_append : (xs ys : List Line) (k : Known) → noted_all (xs ++ ys) k ≡ noted_all ys (noted_all xs k)
noted_all_append [] ys k = refl
noted_all_append (x ∷ xs) ys k = noted_all_append xs ys (noted x.what k)
