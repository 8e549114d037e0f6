-- Replaying on its way: what is still to be read gives the rest.
use Rattle.std.proofs.Common.{◌≡◌, ℕ, zero, suc, ◌+◌, ◌-◌, ◌≤◌, List, length, take, drop, Some, None, Ok, Err, Option, Result, sym, ap, ◌∙◌, subst, arith, length-drop}
use Rattle.std.proofs.lemmas.List.{drop-drop, take_rest}
use Rattle.octets.specs.declared.Fault.{Fault}
use Rattle.journal.specs.Replay.{Known, nothing, up_to, replay, replayed}
use Rattle.journal.specs.Turns.{Turned}

pub record Going (until : ℕ) (bytes : List ℕ) (place : ℕ) (k : Known) : Type 0 where
  pub within : place ≤ length bytes
  pub lines : ℕ
  pub enough : length bytes ≤ place + lines
  pub same : replayed until lines (drop place bytes) k ≡ replay until bytes

-- a turn over what is left, as the code has it
pub as_left : (until : ℕ) (bytes : List ℕ) (place : ℕ) (k m : Known) (r : Result (Option ℕ) Fault) → Turned until (take (length bytes - place) (drop place bytes)) k m r → Turned until (drop place bytes) k m r
as_left until bytes place k m r t = subst (λ (z : List ℕ). Turned until z k m r) (take_rest bytes place) t

-- and by whether a line was noted
pub as_line : (until : ℕ) (bytes : List ℕ) (place : ℕ) (k m : Known) (o p : Option ℕ) → o ≡ p → Turned until (take (length bytes - place) (drop place bytes)) k m (Ok o) → Turned until (drop place bytes) k m (Ok p)
as_line until bytes place k m o p e t = subst (λ (z : Option ℕ). Turned until (drop place bytes) k m (Ok z)) e (as_left until bytes place k m (Ok o) t)

pub going_none : (until : ℕ) (bytes : List ℕ) (k : Known) → k ≡ nothing → Going until bytes 0 k
going_none until bytes k e = record { within = omega arith; lines = length bytes; enough = omega arith; same = ap (replayed until (length bytes) bytes) e }

-- one line more
pub going_more : (until : ℕ) (bytes : List ℕ) (place long : ℕ) (k m : Known) → Going until bytes place k → Turned until (drop place bytes) k m (Ok (Some long)) → Going until bytes (place + long) m
going_more until bytes place long k m g t = go g.lines g.enough g.same
  where
    l : length (drop place bytes) + place ≡ length bytes
    l = omega (arith, length-drop place bytes, g.within)

    go : (lines : ℕ) → length bytes ≤ place + lines → replayed until lines (drop place bytes) k ≡ replay until bytes → Going until bytes (place + long) m
    go zero e s = absurd (omega (arith, l, t.0, t.1))
    go (suc lines) e s =
        record {
          within = omega (arith, l, t.1);
          lines = lines;
          enough = omega (arith, t.0);
          same = ap (λ (z : List ℕ). replayed until lines z m) (sym (drop-drop long place bytes)) ∙ (sym (t.2 lines) ∙ s);
        }

-- it stops there
pub going_stops : (until : ℕ) (bytes : List ℕ) (place : ℕ) (k m : Known) → Going until bytes place k → Turned until (drop place bytes) k m (Ok None) → up_to (drop place bytes) m ≡ replay until bytes
going_stops until bytes place k m g t = ap (up_to (drop place bytes)) t.0 ∙ (sym (t.1 g.lines) ∙ g.same)

-- or at a fault
pub going_faulty : (until : ℕ) (bytes : List ℕ) (place : ℕ) (k m : Known) (e : Fault) → Going until bytes place k → Turned until (drop place bytes) k m (Err e) → record { known = m; left = drop place bytes; fault = Some e } ≡ replay until bytes
going_faulty until bytes place k m e g t = ap (λ (o : Known). record { known = o; left = drop place bytes; fault = Some e }) t.0 ∙ go g.lines g.enough g.same
  where
    go : (lines : ℕ) → length bytes ≤ place + lines → replayed until lines (drop place bytes) k ≡ replay until bytes → record { known = k; left = drop place bytes; fault = Some e } ≡ replay until bytes
    go zero h s = absurd (omega (arith, length-drop place bytes, t.1))
    go (suc lines) h s = sym (t.2 lines) ∙ s
