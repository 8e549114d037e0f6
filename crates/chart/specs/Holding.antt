-- What boxes have of one, and which is the newest. Assumes nothing.
use Rattle.std.specs.Prelude.{◌≡◌, ℕ, Bool, false, cond, ◌&&◌, ◌||◌, List, ◌∷◌, nat_lt, All, Contains}
use Rattle.messages.specs.Values.{newer_id, same_id}
use Rattle.journal.specs.Replay.{Known}
use Rattle.chart.specs.declared.held.Held.{Held}

-- the word of box i by its numbers, with count 0 and tag 0 for none
abbrev pub held_in : ℕ → Known → Held
held_in i k = record { by = k.me; word = record { about = i; count = (k.word i).number; tag = cond (nat_lt 0 (k.word i).number) (k.word i).tag 0 } }

-- newer, or the same at a lower box
abbrev pub goes_before : Held → Held → Bool
goes_before x y = newer_id x.word y.word || (same_id x.word y.word && nat_lt x.by y.by)

-- one of these, before which none goes
abbrev pub Newest : Held → List Held → Held → Type 0
Newest first others r = Contains (first ∷ others) r × All (λ x. goes_before x r ≡ false) (first ∷ others)
