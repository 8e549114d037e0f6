-- What a box tells at a tick, and what it says before. Assumes nothing.
use Rattle.std.specs.Prelude.{◌≡◌, ℕ, cond, ◌&&◌, List, [], ◌∷◌, ◌++◌, length}
use Rattle.bits.specs.Bits.{padded}
use Rattle.bits.specs.declared.Picked.{Picked}
use Rattle.model.specs.Box.{Box, Stands, is_open, must_say, says_now, tellings, tells, tick_says}
use Rattle.router.specs.State.{has_room}
use Rattle.model.specs.Boxes.{words_out}
use Rattle.model.specs.Words.{Ev, world}

-- at a tick it says a word if it must and may
abbrev pub ticked_if : ℕ → Box → Box
ticked_if t s = cond (must_say s && has_room s) (says_now t s) s

-- what it tells e: nothing where no road is open
abbrev pub told_to : ℕ → Box → List ℕ
told_to e s = cond (is_open e s) (tells e s) []

-- these are the places that an answer has
abbrev pub Names : Picked → List ℕ → Type 0
Names p is = (p.count ≡ length is) × (p.items ≡ padded 4 is)

-- an answer with no place
abbrev pub no_place : Picked
no_place = record { count = 0; items = 0 ∷ 0 ∷ 0 ∷ 0 ∷ [] }

-- after a tick the box stands after a word that it said, if it had to, and all that it then sent; just these words are then on their way, beside the earlier ones
abbrev pub TickDid : ℕ → Box → Box → List Ev → Type 0
TickDid t s after es =
    Stands after (tellings after s.n ++ (tick_says t s ++ es)) ×
    ((world s.n (tellings after s.n ++ (tick_says t s ++ es))).flight ≡ words_out after s.n ++ (world s.n es).flight)
