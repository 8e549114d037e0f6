-- What the state and the answers stand for, and what the words that are known say of ways. Assumes nothing.
use Rattle.std.specs.Prelude.{◌≡◌, ℕ, ◌<◌, cond, Some, None, Option, nat_lt}
use Rattle.database.specs.State.{words_in}
use Rattle.messages.specs.Values.{entry_of}
use Rattle.messages.specs.declared.values.Word.{Word}
use Rattle.model.specs.Forward.{cost_by}
use Rattle.model.specs.Map.{Map, Far, Never, Hop, Nowhere, far, hop}
use Rattle.journal.specs.declared.notes.Notes.{Notes}
use Rattle.journal.specs.declared.memory.Memory.{Memory}
use Rattle.journal.specs.Replay.{Known}

-- what the lines so far have noted
abbrev pub known_by : Notes → Known
known_by s = record { n = s.n; me = s.me; word = words_in s.words }

-- what was known then
abbrev pub known_of : Memory → Known
known_of m = known_by m.notes

-- the map of the boxes by their words
abbrev pub map_of : Known → Map
map_of k = record { n = k.n; cost = cost_by k.word }

-- how far box d is; never for a number of no box
abbrev pub distance_to : ℕ → Known → Far
distance_to d k = cond (nat_lt d k.n) (far (map_of k) d k.me) Never

-- the next box towards d; nowhere for a number of no box
abbrev pub next_to : ℕ → Known → Hop
next_to d k = cond (nat_lt d k.n) (hop (map_of k) d k.me) Nowhere

-- the word of box i, none if it never said one
abbrev pub IsWord : ℕ → Known → Option Word → Type 0
IsWord i k None = (k.word i).number ≡ 0
IsWord i k (Some w) = (0 < (k.word i).number) × (w.id.about ≡ i) × (entry_of w ≡ k.word i)
