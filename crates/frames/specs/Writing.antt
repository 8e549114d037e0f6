-- The bytes of each value, and what a writer leaves in a buffer. Numbers have their high byte first.
-- Assumes nothing.
use Rattle.std.specs.Prelude.{ℕ, List, [], ◌∷◌, ◌++◌}
use Rattle.std.specs.List.{flat_map}
use Rattle.octets.specs.Writes.{octets}
use Rattle.messages.specs.declared.values.Hello.{Hello}
use Rattle.messages.specs.declared.values.Settings.{Settings}
use Rattle.frames.specs.declared.values.Entry.{Entry}
use Rattle.frames.specs.declared.values.Entry.TheVariants.{Began, Said, Taken, Refused}
use Rattle.frames.specs.declared.values.Line.{Line}
use Rattle.wordframes.specs.Writing.{bytes_of_word}

abbrev pub bytes_of_hello : Hello → List ℕ
bytes_of_hello h = 1 ∷ h.from ∷ (octets 8 h.drawn ++ octets 8 h.heard)

abbrev pub bytes_of_wires : List ℕ → List ℕ
bytes_of_wires costs = flat_map (octets 2) costs

abbrev pub bytes_of_settings : Settings → List ℕ
bytes_of_settings s = 6 ∷ s.boxes ∷ s.me ∷ bytes_of_wires s.costs

abbrev pub bytes_of_entry : Entry → List ℕ
bytes_of_entry (Began boxes me) = 0 ∷ boxes ∷ me ∷ []
bytes_of_entry (Said w) = 1 ∷ bytes_of_word w
bytes_of_entry (Taken w) = 2 ∷ bytes_of_word w
bytes_of_entry (Refused number) = 3 ∷ number ∷ []

abbrev pub bytes_of_line : Line → List ℕ
bytes_of_line l = 5 ∷ (octets 4 l.tick ++ bytes_of_entry l.what)
