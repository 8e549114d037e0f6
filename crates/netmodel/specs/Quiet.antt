-- How long what is shown stays so in a net, and when a box is quiet. Each promise is a type; a proof of the type is the theorem. Assumes nothing.
use Rattle.std.specs.Prelude.{◌≡◌, ℕ, Bool, true, false, ◌&&◌, List, [], ◌∷◌, ◌++◌}
use Rattle.model.specs.Box.{must_say}
use Rattle.linkmodel.specs.Calls.{expired}
use Rattle.linkmodel.specs.Telling.{KeepsShown, Settled, is_hello}
use Rattle.netmodel.specs.Net.{Sent, Net, Move, Ticks, move, net}

-- What is shown stays so over every move, of any net.
abbrev pub ShownStays : Type 0
ShownStays = (n : ℕ) (m : Move) (x : Net) (a : ℕ) → KeepsShown (x.at a) ((move n m x).at a)

-- all these are hellos
unfoldable pub all_hellos : List Sent → Bool
all_hellos [] = true
all_hellos (f ∷ fs) = is_hello f.frame && all_hellos fs

-- Whatever happened before, a box along whose open roads all is shown and that need say nothing sends only hellos at its tick.
abbrev pub QuietNet : Type 0
QuietNet =
    (n : ℕ) (first : ℕ → ℕ) (ms : List Move) (a t : ℕ) → Settled ((net n first ms).at a) → must_say (expired ((net n first ms).at a)) ≡ false →
    (news : List Sent) × ((net n first (Ticks a t ∷ ms)).sent ≡ news ++ (net n first ms).sent) × (all_hellos news ≡ true)
