-- What the test of rest says of every run of the model's net that leads to the boxes tested. Assumes nothing.
use Rattle.std.specs.Prelude.{◌≡◌, ℕ, ◌+◌, ◌*◌, ◌≤◌, Bool, true, T, List, [], ◌++◌, length}
use Rattle.model.specs.Promise.{Even, Rest, only_words}
use Rattle.model.specs.Words.{Ev, world}
use Rattle.netmodel.specs.Net.{Move, all_counted, net}
use Rattle.netmodel.specs.Standing.{StandsFor, world_in}
use Rattle.netmodel.specs.Windows.{Windows, most_news, moves_of, restless_windows}
use Rattle.node.specs.declared.state.Node.{Node}
use Rattle.ground.specs.declared.state.Ground.{Ground}
use Rattle.net.specs.Plays.{Plays}

-- after whatever events of the model such a run stands, the answer is true just when that is rest
abbrev pub RestAfter : List Node → Bool → Type 0
RestAfter boxes result =
    (first : ℕ → ℕ) (ms : List Move) (g : Ground) (es : List Ev) → Plays first ms boxes g → StandsFor (length boxes) (net (length boxes) first ms) es →
    (result ≡ true → Rest (world (length boxes) es)) × (Rest (world (length boxes) es) → result ≡ true)

-- such a run stands after a list of the model's events, and the answer is true just when that is rest
abbrev pub RestSo : List Node → Bool → Type 0
RestSo boxes result =
    (first : ℕ → ℕ) (ms : List Move) (g : Ground) → Plays first ms boxes g → T (all_counted (length boxes) first ms []) →
    (es : List Ev) × StandsFor (length boxes) (net (length boxes) first ms) es × (result ≡ true → Rest (world (length boxes) es)) × (Rest (world (length boxes) es) → result ≡ true)

-- from such a run in which both ends of each road agree, few words bring rest
abbrev pub FewWordsRest : List Node → Type 0
FewWordsRest boxes =
    (first : ℕ → ℕ) (ms : List Move) (g : Ground) → Plays first ms boxes g → T (all_counted (length boxes) first ms []) → Even (world_in (length boxes) (net (length boxes) first ms)) →
    (es : List Ev) × StandsFor (length boxes) (net (length boxes) first ms) es × ((fs : List Ev) × T (only_words fs) × (length fs ≤ 6 * length boxes * length boxes + length boxes) × Rest (world (length boxes) (fs ++ es)))

-- left alone after such a run in which both ends of each road agree, the net comes to rest: of any number of windows all but as many as there can be news end at rest
abbrev pub LeftAlone : List Node → Type 0
LeftAlone boxes =
    (first : ℕ → ℕ) (ms : List Move) (g : Ground) (ws : List (List (List Move))) → Plays first ms boxes g → T (all_counted (length boxes) first (moves_of ws ++ ms) []) → Even (world_in (length boxes) (net (length boxes) first ms)) →
    Windows (length boxes) first ws ms → restless_windows (length boxes) first ws ms ≤ most_news (length boxes) (net (length boxes) first ms)
