-- Every run of a net of whole boxes on wires is a run of the model. Each promise is a type; a proof of the type is the theorem. Assumes nothing.
use Rattle.std.specs.Prelude.{◌≡◌, ℕ, ◌+◌, ◌*◌, ◌<◌, ◌≤◌, true, false, T, List, [], ◌∷◌, ◌++◌, length, Some}
use Rattle.std.specs.List.{flat_map}
use Rattle.model.specs.Words.{Word, World, Ev, newer, is_in, world}
use Rattle.model.specs.Promise.{Even, Rest, by_rule, only_words}
use Rattle.model.specs.Boxes.{StandsAs}
use Rattle.linkmodel.specs.Links.{wires, who_on}
use Rattle.linkmodel.specs.Station.{Item, Frame, Greets, Tells, Shows, told_word}
use Rattle.linkmodel.specs.Calls.{Joined}
use Rattle.netmodel.specs.Net.{Plug, Sent, Net, Move, net, Start, all_counted}

-- the words that a tells e in a packet, the latest first
unfoldable pub told_words : ℕ → ℕ → List Item → List Word
told_words a e [] = []
told_words a e (x ∷ xs) = told_words a e xs ++ (told_word a e x ∷ [])

-- and in a frame
abbrev pub words_of : ℕ → ℕ → Frame → List Word
words_of a e (Greets h) = []
words_of a e (Tells p) = told_words a e p.items
words_of a e (Shows p) = []

abbrev pub words_in : Sent → List Word
words_in f = words_of f.by f.over.at f.frame

-- the words in all frames that were sent
abbrev pub on_way : List Sent → List Word
on_way fs = flat_map words_in fs

-- the net stands after these events: each box's open roads and words, and every word on a wire
pub record StandsFor (n : ℕ) (x : Net) (es : List Ev) : Type 0 where
  pub joined : (a : ℕ) → a < n → Joined (x.at a)
  pub boxes : (a : ℕ) → a < n → StandsAs n a (x.at a).box es
  pub flight : (world n es).flight ≡ on_way x.sent
  pub tags : (t : ℕ) → is_in t (world n es).drawn ≡ true → is_in t x.tags ≡ true

-- For every run in which no box would have to say a count that it cannot there is a list of events after which the net stands.
abbrev pub Simulates : Type 0
Simulates = (n : ℕ) (first : ℕ → ℕ) (ms : List Move) → Start n first → T (all_counted n first ms []) → (es : List Ev) × StandsFor n (net n first ms) es

-- roads, and the numbers of boxes as their neighbours heard them last, are as they were
pub record Stays (n : ℕ) (x y : Net) : Type 0 where
  pub roads : (a e : ℕ) → a < n → e < n → (y.at a).box.cost e ≡ (x.at a).box.cost e
  pub lasts : (a e : ℕ) → a < n → e < n → (y.at a).links.last e ≡ (x.at a).links.last e
  pub lives : (a : ℕ) → a < n → (y.at a).links.drawn ≡ (x.at a).links.drawn

-- and so over each move of rs after ms
abbrev pub AllStays : ℕ → (ℕ → ℕ) → List Move → List Move → Type 0
AllStays n first rs ms = (later before : List Move) → rs ≡ later ++ before → Stays n (net n first ms) (net n first (before ++ ms))

-- While roads and boxes stay as they are, a run goes on by words alone, and each box says one only when what it has said isn't so.
abbrev pub SimulatesOn : Type 0
SimulatesOn =
    (n : ℕ) (first : ℕ → ℕ) (rs ms : List Move) (es : List Ev) → Start n first → T (all_counted n first (rs ++ ms) []) → StandsFor n (net n first ms) es → AllStays n first rs ms →
    (fs : List Ev) × StandsFor n (net n first (rs ++ ms)) (fs ++ es) × T (by_rule n fs es)

-- A wire is joined both ways, to another box, and it has heard only that.
abbrev pub WiresJoin : Type 0
WiresJoin =
    (n : ℕ) (first : ℕ → ℕ) (ms : List Move) → Start n first → (a w : ℕ) (p : Plug) → (net n first ms).joined a w ≡ Some p →
    ((a < n) × (w < wires) × (p.at < n) × (p.on < wires) × ((net n first ms).joined p.at p.on ≡ Some (record { at = a; on = w; laid = p.laid })))
    × ((f : ℕ) → who_on (((net n first ms).at a).links.wire w) ≡ Some f → f ≡ p.at)

-- What shown means: if a has it as shown by e, and the number that a last heard of e is the one that e has now, then e has that word or a newer one.
abbrev pub ShownMeans : Type 0
ShownMeans =
    (n : ℕ) (first : ℕ → ℕ) (ms : List Move) (a e i : ℕ) → a < n → e < n →
    ((net n first ms).at a).box.shown e i ≡ true → ((net n first ms).at a).links.last e ≡ ((net n first ms).at e).links.drawn →
    newer (((net n first ms).at a).box.word i) (((net n first ms).at e).box.word i) ≡ false

-- the net that these boxes are now
abbrev pub world_in : ℕ → Net → World
world_in n x = record { n = n; real = λ a. (x.at a).box.cost; knows = λ a. (x.at a).box.word; flight = []; drawn = [] }

-- A net that stands after some events is at rest just when that is rest, and both ends of its roads agree just when they do there.
abbrev pub RestIs : Type 0
RestIs =
    (n : ℕ) (x : Net) (es : List Ev) → StandsFor n x es →
    ((Rest (world_in n x) → Rest (world n es)) × (Rest (world n es) → Rest (world_in n x))) × ((Even (world_in n x) → Even (world n es)) × (Even (world n es) → Even (world_in n x)))

-- From every state that a run leads to in which both ends of each road agree, few words bring rest.
abbrev pub FewWords : Type 0
FewWords =
    (n : ℕ) (first : ℕ → ℕ) (ms : List Move) → Start n first → T (all_counted n first ms []) → Even (world_in n (net n first ms)) →
    (es : List Ev) × StandsFor n (net n first ms) es × ((fs : List Ev) × T (only_words fs) × (length fs ≤ 6 * n * n + n) × Rest (world n (fs ++ es)))
