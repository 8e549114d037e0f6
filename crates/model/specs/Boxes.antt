-- A net of boxes, each doing by itself what its calls do, driven by events. Each promise is a type; a proof of the type is the theorem. Assumes nothing.
use Rattle.std.specs.Prelude.{◌≡◌, ℕ, zero, suc, ◌+◌, ◌<◌, false, cond, ◌&&◌, List, [], ◌∷◌, ◌++◌, ◌==◌, nat_lt}
use Rattle.model.specs.Map.{Never, At, far, Hop, Nowhere, To}
use Rattle.model.specs.Words.{Word, Ev, Road, Says, Sends, Comes, Falls, is_in, world}
use Rattle.model.specs.Forward.{real_map, End, Arrived, Refused, Worn}
use Rattle.model.specs.Promise.{Rest}
use Rattle.model.specs.Code.{nth_is}
use Rattle.model.specs.Flood.{row}
use Rattle.model.specs.Box.{Box, Stands, begun, is_open, road_is, says_now, takes, sees, hears, forgets, fallen, closings, word_for, hop_in, must_say, tells, ticked, tick_says, tellings}
use Rattle.model.specs.CodeOf.{CodeOf, Shows}

-- the state is that of box a of n after these events
abbrev pub StandsAs : ℕ → ℕ → Box → List Ev → Type 0
StandsAs n a s es = (s.n ≡ n) × (s.me ≡ a) × Stands s es

-- this code of a box is made of just these calls
pub record OfCalls (n a : ℕ) (code : CodeOf n a Box (StandsAs n a)) : Type 0 where
  pub begin : code.begin ≡ begun n a
  pub road : (e c : ℕ) (s : Box) → code.road e c s ≡ road_is e c s
  pub says : (t : ℕ) (s : Box) → code.says t s ≡ says_now t s
  pub word : (e i : ℕ) (s : Box) → code.word e i s ≡ word_for e i s
  pub hears : (x : Word) (t : ℕ) (s : Box) → code.hears x t s ≡ hears x t s
  pub falls : (s : Box) → code.falls s ≡ forgets s
  pub hands_on : (d : ℕ) (s : Box) → code.hands_on d s ≡ hop_in d s
  pub owes : (s : Box) → code.owes s ≡ must_say s
  pub open' : (e : ℕ) (s : Box) → code.open' e s ≡ is_open e s
  pub shown : (e i : ℕ) (s : Box) → code.shown e i s ≡ s.shown e i
  pub tells : (e : ℕ) (s : Box) → code.tells e s ≡ tells e s
  pub seen : (e i c t : ℕ) (s : Box) → code.seen e i c t s ≡ sees e i c t s

-- The calls of a box are the code that is asked for, and what must be shown is shown.
abbrev pub BoxIsCode : Type 0
BoxIsCode = (n a : ℕ) → a < n → (code : CodeOf n a Box (StandsAs n a)) × OfCalls n a code × Shows Box (StandsAs n a) n a code

-- A word that is taken without counting as shown is the same event.
abbrev pub TakesSo : Type 0
TakesSo = (s : Box) (es : List Ev) (i t : ℕ) (x : Word) → Stands s es → nth_is i x (world s.n es).flight → x.to ≡ s.me → is_in t (world s.n es).drawn ≡ false → Stands (takes x t s) (Comes i t ∷ es)

-- A fall is the closing of each open road, and then the fall.
abbrev pub FallSo : Type 0
FallSo = (s : Box) (es : List Ev) → Stands s es → Stands (fallen s) (Falls s.me ∷ (closings s s.n ++ es))

-- the words that it then sends to e, and over all its open roads to boxes below k (the latest first)
unfoldable pub words_to : Box → ℕ → List ℕ → List Word
words_to s e [] = []
words_to s e (i ∷ is) = words_to s e is ++ (word_for e i s ∷ [])

unfoldable pub words_out : Box → ℕ → List Word
words_out s zero = []
words_out s (suc k) = cond (is_open k s) (words_to s k (tells k s)) [] ++ words_out s k

-- At a tick a box that owes says a word, and then sends over each open road what it tells; just these words are then on their way.
abbrev pub TickSo : Type 0
TickSo =
    (s : Box) (es : List Ev) (t : ℕ) → Stands s es → is_in t (world s.n es).drawn ≡ false →
    Stands (ticked t s) (tellings (ticked t s) s.n ++ (tick_says t s ++ es)) ×
    ((world s.n (tellings (ticked t s) s.n ++ (tick_says t s ++ es))).flight ≡ words_out (ticked t s) s.n ++ (world s.n es).flight)

-- boxes, by their numbers, and all words that they ever sent, the latest first
pub record Boxes : Type 0 where
  pub at : ℕ → Box
  pub sent : List Word

-- box a does this
abbrev pub does : ℕ → (Box → Box) → Boxes → Boxes
does a f b = record { at = row a (f (b.at a)) b.at; sent = b.sent }

unfoldable pub arrives : ℕ → ℕ → List Word → Boxes → Boxes
arrives k t [] b = b
arrives zero t (x ∷ xs) b = does x.to (hears x t) b
arrives (suc k) t (x ∷ xs) b = arrives k t xs b

-- an event is a call of the box that it is about; boxes of n or more send nothing and count for nothing
abbrev pub does_event : ℕ → Ev → Boxes → Boxes
does_event n (Road a e c) b = does a (road_is e c) b
does_event n (Says a t) b = does a (says_now t) b
does_event n (Sends a e i) b = cond (nat_lt a n && (nat_lt e n && (nat_lt i n && is_open e (b.at a)))) (record { at = b.at; sent = word_for e i (b.at a) ∷ b.sent }) b
does_event n (Comes k t) b = arrives k t b.sent b
does_event n (Falls a) b = does a forgets b

unfoldable pub boxes : ℕ → List Ev → Boxes
boxes n [] = record { at = λ a. begun n a; sent = [] }
boxes n (e ∷ es) = does_event n e (boxes n es)

-- no tag was drawn before
unfoldable pub Fresh : ℕ → List Ev → Type 0
Fresh n [] = Unit {0}
Fresh n (Road a e c ∷ es) = Fresh n es
Fresh n (Says a t ∷ es) = (is_in t (world n es).drawn ≡ false) × Fresh n es
Fresh n (Sends a e i ∷ es) = Fresh n es
Fresh n (Comes k t ∷ es) = (is_in t (world n es).drawn ≡ false) × Fresh n es
Fresh n (Falls a ∷ es) = Fresh n es

-- Whatever happens, with tags that were never drawn before, every box stands after it, and the words on their way are those that boxes sent.
abbrev pub EveryBoxStands : Type 0
EveryBoxStands = (n : ℕ) (es : List Ev) → Fresh n es → ((a : ℕ) → a < n → StandsAs n a ((boxes n es).at a) es) × ((boxes n es).sent ≡ (world n es).flight)

abbrev pub handed_on : (ℕ → ℕ → End) → Box → ℕ → ℕ → Hop → End
handed_on go s cost u Nowhere = Refused u
handed_on go s cost u (To v) = cond (is_open v s) (go (cost + s.cost v) v) (Refused u)

-- a packet for d at u, with so many steps left: each box hands it on by itself, over roads that it holds open
unfoldable pub follows : ℕ → (ℕ → Box) → ℕ → ℕ → ℕ → End
follows zero b d cost u = Worn
follows (suc k) b d cost u = cond (u == d) (Arrived cost) (handed_on (λ c v. follows k b d c v) (b u) cost u (hop_in d (b u)))

-- For any boxes that stand after some events: at rest, handed on from box to box, every packet arrives at the least cost in fewer steps than there are boxes, or is refused where it was sent.
abbrev pub BoxesDeliver : Type 0
BoxesDeliver =
    (n : ℕ) (es : List Ev) (b : ℕ → Box) → ((a : ℕ) → a < n → StandsAs n a (b a) es) → Rest (world n es) → (u d : ℕ) → u < n → d < n →
    ((c : ℕ) → far (real_map (world n es)) d u ≡ At c → follows n b d 0 u ≡ Arrived c) × (far (real_map (world n es)) d u ≡ Never → follows n b d 0 u ≡ Refused u)
