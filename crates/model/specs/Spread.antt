-- What is promised of flooding, whatever is said, subject by subject. Each is a type; a proof of the type is the theorem. Assumes nothing.
use Rattle.std.specs.Prelude.{◌≡◌, ℕ, zero, suc, ◌+◌, ◌*◌, ◌<◌, ◌≤◌, Bool, true, false, cond, not, ◌&&◌, ◌||◌, T, ◌⊎◌, List, [], ◌∷◌, ◌++◌, length, ◌==◌, ◌≢◌, nat_lt}
use Rattle.model.specs.Words.{is_in}
use Rattle.model.specs.Promise.{all_below}
use Rattle.model.specs.Flood.{fresher, Copy, Setup, Net, Act, Turns, Speaks, Tells, Gets, Back, act, net}

-- One tag is one item of one subject, whoever has it.
abbrev pub OneTagFor : Type 0 → Type 0
OneTagFor P =
    (s : Setup P) (es : List (Act P)) (a e i j : ℕ) → 0 < ((net s es).holds a i).number → 0 < ((net s es).holds e j).number →
    ((net s es).holds a i).tag ≡ ((net s es).holds e j).tag → (i ≡ j) × ((net s es).holds a i ≡ (net s es).holds e j)

-- Nobody has of a subject what was not, at some moment, what a box that spoke for it would say.
abbrev pub SpokenFor : Type 0 → Type 0
SpokenFor P =
    (s : Setup P) (es : List (Act P)) (a i : ℕ) → 0 < ((net s es).holds a i).number →
    (later : List (Act P)) × (before : List (Act P)) × (speaker : ℕ) × (es ≡ later ++ before) × ((net s before).speaks speaker i ≡ true) × (((net s es).holds a i).body ≡ (net s before).would speaker i)

-- What is had of a subject never gets older, unless who has it falls.
abbrev pub OnwardFor : Type 0 → Type 0
OnwardFor P =
    (s : Setup P) (w : Net P) (e : Act P) (a i : ℕ) → ((x : ℕ) (to : ℕ → ℕ) → e ≡ Back x to → x ≢ a) → fresher (w.holds a i) ((act s e w).holds a i) ≡ false

-- both ends of each link hold it open, or neither does
abbrev pub EvenFor : {P : Type 0} → Setup P → Net P → Type 0
EvenFor s w = (a e : ℕ) → a < s.boxes → e < s.boxes → w.link a e ≡ true → w.link e a ≡ true

-- at most one box speaks for the subject
abbrev pub Lone : {P : Type 0} → Setup P → Net P → ℕ → Type 0
Lone s w i = (a e : ℕ) → a < s.boxes → e < s.boxes → w.speaks a i ≡ true → w.speaks e i ≡ true → a ≡ e

-- box a speaks for i, and what it has said isn't what it would say now
abbrev pub owes : {P : Type 0} → Setup P → Net P → ℕ → ℕ → Bool
owes s w a i = w.speaks a i && not (s.same (w.holds a i).body (w.would a i) && (s.mute (w.would a i) || nat_lt 0 (w.holds a i).number))

-- at rest about one subject: nobody owes an item, and whoever share a link have the same one
pub record Settled {P : Type 0} (s : Setup P) (w : Net P) (i : ℕ) : Type 0 where
  pub own : (a : ℕ) → a < s.boxes → owes s w a i ≡ false
  pub alike : (a e : ℕ) → a < s.boxes → e < s.boxes → w.link a e ≡ true → w.link e a ≡ true → ((w.holds a i).number ≡ (w.holds e i).number) × ((w.holds a i).tag ≡ (w.holds e i).tag)

-- the same as a test
abbrev pub settled : {P : Type 0} → Setup P → Net P → ℕ → Bool
settled s w i =
    all_below s.boxes (λ a. not (owes s w a i) && all_below s.boxes (λ e. not (w.link a e && w.link e a) || ((w.holds a i).number == (w.holds e i).number && (w.holds a i).tag == (w.holds e i).tag)))

-- nobody turns or falls, and of subject i a box says an item only when it owes one
unfoldable pub by_rule_for : {P : Type 0} → Setup P → ℕ → List (Act P) → List (Act P) → Bool
by_rule_for s i [] es = true
by_rule_for s i (Turns a l sp p ∷ fs) es = false
by_rule_for s i (Speaks a j t ∷ fs) es = (not (j == i) || owes s (net s (fs ++ es)) a j) && by_rule_for s i fs es
by_rule_for s i (Tells a e j ∷ fs) es = by_rule_for s i fs es
by_rule_for s i (Gets k t ∷ fs) es = by_rule_for s i fs es
by_rule_for s i (Back a to ∷ fs) es = false

-- the copy is about i and brings something new where it comes
abbrev pub is_news : {P : Type 0} → Net P → ℕ → ℕ → Copy P → Bool
is_news w i t x = x.about == i && (w.link x.to x.from && (not (is_in t w.drawn) && fresher x.item (w.holds x.to x.about)))

unfoldable pub news_nth : {P : Type 0} → Net P → ℕ → ℕ → ℕ → List (Copy P) → Bool
news_nth w i k t [] = false
news_nth w i zero t (x ∷ xs) = is_news w i t x
news_nth w i (suc k) t (x ∷ xs) = news_nth w i k t xs

-- this act says an item of subject i that was owed, or brings one that is new to somebody
abbrev pub is_new : {P : Type 0} → Setup P → ℕ → Act P → Net P → Bool
is_new s i (Turns a l sp p) w = false
is_new s i (Speaks a j t) w = j == i && (nat_lt a s.boxes && (nat_lt j s.subjects && (not (is_in t w.drawn) && owes s w a j)))
is_new s i (Tells a e j) w = false
is_new s i (Gets k t) w = news_nth w i k t w.flight
is_new s i (Back a to) w = false

-- how often that happens while fs is done, after es
unfoldable pub news : {P : Type 0} → Setup P → ℕ → List (Act P) → List (Act P) → ℕ
news s i [] es = 0
news s i (f ∷ fs) es = news s i fs es + cond (is_new s i f (net s (fs ++ es))) 1 0

-- how many of these copies are about i
unfoldable pub about_in : {P : Type 0} → ℕ → List (Copy P) → ℕ
about_in i [] = 0
about_in i (x ∷ xs) = about_in i xs + cond (x.about == i) 1 0

-- how much can be new to somebody about i: by boxes, and by the copies about i that were on their way
abbrev pub most_news : {P : Type 0} → Setup P → ℕ → List (Act P) → ℕ
most_news s i es = 2 * s.boxes * (s.boxes + about_in i (net s es).flight)

-- However copies then go, there are only so many that are new to somebody.
abbrev pub EndsFor : Type 0 → Type 0
EndsFor P = (s : Setup P) (i : ℕ) (es fs : List (Act P)) → Lone s (net s es) i → T (by_rule_for s i fs es) → news s i fs es ≤ most_news s i es

-- When nothing is new to a neighbour and nobody owes, that is rest.
abbrev pub QuietFor : Type 0 → Type 0
QuietFor P =
    (s : Setup P) (w : Net P) (i : ℕ) → ((a e : ℕ) → a < s.boxes → e < s.boxes → w.link a e ≡ true → w.link e a ≡ true → fresher (w.holds a i) (w.holds e i) ≡ false) →
    ((a : ℕ) → a < s.boxes → owes s w a i ≡ false) → Settled s w i

-- The test of rest is right.
abbrev pub SettledTest : Type 0 → Type 0
SettledTest P = (s : Setup P) (w : Net P) (i : ℕ) → (T (settled s w i) → Settled s w i) × (Settled s w i → T (settled s w i))

-- From any state in which both ends of each link agree, a few acts about i, by rule, bring rest about i, and leave what is had of other subjects.
abbrev pub ComesToRestFor : Type 0 → Type 0
ComesToRestFor P =
    (s : Setup P) (i : ℕ) (es : List (Act P)) → i < s.subjects → EvenFor s (net s es) → Lone s (net s es) i →
    (fs : List (Act P)) × (length fs ≤ 4 * s.boxes + 1) × ((j : ℕ) → T (by_rule_for s j fs es)) × Settled s (net s (fs ++ es)) i × ((a j : ℕ) → (j ≢ i) → (net s (fs ++ es)).holds a j ≡ (net s es).holds a j)

-- While both ends of each link agree: either it is rest about i, or at most two acts by rule bring something new to somebody.
abbrev pub ProgressFor : Type 0 → Type 0
ProgressFor P =
    (s : Setup P) (i : ℕ) (es : List (Act P)) → i < s.subjects → EvenFor s (net s es) →
    Settled s (net s es) i ⊎ ((fs : List (Act P)) × (length fs ≤ 2) × ((j : ℕ) → T (by_rule_for s j fs es)) × (0 < news s i fs es))

unfoldable pub copy_is : {P : Type 0} → ℕ → Copy P → List (Copy P) → Type 0
copy_is k x [] = ⊥
copy_is zero x (y ∷ ys) = x ≡ y
copy_is (suc k) x (y ∷ ys) = copy_is k x ys

-- in fs, after es, box a says an item of i
pub record SpeaksIn {P : Type 0} (s : Setup P) (a i : ℕ) (fs es : List (Act P)) : Type 0 where
  pub later : List (Act P)
  pub before : List (Act P)
  pub tag : ℕ
  pub split : fs ≡ later ++ (Speaks a i tag ∷ before)
  pub drawn_once : is_in tag (net s (before ++ es)).drawn ≡ false

-- in fs, after es, a copy about i comes from a to e that isn't older than what a had when fs began
pub record BroughtIn {P : Type 0} (s : Setup P) (a e i : ℕ) (fs es : List (Act P)) : Type 0 where
  pub later : List (Act P)
  pub before : List (Act P)
  pub which : ℕ
  pub tag : ℕ
  pub copy : Copy P
  pub split : fs ≡ later ++ (Gets which tag ∷ before)
  pub drawn_once : is_in tag (net s (before ++ es)).drawn ≡ false
  pub there : copy_is which copy (net s (before ++ es)).flight
  pub is_from : copy.from ≡ a
  pub is_to : copy.to ≡ e
  pub is_about : copy.about ≡ i
  pub not_older : fresher ((net s es).holds a i) copy.item ≡ false

-- in fs, after es, whoever owed an item of i when it began says one, and what was new to a neighbour is told and brought
pub record FairFor {P : Type 0} (s : Setup P) (i : ℕ) (fs es : List (Act P)) : Type 0 where
  pub says : (a : ℕ) → a < s.boxes → owes s (net s es) a i ≡ true → SpeaksIn s a i fs es
  pub brings : (a e : ℕ) → a < s.boxes → e < s.boxes → (net s es).link a e ≡ true → (net s es).link e a ≡ true → fresher ((net s es).holds a i) ((net s es).holds e i) ≡ true → BroughtIn s a e i fs es

-- fs, after es, is by rule, and fair unless something new comes anyway
abbrev pub StretchFor : {P : Type 0} → Setup P → ℕ → List (Act P) → List (Act P) → Type 0
StretchFor s i fs es = T (by_rule_for s i fs es) × ((0 < news s i fs es) ⊎ FairFor s i fs es)

-- the acts of stretches, the latest stretch first
unfoldable pub joined : {A : Type 0} → List (List A) → List A
joined [] = []
joined (fs ∷ fss) = fs ++ joined fss

unfoldable pub StretchesFor : {P : Type 0} → Setup P → ℕ → List (List (Act P)) → List (Act P) → Type 0
StretchesFor s i [] es = Unit {0}
StretchesFor s i (fs ∷ fss) es = StretchFor s i fs (joined fss ++ es) × StretchesFor s i fss es

-- how many of these stretches don't end at rest about i
unfoldable pub restless : {P : Type 0} → Setup P → ℕ → List (List (Act P)) → List (Act P) → ℕ
restless s i [] es = 0
restless s i (fs ∷ fss) es = restless s i fss es + cond (settled s (net s (fs ++ (joined fss ++ es))) i) 0 1

-- In every run by rule from a state in which both ends of each link agree, cut into fair stretches, all but so many end at rest about i.
abbrev pub SettlesFor : Type 0 → Type 0
SettlesFor P =
    (s : Setup P) (i : ℕ) (es : List (Act P)) (fss : List (List (Act P))) → i < s.subjects → EvenFor s (net s es) → Lone s (net s es) i →
    StretchesFor s i fss es → restless s i fss es ≤ most_news s i es

-- the acts of an endless run from the k-th on, so many, the latest first
unfoldable pub between : {A : Type 0} → (ℕ → A) → ℕ → ℕ → List A
between run k zero = []
between run k (suc m) = run (k + m) ∷ between run k m

-- Of an endless run by rule in which from every moment on there is a fair stretch, it is impossible that it isn't at rest about i from some moment on.
abbrev pub SettlesAtLastFor : Type 0 → Type 0
SettlesAtLastFor P =
    (s : Setup P) (i : ℕ) (es : List (Act P)) (run : ℕ → Act P) → i < s.subjects → EvenFor s (net s es) → Lone s (net s es) i →
    ((k : ℕ) → (m : ℕ) × StretchFor s i (between run k m) (between run 0 k ++ es)) → ((k : ℕ) → T (by_rule_for s i (between run 0 k) es)) →
    ((first : ℕ) × ((k : ℕ) → first ≤ k → Settled s (net s (between run 0 k ++ es)) i) → ⊥) → ⊥
