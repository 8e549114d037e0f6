-- What is promised of words beyond their parts: tags, rest by rule, progress, and runs that are fair. Each is a type; a proof of the type is the theorem. Assumes nothing.
use Rattle.std.specs.Prelude.{◌≡◌, ℕ, ◌+◌, ◌*◌, ◌<◌, ◌≤◌, Bool, true, false, cond, not, ◌&&◌, ◌||◌, T, ◌⊎◌, List, [], ◌∷◌, ◌++◌, length, nat_lt}
use Rattle.model.specs.Words.{Word, World, Ev, Says, Comes, newer, is_in, world}
use Rattle.model.specs.Promise.{Even, Rest, all_below, own_true, by_rule, new_words}
use Rattle.model.specs.Code.{nth_is, same_word}
use Rattle.model.specs.Spread.{joined, between}

-- One tag is one word of one router, whoever has it.
abbrev pub OneTag : Type 0
OneTag =
    (n : ℕ) (es : List Ev) (a e i j : ℕ) → 0 < ((world n es).knows a i).number → 0 < ((world n es).knows e j).number →
    ((world n es).knows a i).tag ≡ ((world n es).knows e j).tag → (i ≡ j) × ((world n es).knows a i ≡ (world n es).knows e j)

-- From any state in which both ends of each road agree, few words bring rest, and nobody says one that is already so.
abbrev pub RestsByRule : Type 0
RestsByRule = (n : ℕ) (es : List Ev) → Even (world n es) → (fs : List Ev) × T (by_rule n fs es) × (length fs ≤ 4 * n * n + n) × Rest (world n (fs ++ es))

-- While both ends of each road agree: either it is rest, or at most two events by rule bring something new to somebody.
abbrev pub Progress : Type 0
Progress = (n : ℕ) (es : List Ev) → Even (world n es) → Rest (world n es) ⊎ ((fs : List Ev) × (length fs ≤ 2) × T (by_rule n fs es) × (0 < new_words n fs es))

-- how many new words there can be: by routers, and by the words that were on their way
abbrev pub few_new : ℕ → List Ev → ℕ
few_new n es = 2 * n * (n * n + length (world n es).flight)

-- However words go by rule, only so many are new to somebody.
abbrev pub EndsSooner : Type 0
EndsSooner = (n : ℕ) (es fs : List Ev) → T (by_rule n fs es) → new_words n fs es ≤ few_new n es

-- rest as a test
abbrev pub at_rest : World → Bool
at_rest w =
    all_below w.n (λ a. own_true a w && all_below w.n (λ e. (not (nat_lt 0 (w.real a e)) || nat_lt 0 (w.real e a)) &&
    (not (nat_lt 0 (w.real a e) && nat_lt 0 (w.real e a)) || all_below w.n (λ i. same_word (w.knows a i) (w.knows e i)))))

-- The test is right.
abbrev pub RestTest : Type 0
RestTest = (w : World) → (T (at_rest w) → Rest w) × (Rest w → T (at_rest w))

-- in fs, after es, router a says a word
pub record SaysIn (n a : ℕ) (fs es : List Ev) : Type 0 where
  pub later : List Ev
  pub before : List Ev
  pub tag : ℕ
  pub split : fs ≡ later ++ (Says a tag ∷ before)
  pub drawn_once : is_in tag (world n (before ++ es)).drawn ≡ false

-- in fs, after es, a word about i comes from a to e that isn't older than what a had when fs began
pub record ComesIn (n a e i : ℕ) (fs es : List Ev) : Type 0 where
  pub later : List Ev
  pub before : List Ev
  pub which : ℕ
  pub tag : ℕ
  pub word : Word
  pub split : fs ≡ later ++ (Comes which tag ∷ before)
  pub drawn_once : is_in tag (world n (before ++ es)).drawn ≡ false
  pub there : nth_is which word (world n (before ++ es)).flight
  pub is_from : word.from ≡ a
  pub is_to : word.to ≡ e
  pub is_about : word.about ≡ i
  pub not_older : newer ((world n es).knows a i) word.entry ≡ false

-- in fs, after es, whoever owed a word when it began says one, and what was new to a neighbour is told and brought
pub record Fair (n : ℕ) (fs es : List Ev) : Type 0 where
  pub says : (a : ℕ) → a < n → own_true a (world n es) ≡ false → SaysIn n a fs es
  pub brings : (a e i : ℕ) → a < n → e < n → i < n → 0 < (world n es).real a e → 0 < (world n es).real e a → newer ((world n es).knows a i) ((world n es).knows e i) ≡ true → ComesIn n a e i fs es

-- fs, after es, is by rule, and fair unless something new comes anyway
abbrev pub Stretch : ℕ → List Ev → List Ev → Type 0
Stretch n fs es = T (by_rule n fs es) × ((0 < new_words n fs es) ⊎ Fair n fs es)

unfoldable pub Stretches : ℕ → List (List Ev) → List Ev → Type 0
Stretches n [] es = Unit {0}
Stretches n (fs ∷ fss) es = Stretch n fs (joined fss ++ es) × Stretches n fss es

-- how many of these stretches don't end at rest
unfoldable pub restless_of : ℕ → List (List Ev) → List Ev → ℕ
restless_of n [] es = 0
restless_of n (fs ∷ fss) es = restless_of n fss es + cond (at_rest (world n (fs ++ (joined fss ++ es)))) 0 1

-- In every run by rule from a state in which both ends of each road agree, cut into fair stretches, all but so many end at rest.
abbrev pub Settles : Type 0
Settles = (n : ℕ) (es : List Ev) (fss : List (List Ev)) → Even (world n es) → Stretches n fss es → restless_of n fss es ≤ few_new n es

-- Of an endless run by rule in which from every moment on there is a fair stretch, it is impossible that it isn't at rest from some moment on.
abbrev pub SettlesAtLast : Type 0
SettlesAtLast =
    (n : ℕ) (es : List Ev) (run : ℕ → Ev) → Even (world n es) →
    ((k : ℕ) → (m : ℕ) × Stretch n (between run k m) (between run 0 k ++ es)) → ((k : ℕ) → T (by_rule n (between run 0 k) es)) →
    ((first : ℕ) × ((k : ℕ) → first ≤ k → Rest (world n (between run 0 k ++ es))) → ⊥) → ⊥
