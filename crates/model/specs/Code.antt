-- What the code must be, to be this system: its states, what it does at each event, and what it answers and sends; the code has to give a term of this. Assumes nothing.
use Rattle.std.specs.Prelude.{◌≡◌, ℕ, zero, suc, ◌+◌, ◌<◌, Bool, true, false, cond, not, ◌&&◌, ◌||◌, T, List, [], ◌∷◌, ◌==◌, ◌≢◌, nat_lt}
use Rattle.model.specs.Map.{Hop, hop}
use Rattle.model.specs.Words.{Entry, Word, Ev, Road, Says, Sends, Comes, Falls, is_in, world}
use Rattle.model.specs.Forward.{map_of}
use Rattle.model.specs.Promise.{own_true}

abbrev pub of_box : ℕ → Ev → Bool
of_box a (Road b e c) = a == b
of_box a (Says b t) = a == b
of_box a (Sends b e i) = a == b
of_box a (Comes i t) = false
of_box a (Falls b) = a == b

unfoldable pub nth_is : ℕ → Word → List Word → Type 0
nth_is i x [] = ⊥
nth_is zero x (y ∷ ys) = x ≡ y
nth_is (suc i) x (y ∷ ys) = nth_is i x ys

-- the first k of i, i + 1, and so on over m places, that pass the test
unfoldable pub pick : ℕ → ℕ → (ℕ → Bool) → ℕ → List ℕ
pick zero k f i = []
pick (suc m) zero f i = []
pick (suc m) (suc k) f i = cond (f i) (i ∷ pick m k f (i + 1)) (pick m (suc k) f (i + 1))

-- the same word: by number and tag
abbrev pub same_word : Entry → Entry → Bool
same_word x y = x.number == y.number && x.tag == y.tag

-- one box of n, with number a. Stands: this state is that of the box after these events
pub record Code (n a : ℕ) : Type 1 where
  pub State : Type 0
  pub Stands : State → List Ev → Type 0
  pub begin : State
  pub road : (to costs : ℕ) → State → State
  pub says : (tag : ℕ) → State → State
  pub word : (to about : ℕ) → State → Word
  pub hears : Word → (tag : ℕ) → State → State
  pub falls : State → State
  pub hands_on : (to : ℕ) → State → Hop
  pub begins : Stands begin []
  pub road_so : (s : State) (es : List Ev) (e c : ℕ) → Stands s es → Stands (road e c s) (Road a e c ∷ es)
  pub says_so : (s : State) (es : List Ev) (t : ℕ) → Stands s es → is_in t (world n es).drawn ≡ false → Stands (says t s) (Says a t ∷ es)
  pub sends_so : (s : State) (es : List Ev) (e i : ℕ) → e < n → i < n → Stands s es → Stands s (Sends a e i ∷ es) × (0 < (world n es).real a e → (world n (Sends a e i ∷ es)).flight ≡ word e i s ∷ (world n es).flight)
  pub hears_so : (s : State) (es : List Ev) (i t : ℕ) (x : Word) → Stands s es → nth_is i x (world n es).flight → x.to ≡ a → is_in t (world n es).drawn ≡ false → Stands (hears x t s) (Comes i t ∷ es)
  pub hears_not : (s : State) (es : List Ev) (i t : ℕ) (x : Word) → Stands s es → nth_is i x (world n es).flight → (x.to ≢ a) → Stands s (Comes i t ∷ es)
  pub falls_so : (s : State) (es : List Ev) → Stands s es → Stands (falls s) (Falls a ∷ es)
  pub others : (s : State) (es : List Ev) (e : Ev) → Stands s es → of_box a e ≡ false → ((i t : ℕ) → e ≢ Comes i t) → Stands s (e ∷ es)
  pub hands_on_so : (s : State) (es : List Ev) (d : ℕ) → Stands s es → d < n → hands_on d s ≡ hop (map_of (world n es) a) d a
  -- what it must do: say when its word isn't so, and tell what a neighbour hasn't shown that it has
  pub owes : State → Bool
  pub owes_so : (s : State) (es : List Ev) → Stands s es → owes s ≡ not (own_true a (world n es))
  pub open' : (to : ℕ) → State → Bool
  pub open_so : (s : State) (es : List Ev) (e : ℕ) → Stands s es → e < n → open' e s ≡ nat_lt 0 ((world n es).real a e)
  pub shown : (to about : ℕ) → State → Bool
  pub tells : (to : ℕ) → State → List ℕ
  pub tells_so : (s : State) (es : List Ev) (e : ℕ) → Stands s es → e < n → open' e s ≡ true → tells e s ≡ pick n 4 (λ i. nat_lt 0 ((world n es).knows a i).number && not (shown e i s)) 0
  -- shown only by a word of this box's that comes from that neighbour, or a seen of it, for the very word that this box has; nothing is when a road opens, nor of a word that this box took or said anew, but for the one who told it
  pub seen : (from about number tag : ℕ) → State → State
  pub seen_so : (s : State) (es : List Ev) (e i c t : ℕ) → Stands s es → Stands (seen e i c t s) es
  pub shown_opens : (s : State) (e c i : ℕ) → open' e s ≡ false → shown e i (road e c s) ≡ false
  pub shown_road : (s : State) (e c f i : ℕ) → shown f i (road e c s) ≡ true → shown f i s ≡ true
  pub shown_falls : (s : State) (e i : ℕ) → shown e i (falls s) ≡ false
  pub shown_says : (s : State) (es : List Ev) (e i t : ℕ) → Stands s es → is_in t (world n es).drawn ≡ false → shown e i (says t s) ≡ true → T (shown e i s && same_word ((world n (Says a t ∷ es)).knows a i) ((world n es).knows a i))
  pub shown_hears : (s : State) (es : List Ev) (j t : ℕ) (x : Word) (e i : ℕ) → Stands s es → nth_is j x (world n es).flight → x.to ≡ a → is_in t (world n es).drawn ≡ false → shown e i (hears x t s) ≡ true →
      T ((shown e i s && same_word ((world n (Comes j t ∷ es)).knows a i) ((world n es).knows a i)) || (x.from == e && (x.about == i && same_word x.entry ((world n (Comes j t ∷ es)).knows a i))))
  pub shown_seen : (s : State) (es : List Ev) (k j c t e i : ℕ) → Stands s es → shown e i (seen k j c t s) ≡ true → T (shown e i s || (k == e && (j == i && (c == ((world n es).knows a i).number && t == ((world n es).knows a i).tag))))
