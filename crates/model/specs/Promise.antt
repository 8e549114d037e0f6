-- What is promised of the whole, and of its parts. Each is a type; a proof of the type is the theorem. Assumes nothing.
use Rattle.std.specs.Prelude.{◌≡◌, ℕ, zero, suc, ◌+◌, ◌*◌, ◌<◌, ◌≤◌, Bool, true, false, cond, not, ◌&&◌, ◌||◌, T, List, [], ◌∷◌, ◌++◌, length, ◌==◌, ◌≢◌, nat_lt}
use Rattle.model.specs.Map.{Map, Never, At, far}
use Rattle.model.specs.Words.{Word, World, Ev, Road, Says, Sends, Comes, Falls, newer, is_in, world, step}
use Rattle.model.specs.Forward.{map_of, real_map, Arrived, Refused, travels}

unfoldable pub is_way : Map → ℕ → List ℕ → Bool
is_way z x [] = true
is_way z x (y ∷ ys) = nat_lt y z.n && nat_lt 0 (z.cost x y) && is_way z y ys

unfoldable pub last : ℕ → List ℕ → ℕ
last x [] = x
last x (y ∷ ys) = last y ys

unfoldable pub cost_of : Map → ℕ → List ℕ → ℕ
cost_of z x [] = 0
cost_of z x (y ∷ ys) = z.cost x y + cost_of z y ys

-- 1. far is the least cost of any way.
abbrev pub Least : Type 0
Least =
    (z : Map) (d a : ℕ) → a < z.n → d < z.n →
    ((ws : List ℕ) → T (is_way z a ws) → last a ws ≡ d → (c : ℕ) × (far z d a ≡ At c) × (c ≤ cost_of z a ws)) ×
    ((c : ℕ) → far z d a ≡ At c → (ws : List ℕ) × T (is_way z a ws) × (last a ws ≡ d) × (cost_of z a ws ≡ c))

-- 2. Nobody has of a router what it didn't say: the same number and tag are the same words, and they are what its roads cost at some moment. (After a fall others may have a newer word of a router than it has itself.)
abbrev pub SameWords : Type 0
SameWords =
    (n : ℕ) (es : List Ev) (a e i : ℕ) → 0 < ((world n es).knows a i).number → ((world n es).knows a i).number ≡ ((world n es).knows e i).number →
    ((world n es).knows a i).tag ≡ ((world n es).knows e i).tag → (x : ℕ) → ((world n es).knows a i).road x ≡ ((world n es).knows e i).road x

abbrev pub OwnWords : Type 0
OwnWords =
    (n : ℕ) (es : List Ev) (a i : ℕ) → 0 < ((world n es).knows a i).number →
    (later : List Ev) × (before : List Ev) × (es ≡ later ++ before) × ((x : ℕ) → ((world n es).knows a i).road x ≡ (world n before).real i x)

-- 3. What is known of a router never gets older, unless who knows it falls.
abbrev pub Onward : Type 0
Onward = (w : World) (e : Ev) (a i : ℕ) → ((x : ℕ) → e ≡ Falls x → x ≢ a) → newer (w.knows a i) ((step e w).knows a i) ≡ false

-- each road is held open by both its ends, or by neither
abbrev pub Even : World → Type 0
Even w = (a e : ℕ) → a < w.n → e < w.n → 0 < w.real a e → 0 < w.real e a

-- at rest: whoever share a road know the same of all, and what each has said of itself is so; who has no road need have said nothing
pub record Rest (w : World) : Type 0 where
  pub even : Even w
  pub own : (a x : ℕ) → a < w.n → x < w.n → (w.knows a a).road x ≡ w.real a x
  pub said : (a e : ℕ) → a < w.n → e < w.n → 0 < w.real a e → 0 < w.real e a → 0 < (w.knows a a).number
  pub alike : (a e i : ℕ) → a < w.n → e < w.n → i < w.n → 0 < w.real a e → 0 < w.real e a → ((w.knows a i).number ≡ (w.knows e i).number) × ((w.knows a i).tag ≡ (w.knows e i).tag)

unfoldable pub only_words : List Ev → Bool
only_words [] = true
only_words (Road a e c ∷ es) = false
only_words (Says a t ∷ es) = only_words es
only_words (Sends a e i ∷ es) = only_words es
only_words (Comes i t ∷ es) = only_words es
only_words (Falls a ∷ es) = false

-- 4. From any state in which both ends of each road agree, once roads and routers stay as they are, few words bring rest,
abbrev pub ComesToRest : Type 0
ComesToRest = (n : ℕ) (es : List Ev) → Even (world n es) → (fs : List Ev) × T (only_words fs) × (length fs ≤ 6 * n * n + n) × Rest (world n (fs ++ es))

-- 5. and however words then go, each box saying a word of itself only when what it has said isn't so, there are only so many that are new to somebody;
unfoldable pub all_below : ℕ → (ℕ → Bool) → Bool
all_below zero f = true
all_below (suc n) f = f n && all_below n f

abbrev pub own_true : ℕ → World → Bool
own_true a w = all_below w.n (λ x. ((w.knows a a).road x == w.real a x) && (w.real a x == 0 || nat_lt 0 (w.knows a a).number))

abbrev pub is_new : World → ℕ → Word → Bool
is_new w t x = nat_lt 0 (w.real x.to x.from) && (not (is_in t w.drawn) && newer x.entry (w.knows x.to x.about))

unfoldable pub new_nth : World → ℕ → ℕ → List Word → Bool
new_nth w i t [] = false
new_nth w zero t (x ∷ xs) = is_new w t x
new_nth w (suc i) t (x ∷ xs) = new_nth w i t xs

abbrev pub goes : Ev → World → Bool
goes (Road a e c) w = false
goes (Falls a) w = false
goes (Sends a e i) w = false
goes (Says a t) w = nat_lt a w.n && (not (is_in t w.drawn) && not (own_true a w))
goes (Comes i t) w = new_nth w i t w.flight

unfoldable pub new_words : ℕ → List Ev → List Ev → ℕ
new_words n [] es = 0
new_words n (f ∷ fs) es = new_words n fs es + cond (goes f (world n (fs ++ es))) 1 0

unfoldable pub by_rule : ℕ → List Ev → List Ev → Bool
by_rule n [] es = true
by_rule n (Road a e c ∷ fs) es = false
by_rule n (Falls a ∷ fs) es = false
by_rule n (Says a t ∷ fs) es = not (own_true a (world n (fs ++ es))) && by_rule n fs es
by_rule n (Sends a e i ∷ fs) es = by_rule n fs es
by_rule n (Comes i t ∷ fs) es = by_rule n fs es

-- how many new ones there can be: by routers, and by the words that were on their way
abbrev pub most_new : ℕ → List Ev → ℕ
most_new n es = 2 * n * n * (n + length (world n es).flight) + n

abbrev pub Ends : Type 0
Ends = (n : ℕ) (es fs : List Ev) → T (by_rule n fs es) → new_words n fs es ≤ most_new n es

-- and when nothing is new to anybody, and each has said what is so, that is rest.
abbrev pub QuietIsRest : Type 0
QuietIsRest =
    (n : ℕ) (es : List Ev) → Even (world n es) → ((a e i : ℕ) → a < n → e < n → i < n → 0 < (world n es).real a e → 0 < (world n es).real e a → newer ((world n es).knows a i) ((world n es).knows e i) ≡ false) →
    ((a : ℕ) → a < n → T (own_true a (world n es))) → Rest (world n es)

-- 6. At rest each router's map gives the distances of the real roads; that it has just the real roads of all that can be reached is in Hops.
abbrev pub MapTrue : Type 0
MapTrue =
    (n : ℕ) (es : List Ev) → Rest (world n es) → (a d : ℕ) → a < n → d < n → far (map_of (world n es) a) d a ≡ far (real_map (world n es)) d a

-- THE MAIN PROMISE. Roads open, close and change, routers fall and come back with nothing, words go in any order and as often as they like, for as long as you like.
-- Whenever the net is at rest, every packet from anywhere to anywhere that can be reached arrives, by a way than which none is cheaper, in fewer steps than there are routers;
-- it is refused at once where no way leads; from every state few words bring rest; and whatever words go by rule, only so many are new to anybody, and when none is, that is rest.
pub record Whole (n : ℕ) (es : List Ev) : Type 0 where
  pub arrives : Rest (world n es) → (u d c : ℕ) → u < n → d < n → far (real_map (world n es)) d u ≡ At c → travels n (world n es) d 0 u ≡ Arrived c
  pub refused : Rest (world n es) → (u d : ℕ) → u < n → d < n → far (real_map (world n es)) d u ≡ Never → travels n (world n es) d 0 u ≡ Refused u
  pub settles : (fs : List Ev) → T (by_rule n fs es) → new_words n fs es ≤ most_new n es
  pub quiet : Even (world n es) → ((a e i : ℕ) → a < n → e < n → i < n → 0 < (world n es).real a e → 0 < (world n es).real e a → newer ((world n es).knows a i) ((world n es).knows e i) ≡ false) →
      ((a : ℕ) → a < n → T (own_true a (world n es))) → Rest (world n es)
  pub rests : Even (world n es) → (fs : List Ev) × T (only_words fs) × (length fs ≤ 6 * n * n + n) × Rest (world n (fs ++ es))
  pub least : Least

abbrev pub Main : Type 0
Main = (n : ℕ) (es : List Ev) → Whole n es
