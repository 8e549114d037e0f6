-- What an open wire means: for one box over any inputs, and for a net of boxes over any history of hellos, which may be lost, repeated, late, out of order or on another wire. Each promise is a type; a proof of the type is the theorem. Assumes nothing.
use Rattle.std.specs.Prelude.{◌≡◌, ℕ, zero, suc, ◌<◌, ◌≤◌, Bool, true, false, cond, not, ◌&&◌, ◌||◌, T, List, [], ◌∷◌, ◌++◌, Some, ◌==◌, nat_lt}
use Rattle.model.specs.Flood.{row}
use Rattle.model.specs.Words.{is_in}
use Rattle.linkmodel.specs.Links.{Wire, Silent, Heard, Open, Hello, Links, wires, holds_for, heard_on, who_on, fresh, passes, hello_for, sends_hello, hello_refusal, hears_hello, rewired, fell}

-- what can happen to one box
pub data Input : Type 0 where
  Passes : Input
  Hears : (w : ℕ) (h : Hello) → Input
  Rewires : (costs : ℕ → ℕ) → Input
  Fell : (drawn : ℕ) → Input

abbrev pub meets : Input → Links → Links
meets Passes s = passes s
meets (Hears w h) s = hears_hello w h s
meets (Rewires c) s = rewired c s
meets (Fell d) s = fell d s

-- by inputs, the latest first
unfoldable pub links_after : Links → List Input → Links
links_after s [] = s
links_after s (i ∷ is) = meets i (links_after s is)

abbrev pub is_open_wire : Wire → Bool
is_open_wire Silent = false
is_open_wire (Heard f d t) = false
is_open_wire (Open f d t) = true

-- this hello is taken on this wire
abbrev pub accepts : ℕ → Hello → Links → Bool
accepts w h s = nat_lt w wires && (nat_lt 0 (s.cost w) && hello_refusal w h s == 0)

unfoldable pub ticks_in : List Input → ℕ
ticks_in [] = 0
ticks_in (Passes ∷ is) = suc (ticks_in is)
ticks_in (Hears w h ∷ is) = ticks_in is
ticks_in (Rewires c ∷ is) = ticks_in is
ticks_in (Fell d ∷ is) = ticks_in is

-- what came later neither took another hello on wire w, nor one of the same box with another drawn number, nor took the wire away, nor was a fall
unfoldable pub undisturbed : Links → ℕ → Hello → List Input → List Input → Bool
undisturbed s w h [] before = true
undisturbed s w h (Passes ∷ is) before = undisturbed s w h is before
undisturbed s w h (Hears v g ∷ is) before = (not (accepts v g (links_after s (is ++ before))) || (not (v == w) && (not (g.from == h.from) || g.drawn == h.drawn))) && undisturbed s w h is before
undisturbed s w h (Rewires c ∷ is) before = nat_lt 0 (c w) && undisturbed s w h is before
undisturbed s w h (Fell d ∷ is) before = false

-- the last hello taken on wire w: it names this box's drawn number, is no more than 40 ticks old, and nothing has closed the wire since
pub record Fits (s : Links) (w : ℕ) (is : List Input) : Type 0 where
  pub later : List Input
  pub before : List Input
  pub hello : Hello
  pub split : is ≡ later ++ (Hears w hello ∷ before)
  pub accepted : accepts w hello (links_after s before) ≡ true
  pub names : hello.heard ≡ (links_after s is).drawn
  pub recent : ticks_in later ≤ holds_for
  pub since : T (undisturbed s w hello later (Hears w hello ∷ before))

-- A wire is open just when its last hello fits.
abbrev pub OpenJustWhen : Type 0
OpenJustWhen =
    (n me d : ℕ) (is : List Input) (w : ℕ) →
    (is_open_wire ((links_after (fresh n me d) is).wire w) ≡ true → Fits (fresh n me d) w is) × (Fits (fresh n me d) w is → is_open_wire ((links_after (fresh n me d) is).wire w) ≡ true)

-- boxes, by their numbers, all hellos ever sent, and all numbers ever drawn
pub record Hellos : Type 0 where
  pub box : ℕ → Links
  pub sent : List Hello
  pub drawn : List ℕ

-- a box ticks; the so-manieth hello comes to a box, on any of its wires; a box's wires change; a box falls and draws
pub data Move : Type 0 where
  Ticks : (a : ℕ) → Move
  Arrives : (which a w : ℕ) → Move
  Wired : (a : ℕ) (costs : ℕ → ℕ) → Move
  Falls : (a drawn : ℕ) → Move

abbrev pub on_box : ℕ → (Links → Links) → Hellos → Hellos
on_box a f x = record { box = row a (f (x.box a)) x.box; sent = x.sent; drawn = x.drawn }

-- the hellos that go out on the wires below k
unfoldable pub hellos_out : Links → ℕ → List Hello
hellos_out s zero = []
hellos_out s (suc k) = cond (sends_hello k s) (hello_for k s ∷ hellos_out s k) (hellos_out s k)

unfoldable pub arrives_nth : ℕ → ℕ → ℕ → List Hello → Hellos → Hellos
arrives_nth k a w [] x = x
arrives_nth zero a w (h ∷ hs) x = on_box a (hears_hello w h) x
arrives_nth (suc k) a w (h ∷ hs) x = arrives_nth k a w hs x

abbrev pub move : ℕ → Move → Hellos → Hellos
move n (Ticks a) x = cond (nat_lt a n) (record { box = row a (passes (x.box a)) x.box; sent = hellos_out (passes (x.box a)) wires ++ x.sent; drawn = x.drawn }) x
move n (Arrives k a w) x = cond (nat_lt a n) (arrives_nth k a w x.sent x) x
move n (Wired a c) x = cond (nat_lt a n) (on_box a (rewired c) x) x
move n (Falls a d) x = cond (nat_lt a n && (nat_lt 0 d && not (is_in d x.drawn))) (record { box = row a (fell d (x.box a)) x.box; sent = x.sent; drawn = d ∷ x.drawn }) x

-- the first numbers drawn, of the boxes below k
unfoldable pub first_drawn : (ℕ → ℕ) → ℕ → List ℕ
first_drawn first zero = []
first_drawn first (suc k) = first k ∷ first_drawn first k

unfoldable pub hellos : ℕ → (ℕ → ℕ) → List Move → Hellos
hellos n first [] = record { box = λ a. fresh n a (first a); sent = []; drawn = first_drawn first n }
hellos n first (m ∷ ms) = move n m (hellos n first ms)

-- no number is 0, and none is drawn twice
abbrev pub Drawn : ℕ → (ℕ → ℕ) → Type 0
Drawn n first = ((a : ℕ) → a < n → 0 < first a) × ((a e : ℕ) → a < n → e < n → first a ≡ first e → a ≡ e)

-- If a has its road to e open over some wire, under e's drawn number r, then e, in the life in which it had drawn r, heard a in this life of a.
abbrev pub OpenMeans : Type 0
OpenMeans =
    (n : ℕ) (first : ℕ → ℕ) (ms : List Move) → Drawn n first → (a w e r t : ℕ) → a < n → ((hellos n first ms).box a).wire w ≡ Open e r t →
    (e < n) × ((later : List Move) × (before : List Move) × (v : ℕ) × (ms ≡ later ++ before) × (((hellos n first before).box e).drawn ≡ r) ×
    (who_on (((hellos n first before).box e).wire v) ≡ Some a) × (heard_on (((hellos n first before).box e).wire v) ≡ ((hellos n first ms).box a).drawn))
