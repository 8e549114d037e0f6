-- Both ends of a wire agree: two boxes, step by step, a wire of the one joined with a wire of the other. Each promise is a type; a proof of the type is the theorem. Assumes nothing.
use Rattle.std.specs.Prelude.{◌≡◌, ℕ, zero, suc, ◌+◌, ◌<◌, ◌≤◌, true, false, ◌⊎◌, List, [], ◌∷◌, ◌≢◌}
use Rattle.linkmodel.specs.Links.{Wire, Silent, Heard, Open, Hello, Links, wires, hello_every, passes, hello_for, sends_hello}
use Rattle.linkmodel.specs.Hellos.{Input, Passes, Hears, Rewires, Fell, links_after, is_open_wire}

-- one box: its links at the start, and what it meets in each step after its tick, the latest first
pub record Run : Type 0 where
  pub start : Links
  pub met : ℕ → List Input

-- its links after k steps: in each step it ticks once, and then meets the rest
unfoldable pub links_at : Run → ℕ → Links
links_at r zero = r.start
links_at r (suc k) = links_after (passes (links_at r k)) (r.met k)

-- its links in step k, counted from 0, right after the tick: now its hellos go out
abbrev pub ticked_at : Run → ℕ → Links
ticked_at r k = passes (links_at r k)

-- it is one of these
unfoldable pub is_of : Input → List Input → Type 0
is_of i [] = ⊥
is_of i (j ∷ js) = (i ≡ j) ⊎ is_of i js

-- the tick at which a wire was last heard, 0 if it wasn't
abbrev pub when_on : Wire → ℕ
when_on Silent = 0
when_on (Heard f d t) = t
when_on (Open f d t) = t

-- r sent this hello on wire v in step k or at most 2 steps before
pub record SentLately (r : Run) (v k : ℕ) (h : Hello) : Type 0 where
  pub step : ℕ
  pub so_far : step ≤ k
  pub lately : k ≤ step + 2
  pub goes : sends_hello v (ticked_at r step) ≡ true
  pub is : h ≡ hello_for v (ticked_at r step)

-- what a box whose wire w leads to the other may meet in step k: no second tick and no fall; its wire w stays; on w only such hellos as may come; on another wire a hello of the other box has the number that this has now
abbrev pub Fair : Run → ℕ → ℕ → (Hello → Type 0) → Input → Type 0
Fair other w k may Passes = ⊥
Fair other w k may (Hears u h) = (u ≡ w → may h) × ((u ≢ w) → h.from ≡ other.start.me → h.drawn ≡ (links_at other k).drawn)
Fair other w k may (Rewires c) = 0 < c w
Fair other w k may (Fell d) = ⊥

-- wire w of one box leads to the other: two boxes of one net, a number that was drawn, a wire that is there and wasn't heard in the future, and in each step the box meets only what it may
pub record End (one other : Run) (w : ℕ) (may : ℕ → Hello → Type 0) : Type 0 where
  pub box : one.start.me < one.start.n
  pub net : one.start.n ≡ other.start.n
  pub apart : one.start.me ≡ other.start.me → ⊥
  pub drew : 0 < one.start.drawn
  pub there : w < wires
  pub costs : 0 < one.start.cost w
  pub past : when_on (one.start.wire w) ≤ one.start.tick
  pub fair : (k : ℕ) (i : Input) → is_of i (one.met k) → Fair other w k (may k) i

-- what the other sends on its wire v in step j comes to the one on w in this step or at most 2 steps later
abbrev pub Came : Run → Run → ℕ → ℕ → ℕ → Type 0
Came one other w v j = (k : ℕ) × (j ≤ k) × (k ≤ j + 2) × is_of (Hears w (hello_for v (ticked_at other j))) (one.met k)

-- from step m on, of any 3 hellos one after the other that the other sends on v, one comes
abbrev pub Enough : Run → Run → ℕ → ℕ → ℕ → Type 0
Enough one other w v m = (j : ℕ) → m ≤ j → sends_hello v (ticked_at other j) ≡ true → Came one other w v j ⊎ (Came one other w v (j + hello_every) ⊎ Came one other w v (j + hello_every + hello_every))

-- after k steps the wire is open to the other, under the number that this has then
abbrev pub OpenTo : Run → ℕ → Wire → Type 0
OpenTo other k x = (t : ℕ) × (x ≡ Open other.start.me (links_at other k).drawn t)

-- the wire isn't open to a third box
abbrev pub NoThird : Run → Wire → Type 0
NoThird other x = (g d t : ℕ) → x ≡ Open g d t → g ≡ other.start.me

-- 40 steps until a third box is forgotten, 32 until both have heard each other, and 32 until both have heard that
abbrev pub both_open_after : ℕ
both_open_after = 104

abbrev pub both_open_sooner : ℕ
both_open_sooner = 64

-- 41 steps until the one forgets, 2 until the last hello has come that it sent before, and 40 until the other forgets
abbrev pub neither_open_after : ℕ
neither_open_after = 83

-- If enough comes at both ends from step m on, then both_open_after steps later both hold the wire open to each other, and ever after.
abbrev pub BothOpen : Type 0
BothOpen =
    (a e : Run) (w v m : ℕ) → End a e w (SentLately e v) → End e a v (SentLately a w) → Enough a e w v m → Enough e a v w m →
    (k : ℕ) → m + both_open_after ≤ k → OpenTo e k ((links_at a k).wire w) × OpenTo a k ((links_at e k).wire v)

-- The same sooner, if at the start the wire is open to no third box at either end.
abbrev pub BothOpenSooner : Type 0
BothOpenSooner =
    (a e : Run) (w v m : ℕ) → End a e w (SentLately e v) → End e a v (SentLately a w) → Enough a e w v m → Enough e a v w m → NoThird e (a.start.wire w) → NoThird a (e.start.wire v) →
    (k : ℕ) → m + both_open_sooner ≤ k → OpenTo e k ((links_at a k).wire w) × OpenTo a k ((links_at e k).wire v)

-- If from step m on nothing comes at one end, then neither_open_after steps later neither holds the wire open, and never after.
abbrev pub NeitherOpen : Type 0
NeitherOpen =
    (a e : Run) (w v m : ℕ) → End a e w (SentLately e v) → End e a v (λ k h. (k < m) × SentLately a w k h) →
    (k : ℕ) → m + neither_open_after ≤ k → (is_open_wire ((links_at a k).wire w) ≡ false) × (is_open_wire ((links_at e k).wire v) ≡ false)

-- What these promises ask can be so: of two boxes to which enough comes, and of two of which the one gets nothing from step m on.
abbrev pub CanAgree : Type 0
CanAgree =
    ((a : Run) × (e : Run) × (w : ℕ) × (v : ℕ) × End a e w (SentLately e v) × End e a v (SentLately a w) × Enough a e w v 0 × Enough e a v w 0) ×
    ((m : ℕ) → (a : Run) × (e : Run) × (w : ℕ) × (v : ℕ) × End a e w (SentLately e v) × End e a v (λ k h. (k < m) × SentLately a w k h))
