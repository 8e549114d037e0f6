-- What is sent fits into frames. A proof of FramesFit is the theorem. Assumes nothing.
use Rattle.std.specs.Prelude.{◌≡◌, ℕ, zero, suc, ◌+◌, ◌^◌, ◌<◌, ◌≤◌, cond, List, [], ◌∷◌, length, Some, ◌≢◌, ◌==◌}
use Rattle.linkmodel.specs.Station.{Item, Sight, Frame, Greets, Tells, Shows}
use Rattle.netmodel.specs.Net.{Sent, Move, net, Start, sent_nth}

-- how many of the roads to the boxes below k there are
unfoldable pub roads_below : (ℕ → ℕ) → ℕ → ℕ
roads_below f zero = 0
roads_below f (suc k) = roads_below f k + cond (f k == 0) 0 1

-- a word that a frame can hold where there are n boxes: at most 8 roads, none to itself or to a box of n or more
pub record ItemFits (n : ℕ) (x : Item) : Type 0 where
  pub box : x.about < n
  pub some_count : 0 < x.entry.number
  pub count : x.entry.number < 2 ^ 63
  pub tag : x.entry.tag < 2 ^ 64
  pub few : roads_below x.entry.road 64 ≤ 8
  pub below : (i : ℕ) → (x.entry.road i ≢ 0) → i < n
  pub other : (i : ℕ) → (x.entry.road i ≢ 0) → i ≢ x.about
  pub costs : (i : ℕ) → x.entry.road i < 2 ^ 16

-- and the numbers of one
pub record SightFits (n : ℕ) (x : Sight) : Type 0 where
  pub box : x.about < n
  pub some_count : 0 < x.number
  pub count : x.number < 2 ^ 63
  pub tag : x.tag < 2 ^ 64

-- all of a list
unfoldable pub Each : {A : Type 0} → (A → Type 0) → List A → Type 0
Each P [] = Unit {0}
Each P (x ∷ xs) = P x × Each P xs

-- a number that a box drew
abbrev pub IsDrawn : ℕ → Type 0
IsDrawn d = (0 < d) × (d < 2 ^ 64)

-- one to four of a kind
abbrev pub OneToFour : {A : Type 0} → (A → Type 0) → List A → Type 0
OneToFour P xs = (1 ≤ length xs) × (length xs ≤ 4) × Each P xs

abbrev pub FrameFits : ℕ → Frame → Type 0
FrameFits n (Greets h) = (h.from < n) × IsDrawn h.drawn × (h.heard < 2 ^ 64)
FrameFits n (Tells p) = IsDrawn p.drawn × OneToFour (ItemFits n) p.items
FrameFits n (Shows p) = IsDrawn p.drawn × OneToFour (SightFits n) p.items

-- Every frame that was ever sent fits.
abbrev pub FramesFit : Type 0
FramesFit = (n : ℕ) (first : ℕ → ℕ) (ms : List Move) → Start n first → (k : ℕ) (f : Sent) → sent_nth k (net n first ms).sent ≡ Some f → FrameFits n f.frame
