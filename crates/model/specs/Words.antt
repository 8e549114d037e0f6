-- Routers that send each other what they know of all, roads that each end opens and closes by itself, words that come late, and routers that fall. Assumes nothing.
use Rattle.std.specs.Prelude.{ℕ, zero, suc, Bool, false, cond, not, ◌&&◌, ◌||◌, List, [], ◌∷◌, ◌++◌, ◌==◌, nat_lt}

-- what a router said of its own roads: a number, a tag that is never drawn twice, and what each road from it costs. Number 0: it hasn't said anything
pub record Entry : Type 0 where
  pub number : ℕ
  pub tag : ℕ
  pub road : ℕ → ℕ

abbrev pub newer : Entry → Entry → Bool
newer x y = nat_lt y.number x.number || (y.number == x.number && nat_lt y.tag x.tag)

abbrev pub unsaid : Entry
unsaid = record { number = 0; tag = 0; road = λ e. 0 }

-- a word on its way over a road: what somebody had of a router when it sent it
pub record Word : Type 0 where
  pub from : ℕ
  pub to : ℕ
  pub about : ℕ
  pub entry : Entry

-- real: what the road from one place to another costs now, as its beginning is told from below, 0 if it holds none open (each end holds by itself). knows a i: what a has of router i.
-- flight: all words that were ever sent; any may come, again and again, or never
pub record World : Type 0 where
  pub n : ℕ
  pub real : ℕ → ℕ → ℕ
  pub knows : ℕ → ℕ → Entry
  pub flight : List Word
  pub drawn : List ℕ

pub data Ev : Type 0 where
  Road : (a e costs : ℕ) → Ev
  Says : (a tag : ℕ) → Ev
  Sends : (a e about : ℕ) → Ev
  Comes : (which tag : ℕ) → Ev
  Falls : (a : ℕ) → Ev

unfoldable pub is_in : ℕ → List ℕ → Bool
is_in n [] = false
is_in n (x ∷ xs) = x == n || is_in n xs

abbrev pub at2 : {A : Type 0} → ℕ → ℕ → A → (ℕ → ℕ → A) → ℕ → ℕ → A
at2 i j x f p q = cond (p == i && q == j) x (f p q)

-- a says anew what its roads cost now
abbrev pub own_entry : ℕ → ℕ → ℕ → World → Entry
own_entry a number t w = record { number = suc number; tag = t; road = w.real a }

abbrev pub with_knows : (ℕ → ℕ → Entry) → List ℕ → World → World
with_knows k ts w = record { n = w.n; real = w.real; knows = k; flight = w.flight; drawn = ts ++ w.drawn }

abbrev pub says : ℕ → ℕ → World → World
says a t w = with_knows (at2 a a (own_entry a (w.knows a a).number t w) w.knows) (t ∷ []) w

-- a word comes to e. If it is newer than what e has, e takes it; but if it is about e itself, e says anew, above it
abbrev pub told : Word → ℕ → World → World
told x t w = cond (newer x.entry (w.knows x.to x.about))
    (cond (x.to == x.about) (with_knows (at2 x.to x.to (own_entry x.to x.entry.number t w) w.knows) (t ∷ []) w)
    (with_knows (at2 x.to x.about x.entry w.knows) [] w)) w

abbrev pub comes : Word → ℕ → World → World
comes x t w = cond (nat_lt 0 (w.real x.to x.from) && not (is_in t w.drawn)) (told x t w) w

unfoldable pub comes_nth : ℕ → ℕ → List Word → World → World
comes_nth i t [] w = w
comes_nth zero t (x ∷ xs) w = comes x t w
comes_nth (suc i) t (x ∷ xs) w = comes_nth i t xs w

abbrev pub sends : ℕ → ℕ → ℕ → World → World
sends a e i w = record { n = w.n; real = w.real; knows = w.knows; flight = record { from = a; to = e; about = i; entry = w.knows a i } ∷ w.flight; drawn = w.drawn }

abbrev pub step : Ev → World → World
step (Road a e c) w = cond (nat_lt a w.n && (nat_lt e w.n && not (a == e))) (record { n = w.n; real = at2 a e c w.real; knows = w.knows; flight = w.flight; drawn = w.drawn }) w
step (Says a t) w = cond (nat_lt a w.n && not (is_in t w.drawn)) (says a t w) w
step (Sends a e i) w = cond (nat_lt a w.n && (nat_lt e w.n && (nat_lt i w.n && nat_lt 0 (w.real a e)))) (sends a e i w) w
step (Comes i t) w = comes_nth i t w.flight w
step (Falls a) w = cond (nat_lt a w.n) (with_knows (λ p q. cond (p == a) unsaid (w.knows p q)) [] w) w

abbrev pub start : ℕ → World
start n = record { n = n; real = λ a e. 0; knows = λ a i. unsaid; flight = []; drawn = [] }

-- by events, the latest first
unfoldable pub world : ℕ → List Ev → World
world n [] = start n
world n (e ∷ es) = step e (world n es)
