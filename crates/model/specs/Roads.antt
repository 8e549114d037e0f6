-- Words about roads as an instance of flooding: what is said is what each road costs, each router speaks for its own number, and a fall keeps nothing. Assumes nothing.
use Rattle.std.specs.Prelude.{◌≡◌, ℕ, cond, not, ◌&&◌, ltb, List, [], ◌∷◌, map, ◌==◌, nat_eq, nat_lt}
use Rattle.model.specs.Words.{Entry, Word, World, Ev, Road, Says, Sends, Comes, Falls, world}
use Rattle.model.specs.Promise.{all_below}
use Rattle.model.specs.Flood.{Item, Copy, Setup, Net, Act, Turns, Speaks, Tells, Gets, Back, row, net}

abbrev pub item_of : Entry → Item (ℕ → ℕ)
item_of x = record { number = x.number; tag = x.tag; body = x.road }

abbrev pub copy_of : Word → Copy (ℕ → ℕ)
copy_of x = record { from = x.from; to = x.to; about = x.about; item = item_of x.entry }

-- the costs of a's roads after a road to e costs c, if there can be such a road
abbrev pub costs_after : World → ℕ → ℕ → ℕ → ℕ → ℕ
costs_after w a e c = cond (nat_lt e w.n && not (a == e)) (row e c (w.real a)) (w.real a)

-- an event as an act
abbrev pub act_of : World → Ev → Act (ℕ → ℕ)
act_of w (Road a e c) = Turns a (λ x. ltb 0 (costs_after w a e c x)) (λ i. nat_eq a i) (λ i. costs_after w a e c)
act_of w (Says a t) = Speaks a a t
act_of w (Sends a e i) = Tells a e i
act_of w (Comes k t) = Gets k t
act_of w (Falls a) = Back a (λ i. 0)

unfoldable pub acts_of : ℕ → List Ev → List (Act (ℕ → ℕ))
acts_of n [] = []
acts_of n (e ∷ es) = act_of (world n es) e ∷ acts_of n es

-- this setup is that of roads: two words say the same if all roads below n cost the same, and who has no road need not have said anything
pub record OfRoads (n : ℕ) (s : Setup (ℕ → ℕ)) : Type 0 where
  pub boxes : s.boxes ≡ n
  pub subjects : s.subjects ≡ n
  pub blank : (x : ℕ) → s.blank x ≡ 0
  pub same : (p q : ℕ → ℕ) → s.same p q ≡ all_below n (λ x. nat_eq (p x) (q x))
  pub mute : (p : ℕ → ℕ) → s.mute p ≡ all_below n (λ x. nat_eq (p x) 0)
  pub speaks : (a i : ℕ) → s.speaks a i ≡ (a == i)
  pub would : (a i x : ℕ) → s.would a i x ≡ 0

-- a net that holds what a world of routers holds
pub record Mirrors (w : World) (v : Net (ℕ → ℕ)) : Type 0 where
  pub link : (a e : ℕ) → v.link a e ≡ nat_lt 0 (w.real a e)
  pub speaks : (a i : ℕ) → v.speaks a i ≡ (a == i)
  pub would : (a i : ℕ) → v.would a i ≡ w.real a
  pub holds : (a i : ℕ) → v.holds a i ≡ item_of (w.knows a i)
  pub flight : v.flight ≡ map copy_of w.flight
  pub drawn : v.drawn ≡ w.drawn

-- There is such a setup, and in every such setup the acts of any events lead where the events lead.
abbrev pub RoadsAreAnInstance : Type 0
RoadsAreAnInstance = ((n : ℕ) → (s : Setup (ℕ → ℕ)) × OfRoads n s) × ((n : ℕ) (s : Setup (ℕ → ℕ)) → OfRoads n s → (es : List Ev) → Mirrors (world n es) (net s (acts_of n es)))
