-- The wires of one box: hellos, drawn numbers, and which road is open over which wire. Assumes nothing.
use Rattle.std.specs.Prelude.{ℕ, zero, suc, ◌+◌, ◌%◌, Bool, false, cond, not, ◌&&◌, ◌||◌, List, [], ◌∷◌, ◌++◌, Some, None, Option, ◌==◌, nat_lt}
use Rattle.model.specs.Flood.{row}
use Rattle.model.specs.Words.{Ev, Road}

-- what a box knows of a wire: nothing; or whom it heard there last, under which drawn number and at which tick; and the same if the road is open over it
pub data Wire : Type 0 where
  Silent : Wire
  Heard : (from drawn when : ℕ) → Wire
  Open : (from drawn when : ℕ) → Wire

-- a hello: who sends it, the number that it drew, and the drawn number that it heard on this wire, 0 if none
pub record Hello : Type 0 where
  pub from : ℕ
  pub drawn : ℕ
  pub heard : ℕ

-- n boxes, of which this is number me; the number that it drew when it was switched on or last fell; how often it ticked; what each wire costs, 0 if there is none; what it knows of each wire;
-- last e: the drawn number of the last hello that it took from e, on any wire, 0 if there was none
pub record Links : Type 0 where
  pub n : ℕ
  pub me : ℕ
  pub drawn : ℕ
  pub tick : ℕ
  pub cost : ℕ → ℕ
  pub wire : ℕ → Wire
  pub last : ℕ → ℕ

-- a box has 8 wires, a hello goes out every 10 ticks, and what was heard holds for 40
abbrev pub wires : ℕ
wires = 8

abbrev pub hello_every : ℕ
hello_every = 10

abbrev pub holds_for : ℕ
holds_for = 40

-- the road to e is open over this wire
abbrev pub opens_to : ℕ → Wire → Bool
opens_to e Silent = false
opens_to e (Heard f d t) = false
opens_to e (Open f d t) = f == e

-- the drawn number that was heard on it, 0 if none
abbrev pub heard_on : Wire → ℕ
heard_on Silent = 0
heard_on (Heard f d t) = d
heard_on (Open f d t) = d

-- whom it heard
abbrev pub who_on : Wire → Option ℕ
who_on Silent = None
who_on (Heard f d t) = Some f
who_on (Open f d t) = Some f

-- what the lowest of the k wires from w on costs over which the road to e is open, 0 if there is none
unfoldable pub lowest_to : ℕ → Links → ℕ → ℕ → ℕ
lowest_to e s w zero = 0
lowest_to e s w (suc k) = cond (opens_to e (s.wire w)) (s.cost w) (lowest_to e s (w + 1) k)

-- what the road to e costs, 0 if it isn't open
abbrev pub road_cost : ℕ → Links → ℕ
road_cost e s = lowest_to e s 0 wires

-- what is too old is forgotten
abbrev pub aged : ℕ → Wire → Wire
aged now Silent = Silent
aged now (Heard f d t) = cond (nat_lt (t + holds_for) now) Silent (Heard f d t)
aged now (Open f d t) = cond (nat_lt (t + holds_for) now) Silent (Open f d t)

-- switched on with a drawn number: no wires yet
abbrev pub fresh : ℕ → ℕ → ℕ → Links
fresh n me d = record { n = n; me = me; drawn = d; tick = 0; cost = λ w. 0; wire = λ w. Silent; last = λ e. 0 }

-- one tick passes
abbrev pub passes : Links → Links
passes s = record { n = s.n; me = s.me; drawn = s.drawn; tick = suc s.tick; cost = s.cost; wire = λ w. aged (suc s.tick) (s.wire w); last = s.last }

-- the hello that it sends on a wire
abbrev pub hello_for : ℕ → Links → Hello
hello_for w s = record { from = s.me; drawn = s.drawn; heard = heard_on (s.wire w) }

-- whether a hello goes out on that wire at this tick
abbrev pub sends_hello : ℕ → Links → Bool
sends_hello w s = nat_lt 0 (s.cost w) && s.tick % hello_every == 0

-- the road to e is open over it no more, though it was heard
abbrev pub closed_to : ℕ → Wire → Wire
closed_to e Silent = Silent
closed_to e (Heard f d t) = Heard f d t
closed_to e (Open f d t) = cond (f == e) (Heard f d t) (Open f d t)

-- another box's road is open over it
abbrev pub taken : ℕ → Wire → Bool
taken e Silent = false
taken e (Heard f d t) = false
taken e (Open f d t) = not (f == e)

-- the number by which a hello on wire w is refused, 0 if it isn't: 2 a box of n or more, the box itself or a drawn number 0; 4 another box on a wire with a road
abbrev pub hello_refusal : ℕ → Hello → Links → ℕ
hello_refusal w h s = cond (not (nat_lt h.from s.n) || (h.from == s.me || h.drawn == 0)) 2 (cond (taken h.from (s.wire w)) 4 0)

-- a hello that isn't refused: its wire is open if it names this box's drawn number; if it brings another drawn number of its box, the road closes on all other wires
abbrev pub greeted : ℕ → Hello → Links → Links
greeted w h s = record {
  n = s.n;
  me = s.me;
  drawn = s.drawn;
  tick = s.tick;
  cost = s.cost;
  wire = row w (cond (h.heard == s.drawn) (Open h.from h.drawn s.tick) (Heard h.from h.drawn s.tick))
      (λ v. cond (s.last h.from == h.drawn) (s.wire v) (closed_to h.from (s.wire v)));
  last = row h.from h.drawn s.last;
}

-- a hello comes on wire w: on a wire that isn't there it is dropped, and a refused one changes nothing
abbrev pub hears_hello : ℕ → Hello → Links → Links
hears_hello w h s = cond (nat_lt w wires && (nat_lt 0 (s.cost w) && hello_refusal w h s == 0)) (greeted w h s) s

-- new costs of the wires; one that isn't there any more is forgotten
abbrev pub rewired : (ℕ → ℕ) → Links → Links
rewired c s = record { n = s.n; me = s.me; drawn = s.drawn; tick = s.tick; cost = c; wire = λ w. cond (c w == 0) Silent (s.wire w); last = s.last }

-- a fall: nothing was heard, and a new number is drawn; wires and ticks stay
abbrev pub fell : ℕ → Links → Links
fell d s = record { n = s.n; me = s.me; drawn = d; tick = s.tick; cost = s.cost; wire = λ w. Silent; last = λ e. 0 }

-- e was heard under another number, so that a road that was open closes first, even if it opens at once
abbrev pub is_anew : Links → Links → ℕ → Bool
is_anew before after e = not (before.last e == after.last e)

-- what happened to the road to e
abbrev pub road_events : Links → Links → ℕ → List Ev
road_events before after e =
    cond (is_anew before after e && (nat_lt 0 (road_cost e before) && nat_lt 0 (road_cost e after))) (Road after.me e (road_cost e after) ∷ Road after.me e 0 ∷ [])
    (cond (road_cost e before == road_cost e after) [] (Road after.me e (road_cost e after) ∷ []))

-- and to the roads to all boxes below k, in rising order (the latest event first)
unfoldable pub relinks : Links → Links → ℕ → List Ev
relinks before after zero = []
relinks before after (suc k) = road_events before after k ++ relinks before after k
