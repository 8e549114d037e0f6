-- What the state and the answers of a box's wires stand for in the model. Assumes nothing.
use Rattle.std.specs.Prelude.{◌≡◌, ℕ, ◌+◌, ◌^◌, ◌<◌, true, false, cond, ◌&&◌, List, Some, None, Option, ◌==◌, nat_le, nat_lt, slice_index_or}
pub use Rattle.messages.specs.Refusals.{RefusedBy}
use Rattle.messages.specs.Values.{at}
use Rattle.messages.specs.declared.values.Hello.{Hello}
use Rattle.messages.specs.declared.values.Settings.{Settings}
use Rattle.linkmodel.specs.Links.{Links as Box, Wire as Line, Silent as Unheard, Heard as HeardFrom, Open as OpenTo, Hello as Greeting, wires, hello_refusal, hello_for, sends_hello, opens_to}
use Rattle.hello.specs.declared.answers.Refusal.{Refusal}
use Rattle.hello.specs.declared.answers.Refusal.TheVariants.{OutOfRange, OtherBox, Spent}
use Rattle.hello.specs.declared.state.Wire.{Wire}
use Rattle.hello.specs.declared.state.Wire.TheVariants.{Silent, Heard, Open}
use Rattle.hello.specs.declared.state.Links.{Links}

-- the number of each refusal
abbrev pub refusal_number : Refusal → ℕ
refusal_number OutOfRange = 2
refusal_number OtherBox = 4
refusal_number Spent = 2

-- a wire as the model has it
abbrev pub wire_of : Wire → Line
wire_of Silent = Unheard
wire_of (Heard c) = HeardFrom c.from c.drawn c.when
wire_of (Open c) = OpenTo c.from c.drawn c.when

-- the wires of a list, silent past its end
abbrev pub wire_at : List Wire → ℕ → Line
wire_at xs w = wire_of (slice_index_or xs w Silent)

-- the wires of the model that a state stands for
abbrev pub links_of : Links → Box
links_of s = record { n = s.n; me = s.me; drawn = s.drawn; tick = s.tick; cost = at s.costs; wire = wire_at s.wires; last = at s.last }

-- why n boxes, of which this is number me, or a drawn number are refused
abbrev pub new_refusal : ℕ → ℕ → ℕ → Option Refusal
new_refusal n me d = cond (nat_lt me n && (nat_le n 64 && nat_lt 0 d)) None (Some OutOfRange)

-- ticks are counted to 2^32 - 1
abbrev pub tick_refusal : Box → Option Refusal
tick_refusal s = cond (nat_lt (s.tick + 1) (2 ^ 32)) None (Some Spent)

-- a drawn number is never 0
abbrev pub fall_refusal : ℕ → Option Refusal
fall_refusal d = cond (d == 0) (Some OutOfRange) None

-- settings are for as many boxes and for this one
abbrev pub settings_refusal : Settings → Box → Option Refusal
settings_refusal x s = cond (x.boxes == s.n && x.me == s.me) None (Some OutOfRange)

-- a hello as the model has it
abbrev pub greeting_of : Hello → Greeting
greeting_of h = record { from = h.from; drawn = h.drawn; heard = h.heard }

-- one that goes out, if one does
abbrev pub sent_as : Option Hello → Option Greeting
sent_as None = None
sent_as (Some h) = Some (greeting_of h)

-- what goes out on a wire at this tick
abbrev pub hello_on : ℕ → Box → Option Greeting
hello_on w s = cond (sends_hello w s) (Some (hello_for w s)) None

-- the reason that a number of the model stands for, none for 0
abbrev pub reason_of : ℕ → Option Refusal
reason_of k = cond (k == 0) None (cond (k == 4) (Some OtherBox) (Some OutOfRange))

-- why a hello on wire w is refused: there is no such wire, or the model's reason if the wire has a cost; without a cost it is dropped and not refused
abbrev pub hears_refusal : ℕ → Greeting → Box → Option Refusal
hears_refusal w h s = cond (nat_lt w wires) (cond (nat_lt 0 (s.cost w)) (reason_of (hello_refusal w h s)) None) (Some OutOfRange)

-- the lowest wire over which the road to e is open, or none: those below it, or all, aren't
abbrev pub LowestTo : ℕ → Box → Option ℕ → Type 0
LowestTo e s None = (v : ℕ) → v < wires → opens_to e (s.wire v) ≡ false
LowestTo e s (Some w) = (w < wires) × (opens_to e (s.wire w) ≡ true) × ((v : ℕ) → v < w → opens_to e (s.wire v) ≡ false)

-- what a wire costs, if there is one
abbrev pub cost_over : Option ℕ → Box → ℕ
cost_over None s = 0
cost_over (Some w) s = s.cost w
