-- A box is switched on, gets other settings and falls: what is left, and what is given out. Assumes nothing.
use Rattle.std.specs.Prelude.{◌≡◌, ℕ, List, [], ◌∷◌, Ok, Err, Result}
use Rattle.octets.specs.declared.Fault.{Fault}
use Rattle.messages.specs.Values.{at}
use Rattle.messages.specs.declared.values.Settings.{Settings}
use Rattle.model.specs.Words.{Ev, Falls}
use Rattle.linkmodel.specs.Links.{fell, relinks, rewired}
use Rattle.linkmodel.specs.Station.{Station as Whole, falls, has_costs, station}
use Rattle.octets.specs.Faults.{fault_number}
use Rattle.packets.specs.Quotas.{unspent}
use Rattle.station.specs.Events.{Did}
use Rattle.station.specs.State.{begin_refusal, falls_refusal, refusal_number, rewire_refusal, station_of}
use Rattle.station.specs.declared.state.Station.{Station}
use Rattle.node.specs.declared.refusals.Refusal.{Refusal}
use Rattle.node.specs.declared.state.Node.{Node}
use Rattle.node.specs.Book.{Began, Refused}
use Rattle.node.specs.Giving.{if_refused, note_of, refused_gives}
use Rattle.node.specs.Refusals.{number_of}
use Rattle.node.specs.State.{whole_of}

-- a line that the box began or fell
abbrev pub began_gives : Whole → List ℕ
began_gives s = note_of s (Began s.links.n s.links.me)

-- switched on with these settings and this drawn number, or the number of what is wrong
abbrev pub set_up : Settings → Whole → Result Whole ℕ
set_up x s = if_refused (rewire_refusal x s) (λ r. Err (refusal_number r)) (Ok (has_costs (at x.costs) s))

abbrev pub begun_by : Result Settings Fault → ℕ → Result Whole ℕ
begun_by (Err e) d = Err (fault_number e)
begun_by (Ok x) d = if_refused (begin_refusal x.boxes x.me d) (λ r. Err (refusal_number r)) (set_up x (station x.boxes x.me d))

-- just that box, no error made yet, and the line; or just that number, and nothing given out
abbrev pub BegunBy : Result Whole ℕ → Result Node Refusal → List ℕ → Type 0
BegunBy (Ok s) (Ok node) new = (whole_of node ≡ s) × (node.quota ≡ unspent) × (new ≡ began_gives s)
BegunBy (Err k) (Err r) new = (number_of r ≡ k) × (new ≡ [])
BegunBy (Ok s) (Err r) new = ⊥
BegunBy (Err k) (Ok node) new = ⊥

-- settings
abbrev pub settings_leave : Result Settings Fault → Whole → Whole
settings_leave (Err e) s = s
settings_leave (Ok x) s = if_refused (rewire_refusal x s) (λ r. s) (has_costs (at x.costs) s)

abbrev pub settings_give : Result Settings Fault → Whole → List ℕ
settings_give (Err e) s = note_of s (Refused (fault_number e))
settings_give (Ok x) s = if_refused (rewire_refusal x s) (refused_gives s) []

-- a fall
abbrev pub fall_leaves : ℕ → Whole → Whole
fall_leaves d s = if_refused (falls_refusal d) (λ r. s) (falls d s)

abbrev pub fall_gives : ℕ → Whole → List ℕ
fall_gives d s = if_refused (falls_refusal d) (refused_gives s) (began_gives (falls d s))

-- the events of the model that each is: roads that open, close and change; all of them close at a fall
abbrev pub settings_did : Result Settings Fault → Whole → List Ev
settings_did (Err e) s = []
settings_did (Ok x) s = if_refused (rewire_refusal x s) (λ r. []) (relinks s.links (rewired (at x.costs) s.links) s.box.n)

abbrev pub fall_did : ℕ → Whole → List Ev
fall_did d s = if_refused (falls_refusal d) (λ r. []) (Falls s.box.me ∷ relinks s.links (fell d s.links) s.box.n)

-- the state after settings, from s; or a refusal, which leaves it as it was with a line
abbrev pub RewiredBy : Result Settings Fault → Whole → Result Station Refusal → Type 0
RewiredBy x s (Ok station) = (station_of station ≡ settings_leave x s) × (settings_give x s ≡ []) × Did s (settings_did x s) (station_of station)
RewiredBy x s (Err r) = (settings_leave x s ≡ s) × (settings_give x s ≡ note_of s (Refused (number_of r))) × (settings_did x s ≡ [])
