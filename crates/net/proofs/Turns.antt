-- Boxes of a net that tick, fall and get other costs: the run goes on.
use Rattle.std.proofs.Common.{◌≡◌, ℕ, ◌+◌, ◌^◌, ◌<◌, true, List, [], ◌∷◌, length, None, get_or, set, refl, ap, ◌∙◌, subst, arith}
use Rattle.model.specs.Flood.{row}
use Rattle.linkmodel.specs.Station.{Station as Whole, has_costs}
use Rattle.netmodel.specs.Net.{Falls, Move, Rewires, Ticks, small_costs}
use Rattle.netbytes.proofs.Played.{plays_costs, plays_fall, plays_tick}
use Rattle.node.specs.Giving.{tick_all_gives, tick_leaves}
use Rattle.node.specs.Turns.{fall_gives, fall_leaves}
use Rattle.node.specs.Handled.{TurnedBy}
use Rattle.node.specs.State.{whole_of}
use Rattle.node.specs.declared.state.Node.{Node}
use Rattle.station.specs.Ticking.{ticking_refusal}
use Rattle.ground.specs.Wires.{Drew, drawn_of, laid_of, plug_at}
use Rattle.ground.specs.declared.state.Ground.{Ground}
use Rattle.net.specs.Plays.{GoesOn, Plays, Turned, costing, whole_at}
use Rattle.net.proofs.Wholes.{becomes_at, next_is, over, same_wires, sent_over, was_whole}

-- a box that was turned where it stands, with a number that was drawn
pub turned_so : (leaves : ℕ → Whole → Whole) (gives : ℕ → Whole → List ℕ) (a place t u : ℕ) (ss : List Node) (d after : Node) (given : List ℕ) → place ≡ a → a < length ss → t ≡ u →
    TurnedBy (leaves t (whole_of (get_or ss place d))) (gives t (whole_of (get_or ss place d))) (get_or ss place d) after given → Turned (leaves u) (gives u) a ss (set ss place after) given
turned_so leaves gives a place t u ss d after given e l q k = record {
  before = get_or ss place d;
  after = after;
  becomes = becomes_at a place ss d after e l;
  turned = subst (λ (z : ℕ). TurnedBy (leaves z (whole_of (get_or ss place d))) (gives z (whole_of (get_or ss place d))) (get_or ss place d) after given) q k;
}

-- a tick
pub tick_so : (a : ℕ) (old new : List Node) (g h : Ground) (given : List ℕ) → Turned (tick_leaves (drawn_of h)) (tick_all_gives (drawn_of h)) a old new given → Drew g h →
    (first : ℕ → ℕ) (ms : List Move) → a < length old → Plays first ms old g → ticking_refusal (whole_at old a) ≡ None → drawn_of g + 1 < 2 ^ 64 → GoesOn first (Ticks a (drawn_of h)) ms a new h given
tick_so a old new g h given t w first ms l p free few =
    let same = was_whole a old new t.before t.after l t.becomes in
    let next : drawn_of h ≡ drawn_of g + 1 = w.drawn ∙ next_is (drawn_of g) few in
    let o = plays_tick (length old) first ms (whole_at old) (plug_at g) (laid_of g) (drawn_of g) a (drawn_of h) (whole_of t.before) (whole_of t.after) given p l same (omega (arith, next)) (omega (arith, next)) (ap ticking_refusal same ∙ free) t.turned.is t.turned.gives in
    (over first (Ticks a (drawn_of h) ∷ ms) a old new g h t.before t.after (drawn_of h) l t.becomes w.stays refl o.0, sent_over first (Ticks a (drawn_of h)) ms a a old new t.before t.after given t.becomes o.1)

-- a fall
pub fall_so : (a : ℕ) (old new : List Node) (g h : Ground) (given : List ℕ) → Turned (fall_leaves (drawn_of h)) (fall_gives (drawn_of h)) a old new given → Drew g h →
    (first : ℕ → ℕ) (ms : List Move) → a < length old → Plays first ms old g → drawn_of g + 1 < 2 ^ 64 → GoesOn first (Falls a (drawn_of h)) ms a new h given
fall_so a old new g h given t w first ms l p few =
    let same = was_whole a old new t.before t.after l t.becomes in
    let next : drawn_of h ≡ drawn_of g + 1 = w.drawn ∙ next_is (drawn_of g) few in
    let o = plays_fall (length old) first ms (whole_at old) (plug_at g) (laid_of g) (drawn_of g) a (drawn_of h) (whole_of t.before) (whole_of t.after) given p l same (omega (arith, next)) (omega (arith, next)) t.turned.is t.turned.gives in
    (over first (Falls a (drawn_of h) ∷ ms) a old new g h t.before t.after (drawn_of h) l t.becomes w.stays refl o.0, sent_over first (Falls a (drawn_of h)) ms a a old new t.before t.after given t.becomes o.1)

-- another cost
pub costs_so : (w c a : ℕ) (old new : List Node) (given : List ℕ) → Turned (costing w c) (λ s. []) a old new given → small_costs (row w c (whole_at old a).links.cost) 8 ≡ true →
    (first : ℕ → ℕ) (ms : List Move) (g : Ground) → a < length old → Plays first ms old g → GoesOn first (Rewires a (row w c (whole_at old a).links.cost)) ms a new g given
costs_so w c a old new given t small first ms g l p =
    let f : ℕ → ℕ = row w c (whole_at old a).links.cost in
    let same = was_whole a old new t.before t.after l t.becomes in
    let o = plays_costs (length old) first ms (whole_at old) (plug_at g) (laid_of g) (drawn_of g) a f (whole_of t.before) (whole_of t.after) given p l same small (t.turned.is ∙ ap (λ (s : Whole). has_costs (row w c s.links.cost) (whole_of t.before)) same) t.turned.gives in
    (over first (Rewires a f ∷ ms) a old new g g t.before t.after (drawn_of g) l t.becomes (same_wires g) refl o.0, sent_over first (Rewires a f) ms a a old new t.before t.after given t.becomes o.1)
