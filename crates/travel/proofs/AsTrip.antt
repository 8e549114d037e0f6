-- A packet's step is one of its trip in the model.
use Rattle.std.proofs.Common.{◌≡◌, ℕ, suc, ◌+◌, ◌-◌, ◌^◌, ◌<◌, Bool, false, cond, ◌&&◌, eqb, ltb, List, Some, None, Option, is_some, min, sym, refl, ap, ◌∙◌, subst, arith, ltb-true, eqb-true, eq-eqb, ne_eqb}
use Rattle.std.proofs.lemmas.Bool.Decides.{nat_tests}
use Rattle.ground.specs.Wires.{lost_at, plug_at}
use Rattle.ground.specs.declared.state.Ground.{Ground}
use Rattle.linkmodel.proofs.Bools.{and_right}
use Rattle.linkmodel.specs.Station.{Station as Whole}
use Rattle.model.proofs.Tests.{of_cond}
use Rattle.model.specs.Words.{at2}
use Rattle.netbytes.proofs.Stepping.{sends_framed}
use Rattle.netbytes.specs.Places.{errors_at, whole_at}
use Rattle.netbytes.specs.Trips.{Field, LostAt, Trip, across, goes_on, trip}
use Rattle.netmodel.specs.Net.{Plug}
use Rattle.node.specs.declared.state.Node.{Node}
use Rattle.outbox.specs.declared.reading.Port.TheVariants.{House, Wire, Book}
use Rattle.outbox.specs.declared.reading.Port.{Port}
use Rattle.packets.specs.declared.error_quota.Quota.{Quota}
use Rattle.travel.proofs.AsPassed.{at_place, passes_so}
use Rattle.travel.specs.Passes.{Goes, LosesNothing, Passes, Travelling, field_of, passed_at}
use Rattle.travel.specs.Steps.{CostFits, Did, Used, come_to, crossed, end_of, gone, paid}
use Rattle.travel.specs.declared.values.Step.TheVariants.{Onward, Lost}
use Rattle.travel.specs.declared.values.Step.{Step}
use Rattle.travel.specs.declared.values.Traveller.{Traveller}

-- where nothing is to be lost, nothing is after one thing went out
pub loses_none : (port : Option Port) (a : ℕ) (g h : Ground) → Used port a g h → LosesNothing g → LosesNothing h
loses_none None a g h u l = λ b w. ap (λ (x : Ground). lost_at x b w) u ∙ l b w
loses_none (Some House) a g h u l = λ b w. ap (λ (x : Ground). lost_at x b w) u ∙ l b w
loses_none (Some Book) a g h u l = λ b w. ap (λ (x : Ground). lost_at x b w) u ∙ l b w
loses_none (Some (Wire v)) a g h u l = λ b w.
    u.losing b w
    ∙ of_cond (λ (k : ℕ → ℕ → ℕ). k b w ≡ 0) (is_some (plug_at g a v)) (at2 a v (lost_at g a v - 1) (lost_at g)) (lost_at g)
    (λ _. of_cond (λ (k : ℕ). k ≡ 0) (eqb b a && eqb w v) (lost_at g a v - 1) (lost_at g b w) (λ _. omega (arith, l a v)) (λ _. l b w)) (λ _. l b w)

-- where nothing is to be lost the packet stays away only for want of a cost
no_cost : (k c : ℕ) → k ≡ 0 → (eqb k 0 && ltb 0 c) ≡ false → c ≡ 0
no_cost k c z b = grind (arith, nat_tests)

module _ (t : Traveller) (f left : List ℕ) (bs cs : List Node) (g h : Ground) (still : LosesNothing h) (lossless : LosesNothing g) (cost : t.cost + 65535 < 2 ^ 32) (steps : t.steps + 1 < 2 ^ 8) (frame : left ≡ (passed_at bs t.at f).frame) where
  abbrev x : Field
  x = field_of bs g

  abbrev to : ℕ → ℕ → List ℕ → ℕ → ℕ → Trip
  to m v f c k = trip m x v f c k

  -- one step of the trip, by where its box sends it
  first_step : (m : ℕ) (port : Option Port) → port ≡ (passed_at bs t.at f).goes → trip (suc m) x t.at f t.cost t.steps ≡ goes_on (to m) x t.at left t.cost t.steps port
  unfolding trip
  first_step m port e = λ i. goes_on (to m) x t.at (sym frame i) t.cost t.steps (sym e i)

  -- out on a wire, at its cost
  over_wire : (w m : ℕ) → (whole_at bs t.at).links.cost w < 2 ^ 16 → Some (Wire w) ≡ (passed_at bs t.at f).goes → (o : Option Plug) → plug_at g t.at w ≡ o →
      trip (suc m) x t.at f t.cost t.steps ≡ across (to m) x t.at left (paid ((whole_at bs t.at).links.cost w) t).cost t.steps o
  over_wire w m small port o e =
      let cost' : t.cost + (whole_at bs t.at).links.cost w ≡ (paid ((whole_at bs t.at).links.cost w) t).cost = omega arith in
      first_step m (Some (Wire w)) port ∙ (λ i. across (to m) x t.at left (cost' i) t.steps (e i))

  -- where the wire has a cost at its other end, or none
  gets_there : (p : Plug) (m c : ℕ) → 0 < (whole_at bs p.at).links.cost p.on → across (to m) x t.at left c t.steps (Some p) ≡ to m p.at left c (suc t.steps)
  gets_there p m c d =
      ap (λ (b : Bool). cond b (record { cost = c; steps = t.steps; frame = left; ending = LostAt t.at }) (to m p.at left c (suc t.steps))) (ne_eqb ((whole_at bs p.at).links.cost p.on) 0 (λ z. omega arith))

  gets_lost : (p : Plug) (m c : ℕ) → (whole_at bs p.at).links.cost p.on ≡ 0 → across (to m) x t.at left c t.steps (Some p) ≡ record { cost = c; steps = t.steps; frame = left; ending = LostAt t.at }
  gets_lost p m c d =
      ap (λ (b : Bool). cond b (record { cost = c; steps = t.steps; frame = left; ending = LostAt t.at }) (to m p.at left c (suc t.steps))) (eq-eqb ((whole_at bs p.at).links.cost p.on) 0 d)

  goes_over : (w : ℕ) → (whole_at bs t.at).links.cost w < 2 ^ 16 → Some (Wire w) ≡ (passed_at bs t.at f).goes → (o : Option Plug) → plug_at g t.at w ≡ o → ((a : ℕ) → errors_at cs a ≡ errors_at bs a) →
      Goes t f bs g (crossed w (whole_at bs) o (lost_at g t.at w) (paid ((whole_at bs t.at).links.cost w) t)).0 left cs h (crossed w (whole_at bs) o (lost_at g t.at w) (paid ((whole_at bs t.at).links.cost w) t)).1
  goes_over w small port None e same = record { trip = λ m. over_wire w m small port None e; at = refl; steps = refl }
  goes_over w small port (Some p) e same =
      let c : ℕ = (whole_at bs p.at).links.cost p.on in
      let paying : Traveller = paid ((whole_at bs t.at).links.cost w) t in
      of_cond (λ (z : Traveller × Step). Goes t f bs g z.0 left cs h z.1) (eqb (lost_at g t.at w) 0 && ltb 0 c) (come_to p paying, Onward w (end_of p)) (paying, Lost w p.at)
      (λ b.
      let more : suc t.steps ≡ min (t.steps + 1) (2 ^ 8 - 1) = omega arith in
      record {
        trip = λ m. over_wire w m small port (Some p) e ∙ (gets_there p m paying.cost (ltb-true 0 c (and_right (eqb (lost_at g t.at w) 0) (ltb 0 c) b)) ∙ ap (to m p.at left paying.cost) more);
        steps = sym more;
        cost = omega arith;
        errors = same;
        losing = still;
      })
      (λ b. record { trip = λ m. over_wire w m small port (Some p) e ∙ gets_lost p m paying.cost (no_cost (lost_at g t.at w) c (lossless t.at w) b); at = refl; steps = refl })

  -- each way
  pub goes_so : (port : Option Port) → port ≡ (passed_at bs t.at f).goes → ((w : ℕ) → port ≡ Some (Wire w) → (whole_at bs t.at).links.cost w < 2 ^ 16) → ((w : ℕ) → port ≡ Some (Wire w) → (a : ℕ) → errors_at cs a ≡ errors_at bs a) →
      Goes t f bs g (gone port (whole_at bs) g t).0 left cs h (gone port (whole_at bs) g t).1
  goes_so None e small same = record { trip = λ m. first_step m None e; at = refl; steps = refl }
  goes_so (Some House) e small same = record { trip = λ m. first_step m (Some House) e; at = refl; steps = refl }
  goes_so (Some Book) e small same = record { trip = λ m. first_step m (Some Book) e; at = refl; steps = refl }
  goes_so (Some (Wire w)) e small same = goes_over w (small w refl) e (plug_at g t.at w) refl (same w refl)

-- so a step is one of the trip's
pub trip_step : (t r : Traveller) (f left : List ℕ) (bs cs : List Node) (g h : Ground) (given : List ℕ) (s : Step) (port : Option Port) → Passes t f bs g r left cs h given s → Used port t.at g h → port ≡ (passed_at bs t.at f).goes → CostFits port (whole_at bs t.at) →
    LosesNothing g → t.cost + 65535 < 2 ^ 32 → t.steps + 1 < 2 ^ 8 → Goes t f bs g r left cs h s
trip_step t r f left bs cs g h given s port k used e fits lossless cost steps =
    subst (λ (z : Traveller × Step). Goes t f bs g z.0 left cs h z.1) (sym k.gone)
    (subst (λ (o : Option Port). Goes t f bs g (gone o (whole_at bs) g t).0 left cs h (gone o (whole_at bs) g t).1) e
    (goes_so t f left bs cs g h (loses_none port t.at g h used lossless) lossless cost steps k.frame port e (fits_so port fits) (errors_so port e)))
  where
    fits_so : (o : Option Port) → CostFits o (whole_at bs t.at) → (w : ℕ) → o ≡ Some (Wire w) → (whole_at bs t.at).links.cost w < 2 ^ 16
    fits_so o c w p = subst (λ (o : Option Port). CostFits o (whole_at bs t.at)) p c

    errors_so : (o : Option Port) → o ≡ (passed_at bs t.at f).goes → (w : ℕ) → o ≡ Some (Wire w) → (a : ℕ) → errors_at cs a ≡ errors_at bs a
    errors_so o q w p a = k.errors a ∙ of_cond (λ (z : Quota). z ≡ errors_at bs a) (eqb a t.at) (passed_at bs t.at f).errors (errors_at bs a)
        (λ b. (sends_framed (whole_at bs t.at) (errors_at bs t.at) f w (sym q ∙ p)).errors ∙ ap (errors_at bs) (sym (eqb-true a t.at b))) (λ _. refl)

-- as its box and the wires had it
pub did_goes : (t r : Traveller) (f left : List ℕ) (bs cs : List Node) (g h : Ground) (given : List ℕ) (s : Step) (d : Did t f bs g r left cs h given s) → CostFits d.port (whole_at cs t.at) → Travelling bs t f →
    LosesNothing g → t.cost + 65535 < 2 ^ 32 → t.steps + 1 < 2 ^ 8 → Goes t f bs g r left cs h s
did_goes t r f left bs cs g h given s d fits k lossless cost steps =
    let p : Passes t f bs g r left cs h given s = passes_so t r f left bs cs g h given s k d in
    trip_step t r f left bs cs g h given s d.port p d.used (at_place t f bs cs given left d.port k d.got).port (subst (λ (x : Whole). CostFits d.port x) (p.boxes t.at) fits) lossless cost steps
