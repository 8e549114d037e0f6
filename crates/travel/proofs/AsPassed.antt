-- A packet's step: its box does what it does with a packet, and boxes and wires are as they were.
use Rattle.std.proofs.Common.{◌≡◌, ℕ, ◌<◌, ◌&&◌, eqb, ltb, inl, inr, eqb-true, ltb-true, List, ◌∷◌, [], Some, None, Ok, Option, Result, length, set, sym, refl, ap, ◌∙◌, subst, arith, length-set}
use Rattle.std.proofs.lemmas.Bool.{cases_lt}
use Rattle.std.proofs.lemmas.Option.{get_or_from_slice_get}
use borrow.Author.Tests.{eqb-false}
use Rattle.checksum.specs.Refused.{body_of}
use Rattle.frames.specs.Reading.{Told, a_packet, frame_in}
use Rattle.ground.specs.Wires.{Counts, drawn_of, laid_of, lost_at, plug_at}
use Rattle.ground.specs.declared.state.Ground.{Ground}
use Rattle.linkmodel.proofs.Bools.{and_right}
use Rattle.linkmodel.specs.Station.{Station as Whole}
use Rattle.model.proofs.Tests.{of_cond}
use Rattle.model.specs.Flood.{row}
use Rattle.netbytes.proofs.InPlace.{errors_other, errors_own, errors_read, whole_past, whole_put, whole_read}
use Rattle.netbytes.proofs.Stepping.{InFrame, framed_read, sends_framed}
use Rattle.netbytes.specs.Places.{errors_at, whole_at}
use Rattle.netmodel.specs.Net.{Plug}
use Rattle.node.specs.Handled.{HandledBy}
use Rattle.node.specs.Hearing.{by_frame, passed_as}
use Rattle.node.specs.Passing.{Passed, framed, passed}
use Rattle.node.specs.State.{whole_of}
use Rattle.node.specs.declared.state.Node.{Node}
use Rattle.octets.specs.declared.Fault.{Fault}
use Rattle.outbox.specs.declared.reading.Port.TheVariants.{House, Wire, Book}
use Rattle.outbox.specs.declared.reading.Port.{Port}
use Rattle.packets.specs.declared.error_quota.Quota.{Quota}
use Rattle.station.specs.State.{station_of}
use Rattle.station.specs.declared.state.Station.{Station}
use Rattle.travel.specs.Passes.{Came, IfOnward, Passes, Travelling, passed_at}
use Rattle.travel.specs.Steps.{Did, Got, GotAt, Used, come_to, crossed, end_of, gone, paid}
use Rattle.travel.specs.declared.values.Step.TheVariants.{Onward, Lost}
use Rattle.travel.specs.declared.values.Step.{Step}
use Rattle.travel.specs.declared.values.Traveller.{Traveller}

-- a box did with a packet what it does
pub record AsPassed (before after : Node) (p : Passed) (given left : List ℕ) (goes : Option Port) : Type 0 where
  pub whole : whole_of after ≡ whole_of before
  pub quota : after.quota ≡ p.errors
  pub gives : given ≡ p.gives
  pub frame : left ≡ p.frame
  pub port : goes ≡ p.goes

-- so it is when it came so
pub as_passed : (came : Option ℕ) (f : List ℕ) (before after : Node) (given left : List ℕ) (goes : Option Port) → Came came (whole_of before) f → Got came f before after given left goes → AsPassed before after (passed (whole_of before) before.quota f) given left goes
as_passed None f before after given left goes c g = record { whole = ap (λ (x : Station). station_of x) g.stays; quota = g.errors; gives = g.gives; frame = g.left; port = g.port }
as_passed (Some w) f before after given left goes c g =
    let s : Whole = whole_of before in
    let p : List ℕ = c.1.0 in
    let read : frame_in s.links.n (body_of f) ≡ Ok (a_packet p) = ap (λ (x : List ℕ). frame_in s.links.n (body_of x)) c.1.1 ∙ framed_read s.links.n p in
    let h : HandledBy (passed_as (passed s before.quota f) s) after given left goes =
    subst (λ (x : Result Told Fault). HandledBy (by_frame w x (0 ∷ 0 ∷ 0 ∷ 0 ∷ []) s before.quota f) after given left goes) read (g.read c.0 (4 ∷ p, c.1.1)) in
    record { whole = h.whole; quota = h.errors; gives = h.gives; frame = h.left; port = h.port }

module _ (t : Traveller) (f : List ℕ) (bs cs : List Node) (given left : List ℕ) (goes : Option Port) (k : Travelling bs t f) (got : GotAt t.at t.came f bs cs given left goes) where
  whole_is : whole_at bs t.at ≡ whole_of got.before
  whole_is = whole_read bs t.at got.before k.there ∙ ap whole_of (get_or_from_slice_get bs t.at got.before got.before got.was)

  errors_is : errors_at bs t.at ≡ got.before.quota
  errors_is = errors_read bs t.at got.before k.there ∙ ap (λ (b : Node). b.quota) (get_or_from_slice_get bs t.at got.before got.before got.was)

  -- the box at its place did with the packet what it does
  pub at_place : AsPassed got.before got.after (passed_at bs t.at f) given left goes
  at_place =
      subst (λ (p : Passed). AsPassed got.before got.after p given left goes) (λ i. passed (sym whole_is i) (sym errors_is i) f)
      (as_passed t.came f got.before got.after given left goes (subst (λ (s : Whole). Came t.came s f) whole_is k.came) got.got)

  -- no whole box has changed,
  pub boxes_stay : (a : ℕ) → whole_at cs a ≡ whole_at bs a
  boxes_stay a = ap (λ (x : List Node). whole_at x a) got.now ∙ whole_put bs t.at got.after a (at_place.whole ∙ sym whole_is)

  -- and no count of errors but that of this box
  pub errors_now : (a : ℕ) → errors_at cs a ≡ row t.at (passed_at bs t.at f).errors (errors_at bs) a
  errors_now a =
      of_cond (λ (q : Quota). errors_at cs a ≡ q) (eqb a t.at) (passed_at bs t.at f).errors (errors_at bs a)
      (λ e. ap (λ (x : List Node). errors_at x a) got.now ∙ (ap (errors_at (set bs t.at got.after)) (eqb-true a t.at e) ∙ (errors_own bs t.at got.after k.there ∙ at_place.quota)))
      (λ e. ap (λ (x : List Node). errors_at x a) got.now ∙ errors_other bs t.at got.after a (eqb-false a t.at e))

  -- there are as many boxes
  pub as_many : length cs ≡ length bs
  as_many = ap length got.now ∙ length-set bs t.at got.after

-- wires stay as they are joined, and as many are laid
pub wires_stay : (port : Option Port) (a : ℕ) (g h : Ground) → Used port a g h → ((b w : ℕ) → plug_at h b w ≡ plug_at g b w) × Counts (laid_of g) (drawn_of g) h
wires_stay None a g h u = (λ b w. ap (λ (x : Ground). plug_at x b w) u, record { laid = ap laid_of u; drawn = ap drawn_of u })
wires_stay (Some House) a g h u = (λ b w. ap (λ (x : Ground). plug_at x b w) u, record { laid = ap laid_of u; drawn = ap drawn_of u })
wires_stay (Some Book) a g h u = (λ b w. ap (λ (x : Ground). plug_at x b w) u, record { laid = ap laid_of u; drawn = ap drawn_of u })
wires_stay (Some (Wire v)) a g h u = (u.joined, u.counts)

-- what goes on over a wire is a packet in a frame of its own, at a box that is there, on a wire with a cost
crossed_again : (cs : List Node) (w : ℕ) (o : Option Plug) (k : ℕ) (t : Traveller) (left : List ℕ) → ((p : List ℕ) × (left ≡ framed p)) → IfOnward (crossed w (whole_at cs) o k t).1 (Travelling cs (crossed w (whole_at cs) o k t).0 left)
crossed_again cs w None k t left h = tt
crossed_again cs w (Some p) k t left h =
    of_cond (λ (z : Traveller × Step). IfOnward z.1 (Travelling cs z.0 left)) (eqb k 0 && ltb 0 ((whole_at cs p.at).links.cost p.on)) (come_to p t, Onward w (end_of p)) (t, Lost w p.at)
    (λ e.
    let dear : 0 < (whole_at cs p.at).links.cost p.on = ltb-true 0 ((whole_at cs p.at).links.cost p.on) (and_right (eqb k 0) (ltb 0 ((whole_at cs p.at).links.cost p.on)) e) in
    record { there = there dear; came = (dear, h) })
    (λ _. tt)
  where
    there : 0 < (whole_at cs p.at).links.cost p.on → p.at < length cs
    there d = elim (cases_lt p.at (length cs)) [ inl l ↦ l | inr l ↦ (let z : (whole_at cs p.at).links.cost p.on ≡ 0 = ap (λ (s : Whole). s.links.cost p.on) (whole_past cs p.at l) in absurd (omega arith)) ]

-- so it is wherever its box sent it
pub again : (cs : List Node) (port : Option Port) (g : Ground) (t : Traveller) (left : List ℕ) → ((w : ℕ) → port ≡ Some (Wire w) → (p : List ℕ) × (left ≡ framed p)) → IfOnward (gone port (whole_at cs) g t).1 (Travelling cs (gone port (whole_at cs) g t).0 left)
again cs None g t left h = tt
again cs (Some House) g t left h = tt
again cs (Some Book) g t left h = tt
again cs (Some (Wire w)) g t left h = crossed_again cs w (plug_at g t.at w) (lost_at g t.at w) (paid ((whole_at cs t.at).links.cost w) t) left (h w refl)

-- so it is with a step
pub passes_so : (t r : Traveller) (f left : List ℕ) (bs cs : List Node) (g h : Ground) (given : List ℕ) (s : Step) → Travelling bs t f → Did t f bs g r left cs h given s → Passes t f bs g r left cs h given s
passes_so t r f left bs cs g h given s k d =
    let p : Passed = passed_at bs t.at f in
    let place : AsPassed d.got.before d.got.after p given left d.port = at_place t f bs cs given left d.port k d.got in
    let stay = boxes_stay t f bs cs given left d.port k d.got in
    let wires = wires_stay d.port t.at g h d.used in
    record {
      long = as_many t f bs cs given left d.port k d.got;
      boxes = stay;
      errors = errors_now t f bs cs given left d.port k d.got;
      joined = wires.0;
      counts = wires.1;
      gives = place.gives;
      frame = place.frame;
      gone = d.gone ∙ (λ i. gone (place.port i) (λ a. stay a i) g t);
      again = subst (λ (z : Traveller × Step). IfOnward z.1 (Travelling cs z.0 left)) (sym d.gone)
          (again cs d.port g t left (λ w e. let x : InFrame (errors_at bs t.at) p = sends_framed (whole_at bs t.at) (errors_at bs t.at) f w (sym place.port ∙ e) in (x.packet, place.frame ∙ x.frame)));
    }
