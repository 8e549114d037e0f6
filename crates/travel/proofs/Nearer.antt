-- At rest each step brings a packet nearer to where it goes, or refuses it where it began.
use Rattle.std.proofs.Common.{◌≡◌, ℕ, suc, ◌+◌, ◌*◌, ◌^◌, ◌<◌, ◌≤◌, List, sym, refl, ap, ◌∙◌, subst, arith, leb-true}
use Rattle.ground.specs.Wires.{drawn_of, laid_of}
use Rattle.ground.specs.declared.state.Ground.{Ground}
use Rattle.model.specs.Forward.{real_map}
use Rattle.model.specs.Map.{Never, At, far}
use Rattle.netbytes.proofs.Journey.{IsAt, ends_out, ends_refused, frame_first, gives_refused, goes_never, goes_short, one_more}
use Rattle.netbytes.proofs.Stepping.{trip_same}
use Rattle.netbytes.specs.Trips.{After, ComesOut, Ending, Field, ForHouse, LostAt, OutAt, RefusedAt, Trip, trip}
use Rattle.netmodel.specs.Net.{Move, net}
use Rattle.netmodel.specs.Standing.{world_in}
use Rattle.node.specs.Passing.{packet_in}
use Rattle.node.specs.declared.state.Node.{Node}
use Rattle.travel.specs.Arrives.{Delivers, Nears, NoWayFrom, OnTheWay, Still}
use Rattle.travel.specs.Passes.{Ends, Goes, GoesOn, IfOnward, LosesNothing, Passes, Travelling, field_of, passed_at}
use Rattle.travel.specs.declared.values.Step.TheVariants.{Onward, Out, Refused, Lost}
use Rattle.travel.specs.declared.values.Step.{Step}
use Rattle.travel.specs.declared.values.Traveller.{Traveller}

module _ (t r : Traveller) (now left : List ℕ) (bs cs : List Node) (g h : Ground) (given : List ℕ) (step : Step) (k : Passes t now bs g r left cs h given step) (n : ℕ) (first : ℕ → ℕ) (ms : List Move) (st : Still n first ms bs g) (u d : ℕ) (f : List ℕ) (lu : u < n) (ld : d < n) (fh : ForHouse n d f) (w : OnTheWay bs g u f t now) where
  abbrev x : Field
  x = field_of bs g

  -- the net stays as it is
  still_so : LosesNothing h → Still n first ms cs h
  still_so l = record {
    long = st.long ∙ sym k.long;
    plays = record {
      starts = st.plays.starts;
      now = record {
        boxes = λ a b. k.boxes a ∙ st.plays.now.boxes a b;
        joined = λ a v. k.joined a v ∙ st.plays.now.joined a v;
        laid = k.counts.laid ∙ st.plays.now.laid;
        tags = λ i e. subst (λ (z : ℕ). i ≤ z) (sym k.counts.drawn) (st.plays.now.tags i e);
        drawn = λ i e. subst (λ (z : ℕ). i ≤ z) (sym k.counts.drawn) (st.plays.now.drawn i e);
      };
    };
    counted = st.counted;
    rest = st.rest;
    carries = st.carries;
    losing = l;
  }

  -- a step further
  on_trip : GoesOn t now bs g r left cs h → IsAt x u f r.at left r.cost (suc t.steps)
  on_trip go = one_more x u t.at t.cost t.steps r.at r.cost f now left w.trip (λ m. go.trip m ∙ ap (λ (j : ℕ). trip m x r.at left r.cost j) go.steps)

  same_trip : GoesOn t now bs g r left cs h → (m v : ℕ) (q : List ℕ) (c j : ℕ) → trip m (field_of cs h) v q c j ≡ trip m x v q c j
  same_trip go m v q c j = trip_same (field_of cs h) x m v q c j k.boxes go.errors k.joined

  short_so : GoesOn t now bs g r left cs h → (c : ℕ) → far (real_map (world_in n (net n first ms))) d u ≡ At c → suc t.steps < n
  short_so go c at = goes_short n first ms x (laid_of g) (drawn_of g) st.plays st.counted st.rest st.carries u d f lu ld fh c r.at (suc t.steps) r.cost left at (on_trip go)

  -- the end of the trip, where it ends
  abbrev end_so : Ending → Trip
  end_so e = record { cost = r.cost; steps = t.steps; frame = left; ending = e }

  out_so : (e : Ending) → Ends e x t now r left → (c : ℕ) → far (real_map (world_in n (net n first ms))) d u ≡ At c → ComesOut n d c (packet_in f) (end_so e)
  out_so e go c at = ends_out n first ms x (laid_of g) (drawn_of g) st.plays st.counted st.rest st.carries u d f lu ld fh c t.at t.steps t.cost now (end_so e) at w.trip go.trip

  refused_so : (e : Ending) → Ends e x t now r left → far (real_map (world_in n (net n first ms))) d u ≡ Never → end_so e ≡ record { cost = 0; steps = 0; frame = f; ending = RefusedAt u }
  refused_so e go never = ends_refused n first ms x (laid_of g) (drawn_of g) st.plays st.counted st.rest st.carries u d f lu ld fh t.at t.steps t.cost now (end_so e) never w.trip go.trip

  nears : (s : Step) → Goes t now bs g r left cs h s → IfOnward s (Travelling cs r left) → (c : ℕ) → far (real_map (world_in n (net n first ms))) d u ≡ At c → Nears n first ms u d c f t r left cs h s
  nears (Onward v e) go again c at = record {
    still = still_so go.losing;
    way = record {
      comes = again;
      trip = λ m. same_trip go (r.steps + m) u f 0 0 ∙ (ap (λ (j : ℕ). trip (j + m) x u f 0 0) go.steps ∙ (on_trip go m ∙ (ap (λ (j : ℕ). trip m x r.at left r.cost j) (sym go.steps) ∙ sym (same_trip go m r.at left r.cost r.steps))));
      cost = let paid = go.cost in let so_far = w.cost in let more = go.steps in omega arith;
      short = omega (arith, short_so go c at, go.steps, st.long, k.long);
    };
    steps = go.steps;
  }
  nears Out go again c at =
      let o = out_so (OutAt t.at) go c at in
      let there : t.at ≡ d = (let e = o.out in cc) in
      record {
        at = go.at ∙ there;
        cost = o.cost;
        short = subst (λ (j : ℕ). j < n) (sym go.steps) o.short;
        is = subst (λ (j : ℕ). After j (packet_in f) (packet_in left)) (sym go.steps) o.is;
      }
  nears Refused go again c at = let e = (out_so (RefusedAt t.at) go c at).out in cc
  nears (Lost v e) go again c at = let e = (out_so (LostAt t.at) go c at).out in cc

  refuses : (s : Step) → Goes t now bs g r left cs h s → far (real_map (world_in n (net n first ms))) d u ≡ Never → NoWayFrom u f bs r left given s
  refuses (Onward v e) go never = absurd (goes_never n first ms x (laid_of g) (drawn_of g) st.plays st.counted st.rest st.carries u d f lu ld fh r.at t.steps r.cost left never (on_trip go))
  refuses Out go never = let e : OutAt t.at ≡ RefusedAt u = ap (λ (z : Trip). z.ending) (refused_so (OutAt t.at) go never) in absurd (let z : ⊥ = cc in z)
  refuses Refused go never =
      let e = refused_so (RefusedAt t.at) go never in
      let ended : RefusedAt t.at ≡ RefusedAt u = ap (λ (z : Trip). z.ending) e in
      let here : t.at ≡ u = cc in
      let frame : now ≡ f = frame_first n first ms x (laid_of g) (drawn_of g) st.plays st.counted st.rest st.carries u d f lu ld fh t.at t.steps t.cost now never w.trip in
      record {
        is = refl;
        at = go.at ∙ here;
        frame = ap (λ (z : Trip). z.frame) e;
        gives = k.gives ∙ ((λ i. (passed_at bs (here i) (frame i)).gives) ∙ gives_refused n first ms x (laid_of g) (drawn_of g) st.plays st.counted st.rest st.carries u d f lu ld fh never);
      }
  refuses (Lost v e) go never = let e : LostAt t.at ≡ RefusedAt u = ap (λ (z : Trip). z.ending) (refused_so (LostAt t.at) go never) in absurd (let z : ⊥ = cc in z)

-- so with each step
pub nearer : (t r : Traveller) (now left : List ℕ) (bs cs : List Node) (g h : Ground) (given : List ℕ) (s : Step) → (Travelling bs t now → Passes t now bs g r left cs h given s) →
    (Travelling bs t now → LosesNothing g → t.cost + 65535 < 2 ^ 32 → t.steps + 1 < 2 ^ 8 → Goes t now bs g r left cs h s) → Delivers t now bs g r left cs h given s
nearer t r now left bs cs g h given s passes goes n first ms st u d f lu ld fh w =
    let few : n ≤ 64 = leb-true n 64 st.plays.starts.few in
    let steps : t.steps < 64 = omega (arith, w.short, st.long) in
    let cost : t.cost ≤ t.steps * 65535 = w.cost in
    let k : Passes t now bs g r left cs h given s = passes w.comes in
    let go : Goes t now bs g r left cs h s = goes w.comes st.losing (omega arith) (omega arith) in
    (nears t r now left bs cs g h given s k n first ms st u d f lu ld fh w s go k.again, refuses t r now left bs cs g h given s k n first ms st u d f lu ld fh w s go)
