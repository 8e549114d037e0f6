-- A box that is switched on with no wires is the model's, and after n of them a run of the net begins.
use Rattle.std.proofs.Common.{◌≡◌, ℕ, zero, suc, ◌+◌, ◌^◌, ◌<◌, ◌≤◌, Bool, true, false, cond, ◌&&◌, eqb, ltb, leb, List, [], ◌∷◌, ◌++◌, length, replicate, Some, None, Ok, Err, Option, Result, sym, refl, ap, ◌∙◌, subst, arith, lt-ltb, ltb-true, leb-true, le-leb, eq-eqb, length-append, IfOk}
use Rattle.frames.proofs.Whole.{boxes_again, settings_again_lem}
use Rattle.frames.specs.Ranges.{SettingsInRange}
use Rattle.frames.specs.Reading.{boxes_in, settings_in, value_in}
use Rattle.frames.specs.Writing.{bytes_of_settings, bytes_of_wires}
use Rattle.octets.specs.Reads.{below, give, onward, unless}
use Rattle.model.proofs.Tests.{true_not_false}
use Rattle.messages.specs.Values.{at}
use Rattle.messages.specs.declared.values.Settings.{Settings}
use Rattle.linkmodel.proofs.Bools.{and_both, and_left, and_right}
use Rattle.linkmodel.specs.Station.{Station as Whole, has_costs, station}
use Rattle.hello.specs.declared.answers.Refusal.TheVariants.{OutOfRange as NoSuch}
use Rattle.linkmodel.specs.Links.{Links, Silent, Wire, fresh, lowest_to, opens_to, rewired, road_cost}
use Rattle.messages.proofs.Zeros.{at_zeros}
use Rattle.model.specs.Words.{unsaid}
use Rattle.node.specs.Giving.{if_refused}
use Rattle.node.specs.Turns.{begun_by, set_up}
use Rattle.station.specs.State.{begin_refusal, by_wires, refusal_number, rewire_refusal}
use Rattle.station.specs.declared.answers.Refusal.{Refusal as Reason}
use Rattle.octets.specs.declared.Fault.{Fault}
use Rattle.octets.specs.declared.Fault.TheVariants.{Range}
use Rattle.model.specs.Flood.{row}
use Rattle.linkmodel.proofs.Wires.{at_row}
use Rattle.netbytes.proofs.Wired.{plays_begun}
use Rattle.node.specs.State.{whole_of}
use Rattle.node.specs.Turns.{BegunBy}
use Rattle.node.specs.declared.refusals.Refusal.{Refusal}
use Rattle.node.specs.declared.state.Node.{Node}
use Rattle.ground.specs.Wires.{Drew, SameWires, drawn_of, laid_of, plug_at}
use Rattle.ground.specs.declared.state.Ground.{Ground}
use Rattle.net.specs.Plays.{Plays, Switched, begun_as, whole_at}
use Rattle.net.proofs.Wholes.{next_is}

-- the settings of a box with no wires
abbrev bare : ℕ → ℕ → Settings
bare n me = record { boxes = n; me = me; costs = replicate 8 0 }

-- one of two fails
fails : (a b : Bool) → (a && b) ≡ false → b ≡ true → a ≡ false
fails false b p q = refl
fails true b p q = true_not_false b q p

-- too many boxes or none, or no such box
boxes_bad : (n : ℕ) (r : List ℕ) → (leb 1 n && leb n 64) ≡ false → boxes_in (n ∷ r) ≡ Err Range
boxes_bad n r h = ap (λ (b : Bool). onward (unless Range b r) (λ _. give n)) h

below_bad : (n me : ℕ) (r : List ℕ) → ltb me n ≡ false → below n (me ∷ r) ≡ Err Range
below_bad n me r h = ap (λ (b : Bool). onward (unless Range b r) (λ _. give me)) h

out_of_range : (n me : ℕ) → (ltb me n && leb n 64) ≡ false → value_in (settings_in (bytes_of_settings (bare n me))) ≡ Err Range
out_of_range n me h = go (leb 1 n && leb n 64) refl
  where
    go : (b : Bool) → (leb 1 n && leb n 64) ≡ b → value_in (settings_in (bytes_of_settings (bare n me))) ≡ Err Range
    go false e = rw (boxes_bad n (me ∷ bytes_of_wires (replicate 8 0)) e) refl
    go true e =
        let few : leb n 64 ≡ true = and_right (leb 1 n) (leb n 64) e in
        let none : ltb me n ≡ false = fails (ltb me n) (leb n 64) h few in
        rw (boxes_again n (me ∷ bytes_of_wires (replicate 8 0)) (leb-true 1 n (and_left (leb 1 n) (leb n 64) e)) (leb-true n 64 few), below_bad n me (bytes_of_wires (replicate 8 0)) none) refl

-- with no costs it is just switched on
no_road : (e : ℕ) (s : Links) → ((w : ℕ) → s.wire w ≡ Silent) → (k w : ℕ) → lowest_to e s w k ≡ 0
unfolding lowest_to
no_road e s h zero w = refl
no_road e s h (suc k) w = ap (λ (x : Wire). cond (opens_to e x) (s.cost w) (lowest_to e s (w + 1) k)) (h w) ∙ no_road e s h k (w + 1)

wires_bare : (n me d : ℕ) → has_costs (at (replicate 8 0)) (station n me d) ≡ station n me d
wires_bare n me d = λ k. record {
  links = record { n = n; me = me; drawn = d; tick = 0; cost = λ w. at_zeros 8 w k; wire = λ w. silent w k; last = λ e. 0 };
  box = record { n = n; me = me; cost = λ e. road e k; word = λ i. unsaid; shown = λ e i. unshown e k };
}
  where
    same : (b : Bool) → cond b Silent Silent ≡ Silent
    same true = refl
    same false = refl

    silent : (w : ℕ) → (rewired (at (replicate 8 0)) (fresh n me d)).wire w ≡ Silent
    silent w = same (eqb (at (replicate 8 0) w) 0)

    road : (e : ℕ) → road_cost e (rewired (at (replicate 8 0)) (fresh n me d)) ≡ 0
    road e = no_road e (rewired (at (replicate 8 0)) (fresh n me d)) silent 8 0

    never : (a b : Bool) → (a && (b && false)) ≡ false
    never false b = refl
    never true false = refl
    never true true = refl

    unshown : (e : ℕ) → (eqb 0 0 && (ltb 0 (road_cost e (fresh n me d)) && (ltb 0 (road_cost e (rewired (at (replicate 8 0)) (fresh n me d))) && false))) ≡ false
    unshown e = never (ltb 0 (road_cost e (fresh n me d))) (ltb 0 (road_cost e (rewired (at (replicate 8 0)) (fresh n me d))))

-- switched on, or refused
pub begun_is : (n me d : ℕ) (bytes : List ℕ) → 0 < d → bytes ≡ bytes_of_settings (bare n me) → begun_by (value_in (settings_in bytes)) d ≡ begun_as n me d
begun_is n me d bytes l is = ap (λ (z : List ℕ). begun_by (value_in (settings_in z)) d) is ∙ go (ltb me n && leb n 64) refl
  where
    go : (b : Bool) → (ltb me n && leb n 64) ≡ b → begun_by (value_in (settings_in (bytes_of_settings (bare n me)))) d ≡ cond b (Ok (station n me d)) (Err 2)
    go false e = ap (λ (z : Result Settings Fault). begun_by z d) (out_of_range n me e)
    go true e =
        let lm : ltb me n ≡ true = and_left (ltb me n) (leb n 64) e in
        let ln : leb n 64 ≡ true = and_right (ltb me n) (leb n 64) e in
        let inside : me < n = ltb-true me n lm in
        let range : SettingsInRange (bare n me) =
        record { some = omega arith; few = leb-true n 64 ln; me = inside; wires = refl; costs = λ i _. subst (λ (z : ℕ). z < 2 ^ 16) (sym (at_zeros 8 i)) (omega arith) } in
        let free : begin_refusal n me d ≡ None = ap (λ (b : Bool). by_wires (cond b None (Some NoSuch))) (and_both (ltb me n) (leb n 64 && ltb 0 d) lm (and_both (leb n 64) (ltb 0 d) ln (lt-ltb 0 d l))) in
        let right : rewire_refusal (bare n me) (station n me d) ≡ None = ap (λ (b : Bool). by_wires (cond b None (Some NoSuch))) (and_both (eqb n n) (eqb me me) (eq-eqb n n refl) (eq-eqb me me refl)) in
        ap (λ (z : Result Settings Fault). begun_by z d) (settings_again_lem (bare n me) range)
        ∙ (ap (λ (o : Option Reason). if_refused o (λ r. Err (refusal_number r)) (set_up (bare n me) (station n me d))) free
        ∙ (ap (λ (o : Option Reason). if_refused o (λ r. Err (refusal_number r)) (Ok (has_costs (at (replicate 8 0)) (station n me d)))) right
        ∙ ap (λ (s : Whole). Ok s) (wires_bare n me d)))

-- one more box behind others
before_last : (ss : List Node) (s : Node) (a : ℕ) → a < length ss → whole_at (ss ++ (s ∷ [])) a ≡ whole_at ss a
unfolding whole_at
before_last [] s a l = absurd (omega arith)
before_last (r ∷ ss) s zero l = refl
before_last (r ∷ ss) s (suc a) l = before_last ss s a (omega arith)

the_last : (ss : List Node) (s : Node) (a : ℕ) → a ≡ length ss → whole_at (ss ++ (s ∷ [])) a ≡ whole_of s
unfolding whole_at
the_last [] s a e = rw e refl
the_last (r ∷ ss) s a e = rw e (the_last ss s (length ss) refl)

-- one more is switched on, under the next number
module _ (n me : ℕ) (first : ℕ → ℕ) (ss : List Node) (node : Node) (g h : Ground) (k : Switched n first ss g) (here : length ss ≡ me) (next : drawn_of h ≡ drawn_of g + 1) (small : drawn_of h < 2 ^ 64) (same : SameWires g h) (is : whole_of node ≡ station n me (drawn_of h)) where
  -- what holds of the new one and of the others
  one_more : (P : ℕ → ℕ → Type 0) → P me (drawn_of h) → ((a : ℕ) → a < length ss → P a (first a)) → (a : ℕ) → a < length (ss ++ (node ∷ [])) → P a (row me (drawn_of h) first a)
  one_more P new old a l =
      at_row (P a) me (drawn_of h) first a (λ q. subst (λ (z : ℕ). P z (drawn_of h)) (sym q) new) (λ ne. old a (omega (arith, ne, here, length-append ss (node ∷ []))))

  -- no number twice
  unlike : (a : ℕ) → a < length (ss ++ (node ∷ [])) → (e : ℕ) → e < length (ss ++ (node ∷ [])) → row me (drawn_of h) first a ≡ row me (drawn_of h) first e → a ≡ e
  unlike =
      one_more (λ (a f : ℕ). (e : ℕ) → e < length (ss ++ (node ∷ [])) → f ≡ row me (drawn_of h) first e → a ≡ e)
      (one_more (λ (e f : ℕ). drawn_of h ≡ f → me ≡ e) (λ _. refl) (λ e l q. absurd (omega (arith, q, next, k.up_to e l))))
      (λ a la. one_more (λ (e f : ℕ). first a ≡ f → a ≡ e) (λ q. absurd (omega (arith, q, next, k.up_to a la))) (λ e le q. k.drawn.1 a e la le q))

  switched : Switched n (row me (drawn_of h) first) (ss ++ (node ∷ [])) h
  switched = record {
    few = k.few;
    boxes = one_more (λ (a f : ℕ). whole_at (ss ++ (node ∷ [])) a ≡ station n a f) (the_last ss node me (sym here) ∙ is) (λ a l. before_last ss node a l ∙ k.boxes a l);
    drawn = (one_more (λ (a f : ℕ). 0 < f) (omega (arith, next)) k.drawn.0, λ a e la le. unlike a la e le);
    small = one_more (λ (a f : ℕ). f < 2 ^ 64) small k.small;
    up_to = one_more (λ (a f : ℕ). f ≤ drawn_of h) (omega arith) (λ a l. omega (arith, k.up_to a l, next));
    empty = record { bare = λ a w. same.joined a w ∙ k.empty.bare a w; laid = same.laid ∙ k.empty.laid };
  }

-- so each call adds one
pub adds_so : (n me : ℕ) (g h : Ground) (r : Result Node Refusal) (given : List ℕ) → BegunBy (begun_as n me (drawn_of h)) r given → Drew g h → drawn_of h < 2 ^ 64 →
    IfOk r (λ node. (first : ℕ → ℕ) (before : List Node) → Switched n first before g → length before ≡ me → drawn_of g + 1 < 2 ^ 64 → Switched n (row me (drawn_of h) first) (before ++ (node ∷ [])) h)
adds_so n me g h (Err e) given b w small = tt
adds_so n me g h (Ok node) given b w small = λ first before k here few. switched n me first before node g h k here (w.drawn ∙ next_is (drawn_of g) few) small w.stays (go (ltb me n && leb n 64) b)
  where
    go : (t : Bool) → BegunBy (cond t (Ok (station n me (drawn_of h))) (Err 2)) (Ok node) given → whole_of node ≡ station n me (drawn_of h)
    go true b = b.0
    go false b = absurd b

-- and when all are switched on a run of the net begins
pub begins_so : (first : ℕ → ℕ) (ss : List Node) (g : Ground) → Switched (length ss) first ss g → Plays first [] ss g
begins_so first ss g k =
    plays_begun (length ss) first (whole_at ss) (plug_at g) (laid_of g) (drawn_of g) (record { few = le-leb (length ss) 64 k.few; drawn = k.drawn; small = k.small }) k.boxes k.empty.bare k.empty.laid k.up_to
