-- A packet on its way at rest: it never stays on its way for as many steps as there are boxes, and ends where it goes at the least cost, or where it began if no way leads there.
use Rattle.std.proofs.Common.{◌≡◌, ℕ, zero, suc, ◌+◌, ◌<◌, ◌≤◌, T, List, [], sym, refl, ap, ◌∙◌, subst, arith}
use Rattle.linkmodel.specs.Station.{Station as Whole}
use Rattle.model.specs.Forward.{real_map}
use Rattle.model.specs.Map.{Never, At, far}
use Rattle.model.specs.Promise.{Rest}
use Rattle.netmodel.specs.Net.{Move, net, all_counted}
use Rattle.netmodel.specs.Standing.{world_in}
use Rattle.netmodel.proofs.Laws.{wires_join}
use Rattle.node.specs.Passing.{Passed, packet_in, passed, refused_as, trouble_of}
use Rattle.node.specs.declared.refusals.Refusal.TheVariants.{NoWay}
use Rattle.netbytes.specs.Playing.{PlaysAt}
use Rattle.netbytes.specs.Trips.{Carries, ComesOut, Field, ForHouse, RefusedAt, TooLong, Trip, field, goes_on, trip}
use Rattle.netbytes.proofs.Delivered.{bytes_deliver}
use Rattle.netbytes.proofs.Stepping.{SameBelow, steps_grow, trip_alike}

-- the trip that box u began with frame f is at box v, with frame g
abbrev pub IsAt : Field → ℕ → List ℕ → ℕ → List ℕ → ℕ → ℕ → Type 0
IsAt x u f v g c k = (m : ℕ) → trip (k + m) x u f 0 0 ≡ trip m x v g c k

-- one step further it is there,
abbrev pub OneOn : Field → ℕ → List ℕ → ℕ → ℕ → ℕ → List ℕ → ℕ → Type 0
OneOn x v g c k to left paid = (m : ℕ) → trip (suc m) x v g c k ≡ trip m x to left paid (suc k)

-- or it has ended so
abbrev pub EndsSo : Field → ℕ → List ℕ → ℕ → ℕ → Trip → Type 0
EndsSo x v g c k t = (m : ℕ) → trip (suc m) x v g c k ≡ t

-- a step further the trip is the same trip
pub one_more : (x : Field) (u v c k to paid : ℕ) (f g left : List ℕ) → IsAt x u f v g c k → OneOn x v g c k to left paid → IsAt x u f to left paid (suc k)
one_more x u v c k to paid f g left is on m =
    let e : suc k + m ≡ k + suc m = omega arith in
    ap (λ (j : ℕ). trip j x u f 0 0) e ∙ (is (suc m) ∙ on m)

-- what ends a trip is its end
end_is : (x : Field) (u v c k m : ℕ) (f g : List ℕ) (t : Trip) → IsAt x u f v g c k → EndsSo x v g c k t → trip (k + suc m) x u f 0 0 ≡ t
end_is x u v c k m f g t is e = is (suc m) ∙ e m

module _ (n : ℕ) (first : ℕ → ℕ) (ms : List Move) (x : Field) (laid drawn : ℕ) (plays : PlaysAt n first ms x.at x.joined laid drawn) (counted : T (all_counted n first ms [])) (rest : Rest (world_in n (net n first ms))) (carries : Carries n (net n first ms)) where
  abbrev y : Field
  y = field (net n first ms) x.errors

  same : SameBelow n x y
  same = record {
    at = plays.now.boxes;
    errors = λ a. refl;
    joined = plays.now.joined;
    inside = λ a w p e. (wires_join n first ms plays.starts a w p e).0.2;
  }

  module _ (u d : ℕ) (f : List ℕ) (lu : u < n) (ld : d < n) (h : ForHouse n d f) where
    -- where a way leads there it comes out
    comes : (c m : ℕ) → far (real_map (world_in n (net n first ms))) d u ≡ At c → n ≤ m → ComesOut n d c (packet_in f) (trip m x u f 0 0)
    comes c m e l = subst (λ (t : Trip). ComesOut n d c (packet_in f) t) (sym (trip_alike n x y same m u f 0 0 lu)) ((bytes_deliver n first ms plays.starts counted rest carries x.errors m u d f l lu ld h).0 c e)

    -- where none does the first box refuses it
    turned : far (real_map (world_in n (net n first ms))) d u ≡ Never → passed (x.at u) (x.errors u) f ≡ trouble_of (refused_as NoWay (x.at u) (x.errors u) (packet_in f)) f
    turned e =
        subst (λ (s : Whole). passed s (x.errors u) f ≡ trouble_of (refused_as NoWay s (x.errors u) (packet_in f)) f) (sym (same.at u lu))
        ((bytes_deliver n first ms plays.starts counted rest carries x.errors n u d f (omega arith) lu ld h).1 e)

    -- so any end of its trip is at d, at the least cost
    pub ends_out : (c v k paid : ℕ) (g : List ℕ) (t : Trip) → far (real_map (world_in n (net n first ms))) d u ≡ At c → IsAt x u f v g paid k → EndsSo x v g paid k t → ComesOut n d c (packet_in f) t
    ends_out c v k paid g t e is ends = subst (λ (z : Trip). ComesOut n d c (packet_in f) z) (end_is x u v paid k n f g t is ends) (comes c (k + suc n) e (omega arith))

    -- and it never stays on its way for as many steps as there are boxes
    pub goes_short : (c v k paid : ℕ) (g : List ℕ) → far (real_map (world_in n (net n first ms))) d u ≡ At c → IsAt x u f v g paid k → k < n
    goes_short c v k paid g e is =
        let grown : k ≤ (trip (k + n) x u f 0 0).steps = subst (λ (z : Trip). k ≤ z.steps) (sym (is n)) (steps_grow n x v g paid k) in
        let short : (trip (k + n) x u f 0 0).steps < n = (comes c (k + n) e (omega arith)).short in
        omega (arith, grown, short)

    -- the trip of a packet to which no way leads
    refused : (m : ℕ) → far (real_map (world_in n (net n first ms))) d u ≡ Never → trip (suc m) x u f 0 0 ≡ record { cost = 0; steps = 0; frame = f; ending = RefusedAt u }
    unfolding trip
    refused m e = ap (λ (p : Passed). goes_on (λ v g d j. trip m x v g d j) x u p.frame 0 0 p.goes) (turned e)

    -- so it ends there,
    pub ends_refused : (v k paid : ℕ) (g : List ℕ) (t : Trip) → far (real_map (world_in n (net n first ms))) d u ≡ Never → IsAt x u f v g paid k → EndsSo x v g paid k t → t ≡ record { cost = 0; steps = 0; frame = f; ending = RefusedAt u }
    ends_refused v k paid g t e is ends =
        let more : suc (k + 0) ≡ k + suc 0 = omega arith in
        sym (end_is x u v paid k 0 f g t is ends) ∙ (ap (λ (j : ℕ). trip j x u f 0 0) (sym more) ∙ refused (k + 0) e)

    -- it is never further,
    pub goes_never : (v k paid : ℕ) (g : List ℕ) → far (real_map (world_in n (net n first ms))) d u ≡ Never → IsAt x u f v g paid (suc k) → ⊥
    unfolding trip
    goes_never v k paid g e is =
        let more : suc (k + 0) ≡ suc k + 0 = omega arith in
        let both : RefusedAt u ≡ TooLong = ap (λ (z : Trip). z.ending) (sym (refused (k + 0) e) ∙ (ap (λ (j : ℕ). trip j x u f 0 0) more ∙ is 0)) in
        cc

    -- and its frame is the first
    pub frame_first : (v k paid : ℕ) (g : List ℕ) → far (real_map (world_in n (net n first ms))) d u ≡ Never → IsAt x u f v g paid k → g ≡ f
    unfolding trip
    frame_first v zero paid g e is = ap (λ (z : Trip). z.frame) (sym (is 0))
    frame_first v (suc k) paid g e is = absurd (goes_never v k paid g e is)

    -- what is given out then
    pub gives_refused : far (real_map (world_in n (net n first ms))) d u ≡ Never → (passed (x.at u) (x.errors u) f).gives ≡ (refused_as NoWay (x.at u) (x.errors u) (packet_in f)).gives
    gives_refused e = ap (λ (p : Passed). p.gives) (turned e)
