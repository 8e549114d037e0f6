-- Who has shown all is told nothing, and where all is shown only hellos go out at a tick.
use Rattle.std.proofs.Common.{◌≡◌, ℕ, zero, suc, ◌+◌, ◌%◌, ◌<◌, ◌≤◌, Bool, true, false, cond, not, ◌&&◌, eqb, ltb, List, [], ◌∷◌, ◌++◌, sym, refl, ap, ◌∙◌, subst, append-nil, arith, ltb-true, eqb-true}
use borrow.Author.Tests.{eqb-false}
use Rattle.model.specs.Code.{pick}
use Rattle.model.specs.Box.{Box, says_now, must_say, tells}
use Rattle.model.proofs.Tests.{of_cond, cond-true, cond-false}
use Rattle.linkmodel.proofs.Bools.{true_not_false, fails-left as and_first, fails-right as and_second}
use Rattle.linkmodel.specs.Links.{Wire, Silent, Heard, Open, Links, wires, holds_for, opens_to, lowest_to, road_cost, aged, passes}
use Rattle.linkmodel.specs.Relinked.{Sound}
use Rattle.linkmodel.specs.Station.{Station, Out, tells_every, can_say, words_out, hellos_on, items_of, tells_on, tick_out}
use Rattle.linkmodel.specs.Calls.{expired}
use Rattle.linkmodel.specs.Telling.{Settled, is_untold, NothingToTell, OnlyHellos, QuietTick}
use Rattle.linkmodel.proofs.Staying.{relinked_kept}

-- where no test passes nothing is picked
pub pick_none : (m k : ℕ) (f : ℕ → Bool) (i : ℕ) → ((j : ℕ) → i ≤ j → j < i + m → f j ≡ false) → pick m k f i ≡ []
unfolding pick
pick_none zero k f i h = refl
pick_none (suc m) zero f i h = refl
pick_none (suc m) (suc k) f i h =
    cond-false (f i) (i ∷ pick m k f (i + 1)) (pick m (suc k) f (i + 1)) (h i (omega arith) (omega arith)) ∙ pick_none m (suc k) f (i + 1) (λ j p q. h j (omega arith) (omega arith))

-- what is shown or was never said isn't untold
pub told : (e : ℕ) (b : Box) (i : ℕ) → (0 < (b.word i).number → b.shown e i ≡ true) → is_untold e b i ≡ false
told e b i h = go (ltb 0 (b.word i).number) refl
  where
    go : (c : Bool) → ltb 0 (b.word i).number ≡ c → is_untold e b i ≡ false
    go true z = and_second (ltb 0 (b.word i).number) (not (b.shown e i)) (ap not (h (ltb-true 0 (b.word i).number z)))
    go false z = and_first (ltb 0 (b.word i).number) (not (b.shown e i)) z

pub nothing_to_tell_lem : NothingToTell
nothing_to_tell_lem e b h = pick_none b.n 4 (is_untold e b) 0 (λ j p q. told e b j (h j (omega arith)))

tells_none : (s : Station) (k : ℕ) → k ≤ s.links.n → Settled s → tells_on s k ≡ []
unfolding tells_on items_of
tells_none s zero h q = refl
tells_none s (suc k) h q = rw (tells_none s k (omega arith) q) (of_cond (λ (l : List Out). l ≡ []) (ltb 0 (road_cost k s.links)) (words_out k (items_of (tells k s.box) s.box) s.links) [] here (λ _. refl))
  where
    here : ltb 0 (road_cost k s.links) ≡ true → words_out k (items_of (tells k s.box) s.box) s.links ≡ []
    here z = ap (λ (l : List ℕ). words_out k (items_of l s.box) s.links) (nothing_to_tell_lem k s.box (q k (omega arith) (ltb-true 0 (road_cost k s.links) z)))

pub only_hellos_lem : OnlyHellos
only_hellos_lem s q =
    of_cond (λ (l : List Out). hellos_on s.links wires ++ l ≡ hellos_on s.links wires) (eqb (s.links.tick % tells_every) 0) (tells_on s s.links.n) []
    (λ _. ap (λ (l : List Out). hellos_on s.links wires ++ l) (tells_none s s.links.n (omega arith) q) ∙ append-nil (hellos_on s.links wires))
    (λ _. append-nil (hellos_on s.links wires))

-- a wire that is open after ageing was open
aged_opens : (now e : ℕ) (x : Wire) → opens_to e (aged now x) ≡ true → opens_to e x ≡ true
aged_opens now e Silent h = h
aged_opens now e (Heard f d t) h = of_cond (λ (y : Wire). opens_to e y ≡ true → false ≡ true) (ltb (t + holds_for) now) Silent (Heard f d t) (λ _ z. z) (λ _ z. z) h
aged_opens now e (Open f d t) h = of_cond (λ (y : Wire). opens_to e y ≡ true → eqb f e ≡ true) (ltb (t + holds_for) now) Silent (Open f d t) (λ _ z. true_not_false false z refl) (λ _ z. z) h

-- an open wire costs something
open_costs : (s : Links) → Sound s → (e w : ℕ) → opens_to e (s.wire w) ≡ true → 0 < s.cost w
open_costs s k e w h = go (eqb (s.cost w) 0) refl
  where
    go : (b : Bool) → eqb (s.cost w) 0 ≡ b → 0 < s.cost w
    go true z = true_not_false (opens_to e (s.wire w)) h (ap (opens_to e) (k.silent w (eqb-true (s.cost w) 0 z)))
    go false z = let p : s.cost w ≡ 0 → ⊥ = eqb-false (s.cost w) 0 z in omega arith

-- a road that is open after a tick was open before
aged_road : (s : Links) → Sound s → (e w k : ℕ) → 0 < lowest_to e (passes s) w k → 0 < lowest_to e s w k
unfolding lowest_to
aged_road s d e w zero h = h
aged_road s d e w (suc k) h = go (opens_to e (s.wire w)) refl (λ z. aged_road s d e (w + 1) k z)
  where
    go : (b : Bool) → opens_to e (s.wire w) ≡ b → (0 < lowest_to e (passes s) (w + 1) k → 0 < lowest_to e s (w + 1) k) → 0 < cond (opens_to e (s.wire w)) (s.cost w) (lowest_to e s (w + 1) k)
    go true z ih = subst (λ (y : ℕ). 0 < y) (sym (cond-true (opens_to e (s.wire w)) (s.cost w) (lowest_to e s (w + 1) k) z)) (open_costs s d e w z)
    go false z ih = subst (λ (y : ℕ). 0 < y) (sym (cond-false (opens_to e (s.wire w)) (s.cost w) (lowest_to e s (w + 1) k) z))
        (ih (of_cond (λ (y : ℕ). 0 < y → 0 < lowest_to e (passes s) (w + 1) k) (opens_to e ((passes s).wire w)) (s.cost w) (lowest_to e (passes s) (w + 1) k)
        (λ j _. true_not_false (opens_to e (s.wire w)) (aged_opens (suc s.tick) e (s.wire w) j) z) (λ _ y. y) h))

pub quiet_tick_lem : QuietTick
quiet_tick_lem s t d q m =
    subst (λ (b : Box). tick_out (record { links = passes s.links; box = b }) ≡ hellos_on (passes s.links) wires)
    (sym (cond-false (must_say (expired s) && can_say ((expired s).word (expired s).me).number) (says_now t (expired s)) (expired s) (and_first (must_say (expired s)) (can_say ((expired s).word (expired s).me).number) m)))
    (only_hellos_lem (record { links = passes s.links; box = expired s }) still)
  where
    still : Settled (record { links = passes s.links; box = expired s })
    still e en p i il n = let was : 0 < road_cost e s.links = aged_road s.links d e 0 wires p in relinked_kept s.links (passes s.links) s.box e i (q e en was i il n) was p refl
