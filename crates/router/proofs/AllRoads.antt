-- All roads of a box change at once, by lists of 64.
use Rattle.std.proofs.Common.{◌≡◌, ℕ, ◌<◌, ◌≤◌, Bool, true, false, cond, not, ◌&&◌, eqb, ltb, List, length, sym, refl, ap, ◌∙◌, arith, ltb-false, ltb-true, le-ltb}
use mathlib.Core.Bool.{and-false}
use Rattle.bits.specs.Bits.{bit}
use Rattle.messages.specs.Values.{at}
use Rattle.model.specs.Box.{Box, is_open}
use Rattle.router.specs.State.{road_to, still_shown}
use Rattle.router.proofs.Tables.{at_past, bit_at_past}

-- no road leads to a number of no box
pub road_past : (c : ℕ → ℕ) (s : Box) (e : ℕ) → s.n ≤ e → road_to c s e ≡ 0
road_past c s e h = ap (λ b. cond (b && not (eqb e s.me)) (c e) 0) (le-ltb e s.n h)

-- and nothing is shown over a road that is closed now
pub shut_shows : (c : ℕ → ℕ) (anew : ℕ → Bool) (s : Box) (e i : ℕ) → c e ≡ 0 → still_shown c anew s e i ≡ false
shut_shows c anew s e i h =
    ap (λ (x : ℕ). not (anew e) && (is_open e s && (ltb 0 x && s.shown e i))) h ∙ ap (λ b. not (anew e) && b) (and-false (is_open e s)) ∙ and-false (not (anew e))

pub all_roads : (links costs : List ℕ) (s : Box) → length costs ≡ 64 → s.n ≤ 64 → ((e : ℕ) → e < 64 → at costs e ≡ road_to (at links) s e) → (e : ℕ) → at costs e ≡ road_to (at links) s e
all_roads links costs s l few h e = go (ltb e 64) refl
  where
    go : (b : Bool) → ltb e 64 ≡ b → at costs e ≡ road_to (at links) s e
    go true q = h e (ltb-true e 64 q)
    go false q = let past : 64 ≤ e = ltb-false e 64 q in at_past costs e 64 l past ∙ sym (road_past (at links) s e (omega arith))

pub all_shown :
    (links costs kept : List ℕ) (anew : ℕ → Bool) (s : Box) → length kept ≡ 64 → s.n ≤ 64 → ((e : ℕ) → at costs e ≡ road_to (at links) s e) →
    ((e : ℕ) → e < 64 → (i : ℕ) → bit (at kept e) i ≡ still_shown (at costs) anew s e i) → (e i : ℕ) → bit (at kept e) i ≡ still_shown (road_to (at links) s) anew s e i
all_shown links costs kept anew s l few roads h e i = go (ltb e 64) refl
  where
    go : (b : Bool) → ltb e 64 ≡ b → bit (at kept e) i ≡ still_shown (road_to (at links) s) anew s e i
    go true q = h e (ltb-true e 64 q) i ∙ ap (λ (x : ℕ). not (anew e) && (is_open e s && (ltb 0 x && s.shown e i))) (roads e)
    go false q =
        let past : 64 ≤ e = ltb-false e 64 q in
        bit_at_past kept e i 64 l past ∙ sym (shut_shows (road_to (at links) s) anew s e i (road_past (at links) s e (omega arith)))
