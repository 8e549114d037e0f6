-- The tests of the code and the test of rest say the same.
use Rattle.std.proofs.Common.{◌≡◌, ℕ, ◌<◌, Bool, true, false, not, ◌&&◌, ◌||◌, eqb, ltb, ◌⊎◌, List, length, get_or, sym, refl, ap, ◌∙◌, inl, inr}
use Rattle.std.proofs.lemmas.Bool.{and_from, and_left, and_right, and_parts, eq-eqb, ne_eqb, eqb-true, not_from_true}
use Rattle.model.specs.Box.{Box, is_open, must_say, own_so}
use Rattle.model.specs.Promise.{Rest, all_below, own_true}
use Rattle.model.specs.Settling.{at_rest}
use Rattle.linkmodel.specs.Station.{Station as Whole}
use Rattle.model.proofs.Resting.{rest_test_lem}
use Rattle.model.proofs.Tests.{t_true, true_t}
use Rattle.node.specs.State.{whole_of}
use Rattle.node.specs.declared.state.Node.{Node}
use Rattle.net.specs.Nets.{box_in, world_of, Numbered, agrees_with, alike_below, is_placed, calm_at}
use Rattle.net.proofs.Alls.{all_at, all_same}
use Rattle.net.proofs.Wholes.{whole_get}

-- the box at a place that was read
pub box_read : (ss : List Node) (a : ℕ) (s : Node) → a < length ss → s ≡ get_or ss a s → box_in ss a ≡ (whole_of s).box
box_read ss a s h e = ap (λ (w : Whole). w.box) (whole_get ss a s h) ∙ ap (λ (z : Node). (whole_of z).box) (sym e)

-- what is asked of a box beside its place
abbrev calm_rest : List Node → ℕ → Bool
calm_rest ss a = not (must_say (box_in ss a)) && all_below (length ss) (λ e. agrees_with (length ss) (box_in ss a) a (box_in ss e) e)

-- a box that isn't at its place
pub calm_misplaced : (ss : List Node) (a : ℕ) (s : Box) → box_in ss a ≡ s → ((s.n ≡ length ss → ⊥) ⊎ (s.me ≡ a → ⊥)) → calm_at ss a ≡ false
calm_misplaced ss a s e (inl h) =
    and_left (is_placed ss a) (calm_rest ss a) (and_left (eqb (box_in ss a).n (length ss)) (eqb (box_in ss a).me a) (ap (λ (b : Box). eqb b.n (length ss)) e ∙ ne_eqb s.n (length ss) h))
calm_misplaced ss a s e (inr h) =
    and_left (is_placed ss a) (calm_rest ss a) (and_right (eqb (box_in ss a).n (length ss)) (eqb (box_in ss a).me a) (ap (λ (b : Box). eqb b.me a) e ∙ ne_eqb s.me a h))

pub placed : (ss : List Node) (a : ℕ) (s : Box) → box_in ss a ≡ s → s.n ≡ length ss → s.me ≡ a → is_placed ss a ≡ true
placed ss a s e p q =
    and_from (eqb (box_in ss a).n (length ss)) (eqb (box_in ss a).me a) (ap (λ (b : Box). eqb b.n (length ss)) e ∙ eq-eqb s.n (length ss) p) (ap (λ (b : Box). eqb b.me a) e ∙ eq-eqb s.me a q)

pub calm_owes : (ss : List Node) (a : ℕ) (s : Box) → box_in ss a ≡ s → must_say s ≡ true → calm_at ss a ≡ false
calm_owes ss a s e h =
    and_right (is_placed ss a) (calm_rest ss a)
    (and_left (not (must_say (box_in ss a))) (all_below (length ss) (λ e. agrees_with (length ss) (box_in ss a) a (box_in ss e) e)) (not_from_true (must_say (box_in ss a)) (ap must_say e ∙ h)))

-- a box at its place that owes nothing is calm just where it agrees with every box
pub calm_when : (ss : List Node) (a : ℕ) (s : Box) → box_in ss a ≡ s → is_placed ss a ≡ true → must_say s ≡ false → calm_at ss a ≡ all_below (length ss) (λ e. agrees_with (length ss) (box_in ss a) a (box_in ss e) e)
calm_when ss a s e place h =
    ap (λ b. b && calm_rest ss a) place
    ∙ ap (λ b. not b && all_below (length ss) (λ e. agrees_with (length ss) (box_in ss a) a (box_in ss e) e)) (ap must_say e ∙ h)

not_not : (b : Bool) → b ≡ not (not b)
not_not true = refl
not_not false = refl

-- what box a has said is so, by its own count of boxes and its own number
own_is : (b : Box) (n a : ℕ) → b.n ≡ n → b.me ≡ a → all_below n (λ x. eqb ((b.word a).road x) (b.cost x) && (eqb (b.cost x) 0 || ltb 0 (b.word a).number)) ≡ not (must_say b)
own_is b n a p q =
    (λ k. all_below (sym p k) (λ x. eqb ((b.word (sym q k)).road x) (b.cost x) && (eqb (b.cost x) 0 || ltb 0 (b.word (sym q k)).number))) ∙ not_not (own_so b)

-- boxes at their places: the test of rest asks just what is asked of each box
pub rest_is : (ss : List Node) → Numbered ss → at_rest (world_of ss) ≡ all_below (length ss) (calm_at ss)
rest_is ss h =
    all_same (length ss) (λ a. own_true a (world_of ss) && all_below (length ss) (λ e. agrees_with (length ss) (box_in ss a) a (box_in ss e) e)) (calm_at ss)
    (λ a l.
    ap (λ b. b && all_below (length ss) (λ e. agrees_with (length ss) (box_in ss a) a (box_in ss e) e)) (own_is (box_in ss a) (length ss) a (h a l).0 (h a l).1)
    ∙ ap (λ b. b && calm_rest ss a) (sym (and_from (eqb (box_in ss a).n (length ss)) (eqb (box_in ss a).me a) (eq-eqb (box_in ss a).n (length ss) (h a l).0) (eq-eqb (box_in ss a).me a (h a l).1))))

-- where every box is calm, each is at its place
pub numbered : (ss : List Node) → all_below (length ss) (calm_at ss) ≡ true → Numbered ss
numbered ss all a l =
    let calm : calm_at ss a ≡ true = all_at (length ss) a (calm_at ss) l all in
    let place : is_placed ss a ≡ true = (and_parts (is_placed ss a) (calm_rest ss a) calm).0 in
    let both = and_parts (eqb (box_in ss a).n (length ss)) (eqb (box_in ss a).me a) place in
    (eqb-true (box_in ss a).n (length ss) both.0, eqb-true (box_in ss a).me a both.1)

pub rest_sound : (ss : List Node) → all_below (length ss) (calm_at ss) ≡ true → Numbered ss × Rest (world_of ss)
rest_sound ss all = let num = numbered ss all in (num, (rest_test_lem (world_of ss)).0 (true_t (at_rest (world_of ss)) (rest_is ss num ∙ all)))

pub rest_complete : (ss : List Node) → Numbered ss → Rest (world_of ss) → all_below (length ss) (calm_at ss) ≡ true
rest_complete ss num rest = sym (rest_is ss num) ∙ t_true (at_rest (world_of ss)) ((rest_test_lem (world_of ss)).1 rest)

-- a box agrees with each to which it holds no road open
pub closed_agrees : (n : ℕ) (x : Box) (a : ℕ) (y : Box) (e : ℕ) → is_open e x ≡ false → agrees_with n x a y e ≡ true
closed_agrees n x a y e h = ap (λ (p : Bool). (not p || is_open a y) && (not (p && is_open a y) || alike_below n x y)) h

-- and with another where that holds the road back open and has the same words
open_agrees : (n : ℕ) (x : Box) (a : ℕ) (y : Box) (e : ℕ) → is_open e x ≡ true → agrees_with n x a y e ≡ (is_open a y && alike_below n x y)
open_agrees n x a y e h = ap (λ (p : Bool). (not p || is_open a y) && (not (p && is_open a y) || alike_below n x y)) h ∙ go (is_open a y)
  where
    go : (q : Bool) → (q && (not q || alike_below n x y)) ≡ (q && alike_below n x y)
    go true = refl
    go false = refl

pub both_agree : (n : ℕ) (x : Box) (a : ℕ) (y : Box) (e : ℕ) → is_open e x ≡ true → is_open a y ≡ true → agrees_with n x a y e ≡ alike_below n x y
both_agree n x a y e h k = open_agrees n x a y e h ∙ ap (λ (q : Bool). q && alike_below n x y) k

pub one_disagrees : (n : ℕ) (x : Box) (a : ℕ) (y : Box) (e : ℕ) → is_open e x ≡ true → is_open a y ≡ false → agrees_with n x a y e ≡ false
one_disagrees n x a y e h k = open_agrees n x a y e h ∙ ap (λ (q : Bool). q && alike_below n x y) k
