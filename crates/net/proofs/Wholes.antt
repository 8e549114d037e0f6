-- The whole boxes that running boxes stand for, when one of them is read or becomes another.
use Rattle.std.proofs.Common.{◌≡◌, ℕ, zero, suc, ◌+◌, ◌^◌, ◌<◌, ◌≤◌, List, [], ◌∷◌, length, Some, get_or, set, slice_get, sym, refl, ap, ◌∙◌, subst, arith, length-set}
use Rattle.std.proofs.lemmas.Option.{get_or_from_slice_get, slice_get-get_or}
use Rattle.model.specs.Flood.{row}
use Rattle.linkmodel.proofs.Wires.{at_row}
use Rattle.linkmodel.specs.Station.{Station as Whole}
use Rattle.netmodel.specs.Net.{Move}
use Rattle.netbytes.specs.Playing.{PlaysAt, Posts}
use Rattle.netbytes.proofs.Moved.{row_self}
use Rattle.netbytes.proofs.Played.{plays_as, plays_later}
use Rattle.node.specs.State.{whole_of}
use Rattle.node.specs.declared.state.Node.{Node}
use Rattle.ground.specs.Wires.{SameWires, drawn_of, laid_of, next_number, plug_at}
use Rattle.ground.specs.declared.state.Ground.{Ground}
use Rattle.net.specs.Plays.{Becomes, Plays, whole_at}

-- the box at a place
pub whole_get : (ss : List Node) (a : ℕ) (d : Node) → a < length ss → whole_at ss a ≡ whole_of (get_or ss a d)
unfolding whole_at
whole_get [] a d l = absurd (omega arith)
whole_get (s ∷ ss) zero d l = refl
whole_get (s ∷ ss) (suc a) d l = whole_get ss a d (omega arith)

pub whole_got : (ss : List Node) (a place : ℕ) (d : Node) → place ≡ a → a < length ss → whole_of (get_or ss place d) ≡ whole_at ss a
whole_got ss a place d e l = ap (λ (z : ℕ). whole_of (get_or ss z d)) e ∙ sym (whole_get ss a d l)

pub whole_it : (ss : List Node) (a place : ℕ) (s : Node) → place ≡ a → a < length ss → s ≡ get_or ss place s → whole_of s ≡ whole_at ss a
whole_it ss a place s e l r = ap (λ (z : Node). whole_of z) r ∙ whole_got ss a place s e l

pub whole_read : (ss : List Node) (a : ℕ) (s : Node) → a < length ss → slice_get ss a ≡ Some s → whole_of s ≡ whole_at ss a
whole_read ss a s l e = sym (whole_get ss a s l ∙ ap whole_of (get_or_from_slice_get ss a s s e))

-- one of them becomes another
set_here : (ss : List Node) (a : ℕ) (s : Node) → a < length ss → whole_at (set ss a s) a ≡ whole_of s
unfolding whole_at
set_here [] a s l = absurd (omega arith)
set_here (r ∷ ss) zero s l = refl
set_here (r ∷ ss) (suc a) s l = set_here ss a s (omega arith)

set_else : (ss : List Node) (a b : ℕ) (s : Node) → (b ≡ a → ⊥) → whole_at (set ss a s) b ≡ whole_at ss b
unfolding whole_at
set_else [] a b s h = refl
set_else (r ∷ ss) zero zero s h = absurd (h refl)
set_else (r ∷ ss) zero (suc b) s h = refl
set_else (r ∷ ss) (suc a) zero s h = refl
set_else (r ∷ ss) (suc a) (suc b) s h = set_else ss a b s (λ e. h (ap suc e))

whole_set : (ss : List Node) (a : ℕ) (s : Node) (b : ℕ) → a < length ss → whole_at (set ss a s) b ≡ row a (whole_of s) (whole_at ss) b
whole_set ss a s b l = at_row (λ (z : Whole). whole_at (set ss a s) b ≡ z) a (whole_of s) (whole_at ss) b (λ e. ap (whole_at (set ss a s)) e ∙ set_here ss a s l) (λ h. set_else ss a b s h)

-- a box that was read at a place, and is written there
pub becomes_at : (a place : ℕ) (ss : List Node) (d after : Node) → place ≡ a → a < length ss → Becomes a ss (set ss place after) (get_or ss place d) after
becomes_at a place ss d after e l = record {
  was = subst (λ (z : ℕ). slice_get ss z ≡ Some (get_or ss place d)) e (slice_get-get_or ss place d (omega arith));
  is = ap (λ (z : ℕ). set ss z after) e;
}

-- the box at a place that became another
pub was_whole : (a : ℕ) (old new : List Node) (before after : Node) → a < length old → Becomes a old new before after → whole_of before ≡ whole_at old a
was_whole a old new before after l k = whole_read old a before l k.was

pub long_as : (a : ℕ) (old new : List Node) (before after : Node) → Becomes a old new before after → length new ≡ length old
long_as a old new before after k = ap length k.is ∙ length-set old a after

pub whole_as : (a : ℕ) (old new : List Node) (before after : Node) → a < length old → Becomes a old new before after → (b : ℕ) → whole_at new b ≡ row a (whole_of after) (whole_at old) b
whole_as a old new before after l k b = ap (λ (ss : List Node). whole_at ss b) k.is ∙ whole_set old a after b l

-- the next number, while there is one
pub next_is : (d : ℕ) → d + 1 < 2 ^ 64 → next_number d ≡ d + 1
next_is d l = omega arith

-- what leads to boxes of which one became another, on the same wires
pub over : (first : ℕ → ℕ) (ms : List Move) (a : ℕ) (old new : List Node) (g h : Ground) (before after : Node) (d : ℕ) → a < length old → Becomes a old new before after → SameWires g h → drawn_of h ≡ d →
    PlaysAt (length old) first ms (row a (whole_of after) (whole_at old)) (plug_at g) (laid_of g) d → Plays first ms new h
over first ms a old new g h before after d l k w e p =
    plays_as (length new) first ms (row a (whole_of after) (whole_at old)) (whole_at new) (plug_at g) (plug_at h) (laid_of g) (laid_of h) d (drawn_of h)
    (subst (λ (n : ℕ). PlaysAt n first ms (row a (whole_of after) (whole_at old)) (plug_at g) (laid_of g) d) (sym (long_as a old new before after k)) p)
    (λ b _. whole_as a old new before after l k b) w.joined w.laid e

-- and what it sent
pub sent_over : (first : ℕ → ℕ) (m : Move) (ms : List Move) (b : ℕ) (a : ℕ) (old new : List Node) (before after : Node) (given : List ℕ) → Becomes a old new before after → Posts (length old) first m ms b given → Posts (length new) first m ms b given
sent_over first m ms b a old new before after given k p = subst (λ (n : ℕ). Posts n first m ms b given) (sym (long_as a old new before after k)) p

-- wires that nobody touched
pub same_wires : (g : Ground) → SameWires g g
same_wires g = record { joined = λ a w. refl; losing = λ a w. refl; laid = refl }

-- a box that became one that stands for the same leaves the run where it is
pub stays_so : (first : ℕ → ℕ) (ms : List Move) (a : ℕ) (old new : List Node) (g h : Ground) (before after : Node) → a < length old → Becomes a old new before after → whole_of after ≡ whole_of before → SameWires g h → drawn_of g ≤ drawn_of h → Plays first ms old g → Plays first ms new h
stays_so first ms a old new g h before after l k e w d p =
    plays_as (length new) first ms (whole_at old) (whole_at new) (plug_at g) (plug_at h) (laid_of g) (laid_of h) (drawn_of h) (drawn_of h)
    (subst (λ (n : ℕ). PlaysAt n first ms (whole_at old) (plug_at g) (laid_of g) (drawn_of h)) (sym (long_as a old new before after k)) (plays_later (length old) first ms (whole_at old) (plug_at g) (laid_of g) (drawn_of g) (drawn_of h) d p))
    (λ b _. whole_as a old new before after l k b ∙ (ap (λ (s : Whole). row a s (whole_at old) b) (e ∙ was_whole a old new before after l k) ∙ sym (row_self a (whole_at old) b))) w.joined w.laid refl
