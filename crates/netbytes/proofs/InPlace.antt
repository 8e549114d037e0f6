-- The boxes of a list in their places: what is read at one, and what a change of one box changes.
use Rattle.std.proofs.Common.{◌≡◌, ℕ, zero, suc, ◌<◌, ◌≤◌, List, [], ◌∷◌, length, get_or, set, refl, ap, arith}
use Rattle.linkmodel.specs.Station.{station}
use Rattle.node.specs.State.{whole_of}
use Rattle.node.specs.declared.state.Node.{Node}
use Rattle.netbytes.specs.Places.{errors_at, whole_at}

-- the box that was read at a place
pub whole_read : (bs : List Node) (a : ℕ) (d : Node) → a < length bs → whole_at bs a ≡ whole_of (get_or bs a d)
unfolding whole_at
whole_read [] a d l = absurd (omega arith)
whole_read (b ∷ bs) zero d l = refl
whole_read (b ∷ bs) (suc a) d l = whole_read bs a d (omega arith)

pub errors_read : (bs : List Node) (a : ℕ) (d : Node) → a < length bs → errors_at bs a ≡ (get_or bs a d).quota
unfolding errors_at
errors_read [] a d l = absurd (omega arith)
errors_read (b ∷ bs) zero d l = refl
errors_read (b ∷ bs) (suc a) d l = errors_read bs a d (omega arith)

-- past the end is a box without wires
pub whole_past : (bs : List Node) (a : ℕ) → length bs ≤ a → whole_at bs a ≡ station 0 0 0
unfolding whole_at
whole_past [] a l = refl
whole_past (b ∷ bs) zero l = absurd (omega arith)
whole_past (b ∷ bs) (suc a) l = whole_past bs a (omega arith)

-- where a box is put that is the same whole box, no whole box changes
pub whole_put : (bs : List Node) (i : ℕ) (b : Node) (a : ℕ) → whole_of b ≡ whole_at bs i → whole_at (set bs i b) a ≡ whole_at bs a
unfolding whole_at
whole_put [] i b a h = refl
whole_put (x ∷ xs) zero b zero h = h
whole_put (x ∷ xs) zero b (suc a) h = refl
whole_put (x ∷ xs) (suc i) b zero h = refl
whole_put (x ∷ xs) (suc i) b (suc a) h = whole_put xs i b a h

-- and no count of errors, where it made as many
pub errors_put : (bs : List Node) (i : ℕ) (b : Node) (a : ℕ) → b.quota ≡ errors_at bs i → errors_at (set bs i b) a ≡ errors_at bs a
unfolding errors_at
errors_put [] i b a h = refl
errors_put (x ∷ xs) zero b zero h = h
errors_put (x ∷ xs) zero b (suc a) h = refl
errors_put (x ∷ xs) (suc i) b zero h = refl
errors_put (x ∷ xs) (suc i) b (suc a) h = errors_put xs i b a h

-- but for its own place
pub errors_other : (bs : List Node) (i : ℕ) (b : Node) (a : ℕ) → (a ≡ i → ⊥) → errors_at (set bs i b) a ≡ errors_at bs a
unfolding errors_at
errors_other [] i b a h = refl
errors_other (x ∷ xs) zero b zero h = absurd (h refl)
errors_other (x ∷ xs) zero b (suc a) h = refl
errors_other (x ∷ xs) (suc i) b zero h = refl
errors_other (x ∷ xs) (suc i) b (suc a) h = errors_other xs i b a (λ e. h (ap suc e))

pub errors_own : (bs : List Node) (i : ℕ) (b : Node) → i < length bs → errors_at (set bs i b) i ≡ b.quota
unfolding errors_at
errors_own [] i b l = absurd (omega arith)
errors_own (x ∷ xs) zero b l = refl
errors_own (x ∷ xs) (suc i) b l = errors_own xs i b (omega arith)
