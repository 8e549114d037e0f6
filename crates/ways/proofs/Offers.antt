-- One more box that was offered the way over another.
-- Assumes nothing.
use Rattle.std.proofs.Common.{◌≡◌, ℕ, ◌+◌, ◌<◌, ◌≤◌, cond, ltb, List, get_or, ap, ◌∙◌, arith, below_more}
use Rattle.ways.specs.Numbers.{road_by}
use Rattle.ways.specs.Turns.{less_of, next_of, After, Same}

-- what a box is left with goes over to lists that hold the same there
after_same : (costs : List (List ℕ)) (v best first : ℕ) (g x g₁ x₁ g₂ x₂ : List ℕ) (k : ℕ) →
    After costs v best first g x g₁ x₁ k → Same g₁ x₁ g₂ x₂ k → After costs v best first g x g₂ x₂ k
after_same costs v best first g x g₁ x₁ g₂ x₂ k a s =
    record { edges = s.edges ∙ a.edges; nexts = s.nexts ∙ a.nexts; small = a.small }

same_after : (costs : List (List ℕ)) (v best first : ℕ) (g x g₁ x₁ g₂ x₂ : List ℕ) (k : ℕ) →
    Same g x g₁ x₁ k → After costs v best first g₁ x₁ g₂ x₂ k → After costs v best first g x g₂ x₂ k
same_after costs v best first g x g₁ x₁ g₂ x₂ k s a =
    record {
      edges = a.edges ∙ ap (λ (o : ℕ). cond (ltb 0 (road_by costs v k)) (less_of (best + road_by costs v k) o) o) s.edges;
      nexts =
          a.nexts ∙ ap (λ (o : ℕ). cond (ltb 0 (road_by costs v k)) (next_of (best + road_by costs v k) o first (get_or x₁ k 0)) (get_or x₁ k 0)) s.edges
          ∙ ap (λ (y : ℕ). cond (ltb 0 (road_by costs v k)) (next_of (best + road_by costs v k) (get_or g k 0) first y) y) s.nexts;
      small = a.small;
    }

same_same : (g x g₁ x₁ g₂ x₂ : List ℕ) (k : ℕ) → Same g x g₁ x₁ k → Same g₁ x₁ g₂ x₂ k → Same g x g₂ x₂ k
same_same g x g₁ x₁ g₂ x₂ k s t = record { edges = t.edges ∙ s.edges; nexts = t.nexts ∙ s.nexts }

-- the boxes below e were offered the way, the others weren't
abbrev pub Upto : List (List ℕ) → ℕ → ℕ → ℕ → List ℕ → List ℕ → List ℕ → List ℕ → ℕ → Type 0
Upto costs v best first g x g₁ x₁ e =
    ((k : ℕ) → k < e → After costs v best first g x g₁ x₁ k) × ((k : ℕ) → e ≤ k → Same g x g₁ x₁ k)

-- one box more
pub upto_more : (costs : List (List ℕ)) (v best first : ℕ) (g x g₁ x₁ g₂ x₂ : List ℕ) (e : ℕ) →
    Upto costs v best first g x g₁ x₁ e → After costs v best first g₁ x₁ g₂ x₂ e → ((k : ℕ) → (k ≡ e → ⊥) → Same g₁ x₁ g₂ x₂ k) →
    Upto costs v best first g x g₂ x₂ (e + 1)
upto_more costs v best first g x g₁ x₁ g₂ x₂ e u a s = (
  below_more (λ k. After costs v best first g x g₂ x₂ k) e
      (λ k l. after_same costs v best first g x g₁ x₁ g₂ x₂ k (u.0 k l) (s k (λ q. omega arith)))
      (same_after costs v best first g x g₁ x₁ g₂ x₂ e (u.1 e (omega arith)) a),
  λ k l. same_same g x g₁ x₁ g₂ x₂ k (u.1 k (omega arith)) (s k (λ q. omega arith)),
)
