-- What is so of every item anywhere: had now, had once, or on its way. Acts copy items about, and only a box that speaks makes one.
use Rattle.std.proofs.Common.{ℕ, zero, suc, Bool, eqb, List, [], ◌∷◌, sym, subst}
use Rattle.model.specs.Flood.{Item, Copy, Setup, Net, unspoken, puts, recall, net}
use Rattle.model.specs.Spread.{copy_is}
use Rattle.model.proofs.Tests.{of_cond}
use Rattle.model.proofs.Acts.{turned, telling, back}
use Rattle.model.proofs.Tables.{of_at2}

-- so of each of a list
unfoldable pub Each : {A : Type 0} → (A → Type 0) → List A → Type 0
Each G [] = Unit {0}
Each G (x ∷ xs) = G x × Each G xs

pub each_more : {A : Type 0} (G H : A → Type 0) → ((x : A) → G x → H x) → (xs : List A) → Each G xs → Each H xs
unfolding Each
each_more G H f [] h = tt
each_more G H f (x ∷ xs) h = (f x h.0, each_more G H f xs h.1)

-- G i x is so of every item x of subject i
pub record Kept {P : Type 0} (G : ℕ → Item P → Type 0) (w : Net P) : Type 0 where
  pub holds : (a i : ℕ) → G i (w.holds a i)
  pub had : (a i : ℕ) → Each (G i) (w.had a i)
  pub flight : (k : ℕ) (x : Copy P) → copy_is k x w.flight → G x.about x.item

pub kept_more : {P : Type 0} (G H : ℕ → Item P → Type 0) (w : Net P) → ((i : ℕ) (x : Item P) → G i x → H i x) → Kept G w → Kept H w
kept_more G H w f k = record {
  holds = λ a i. f i (w.holds a i) (k.holds a i);
  had = λ a i. each_more (G i) (H i) (f i) (w.had a i) (k.had a i);
  flight = λ m x h. f x.about x.item (k.flight m x h);
}

pub kept_turn : {P : Type 0} (G : ℕ → Item P → Type 0) (w : Net P) (a : ℕ) (l sp : ℕ → Bool) (p : ℕ → P) → Kept G w → Kept G (turned a l sp p w)
kept_turn G w a l sp p k = record { holds = k.holds; had = k.had; flight = k.flight }

pub kept_put : {P : Type 0} (G : ℕ → Item P → Type 0) (w : Net P) (a i : ℕ) (x : Item P) (ts : List ℕ) → G i x → Kept G w → Kept G (puts a i x ts w)
unfolding Each
kept_put G w a i x ts g k = record {
  holds = of_at2 (λ _. G) w.holds a i x g k.holds;
  had = of_at2 (λ _ j. Each (G j)) w.had a i (x ∷ w.had a i) (g, k.had a i) k.had;
  flight = k.flight;
}

pub kept_tell : {P : Type 0} (G : ℕ → Item P → Type 0) (w : Net P) (a e i : ℕ) → Kept G w → Kept G (telling a e i w)
unfolding copy_is
kept_tell {P} G w a e i k = record { holds = k.holds; had = k.had; flight = go }
  where
    go : (m : ℕ) (x : Copy P) → copy_is m x (telling a e i w).flight → G x.about x.item
    go zero x h = let F : Copy P → Type 0 = λ y. G y.about y.item in subst F (sym h) (k.holds a i)
    go (suc m) x h = k.flight m x h

-- what is recalled is one of those, or nothing
of_recall : {A : Type 0} (G : A → Type 0) (z : A) (k : ℕ) (xs : List A) → G z → Each G xs → G (recall z k xs)
unfolding recall Each
of_recall G z k [] g h = g
of_recall G z zero (x ∷ xs) g h = g
of_recall G z (suc k) (x ∷ xs) g h = of_cond G (eqb k 0) x (recall z k xs) (λ _. h.0) (λ _. of_recall G z k xs g h.1)

pub kept_back : {P : Type 0} (G : ℕ → Item P → Type 0) (s : Setup P) (w : Net P) (a : ℕ) (to : ℕ → ℕ) → ((i : ℕ) → G i (unspoken s)) → Kept G w → Kept G (back s a to w)
kept_back {P} G s w a to g k = record {
  holds = λ b i. of_cond (λ (r : ℕ → Item P). G i (r i)) (eqb b a) (λ j. recall (unspoken s) (to j) (w.had a j)) (w.holds b)
      (λ _. of_recall (G i) (unspoken s) (to i) (w.had a i) (g i) (k.had a i)) (λ _. k.holds b i);
  had = k.had;
  flight = k.flight;
}

-- at the beginning nothing was said
pub kept_start : {P : Type 0} (G : ℕ → Item P → Type 0) (s : Setup P) → ((i : ℕ) → G i (unspoken s)) → Kept G (net s [])
unfolding net Each copy_is
kept_start G s g = record { holds = λ a i. g i; had = λ a i. tt; flight = λ k x h. absurd h }
