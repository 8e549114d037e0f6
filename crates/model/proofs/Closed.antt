-- Two maps that agree on a part which no road leaves have the same distances, next places, trails and ways there.
use Rattle.std.proofs.Common.{◌≡◌, ℕ, zero, suc, ◌+◌, ◌<◌, ◌≤◌, Bool, true, false, cond, ◌&&◌, T, eqb, ltb, List, [], ◌∷◌, sym, refl, ap, ◌∙◌, ap₂, le_refl, arith, ltb→lt}
use borrow.Author.Tests.{clash}
use Rattle.model.specs.Map.{Map, Far, plus, lower, lowest, home, within, far, Hop, Nowhere, To, hop, first_of, has_way, same_far}
use Rattle.model.specs.Promise.{is_way, cost_of}
use Rattle.model.specs.Ways.{trail_on, trail, Agree, AgreeOnClosed}
use Rattle.model.proofs.Shortest.{way_out}
use Rattle.model.proofs.Hopping.{on_least}

-- a road before what is the same where there is a road
pub plus_same : (c : ℕ) (f g : Far) → (0 < c → f ≡ g) → plus c f ≡ plus c g
plus_same zero f g h = refl
plus_same (suc c) f g h = ap (λ (x : Far). plus (suc c) x) (h (omega arith))

-- a next place is one over a road
pub first_to : (z : Map) (d a e k v : ℕ) → first_of z d a e k ≡ To v → (v < e + k) × (on_least z d a v ≡ true)
unfolding first_of
first_to z d a e zero v h = let q : ◌≡◌ {A = ℕ} 0 1 = cc in absurd (omega arith)
first_to z d a e (suc k) v h = go (on_least z d a e) refl h (first_to z d a (e + 1) k v)
  where
    go : (b : Bool) → on_least z d a e ≡ b → cond b (To e) (first_of z d a (e + 1) k) ≡ To v → (first_of z d a (e + 1) k ≡ To v → (v < e + 1 + k) × (on_least z d a v ≡ true)) → (v < e + suc k) × (on_least z d a v ≡ true)
    go true i q r = let ev : e ≡ v = cc in (omega arith, ap (λ (x : ℕ). on_least z d a x) (sym ev) ∙ i)
    go false i q r = let s = r q in (omega (arith, s.0), s.1)

-- and the test passes only over a road
least_road : (c : ℕ) (f g : Far) → (has_way (plus c f) && same_far (plus c f) g) ≡ true → 0 < c
least_road zero f g h = absurd (clash h)
least_road (suc c) f g h = omega arith

pub hop_to : (z : Map) (d a v : ℕ) → hop z d a ≡ To v → (v < z.n) × (0 < z.cost a v)
hop_to z d a v h = go (eqb a d) h
  where
    go : (b : Bool) → cond b Nowhere (first_of z d a 0 z.n) ≡ To v → (v < z.n) × (0 < z.cost a v)
    go true q = let x : ◌≡◌ {A = ℕ} 0 1 = cc in absurd (omega arith)
    go false q = let s = first_to z d a 0 z.n v q in (omega (arith, s.0), least_road (z.cost a v) (far z d v) (far z d a) s.1)

-- three tests, each the same where those before pass
pub tests_same : (p p' q q' r r' : Bool) → p ≡ p' → (T p' → q ≡ q') → (T p' → T q' → r ≡ r') → (p && q && r) ≡ (p' && q' && r')
tests_same p true q true r r' a b c = ap₂ (λ (x y : Bool). x && y) (ap₂ (λ (x y : Bool). x && y) a (b tt)) (c tt tt)
tests_same p true q false r r' a b c = ap (λ (x : Bool). x && r) (ap₂ (λ (x y : Bool). x && y) a (b tt))
tests_same p false q q' r r' a b c = ap (λ (x : Bool). x && q && r) a

module _ (y z : Map) (part : ℕ → Bool) (g : Agree y z part) where
  -- a road before what is the same in the part
  road_same : (a e : ℕ) (f f' : Far) → T (part a) → a < z.n → e < z.n → (T (part e) → f ≡ f') → plus (y.cost a e) f ≡ plus (z.cost a e) f'
  road_same a e f f' t l m h = ap (λ (c : ℕ). plus c f) (g.same a e t l m) ∙ plus_same (z.cost a e) f f' (λ p. h (g.closed a e t l m p))

  lowest_same : (f f' : ℕ → Far) → ((e : ℕ) → T (part e) → e < z.n → f e ≡ f' e) → (a k : ℕ) → T (part a) → a < z.n → k ≤ z.n → lowest y f a k ≡ lowest z f' a k
  unfolding lowest
  lowest_same f f' h a zero t l m = refl
  lowest_same f f' h a (suc k) t l m = ap₂ lower (lowest_same f f' h a k t l (omega arith)) (road_same a k (f k) (f' k) t l m (λ s. h k s m))

  pub within_same : (k d a : ℕ) → T (part a) → a < z.n → within k y d a ≡ within k z d a
  unfolding within
  within_same zero d a t l = refl
  within_same (suc k) d a t l =
      ap (λ (f : Far). lower (home d a) f)
      (ap (λ (i : ℕ). lowest y (λ e. within k y d e) a i) g.size ∙ lowest_same (λ e. within k y d e) (λ e. within k z d e) (λ e s m. within_same k d e s m) a z.n t l (le_refl z.n))

  pub far_same : (d a : ℕ) → T (part a) → a < z.n → far y d a ≡ far z d a
  far_same d a t l = ap (λ (i : ℕ). within i y d a) g.size ∙ within_same z.n d a t l

  least_alike : (d a e : ℕ) → T (part a) → a < z.n → e < z.n → on_least y d a e ≡ on_least z d a e
  least_alike d a e t l m =
      let p : plus (y.cost a e) (far y d e) ≡ plus (z.cost a e) (far z d e) = road_same a e (far y d e) (far z d e) t l m (λ s. far_same d e s m) in
      ap₂ (λ (u v : Far). has_way u && same_far u v) p (far_same d a t l)

  first_same : (d a e k : ℕ) → T (part a) → a < z.n → e + k ≤ z.n → first_of y d a e k ≡ first_of z d a e k
  unfolding first_of
  first_same d a e zero t l m = refl
  first_same d a e (suc k) t l m = ap₂ (λ (b : Bool) (h : Hop). cond b (To e) h) (least_alike d a e t l (omega arith)) (first_same d a (e + 1) k t l (omega arith))

  pub hop_same : (d a : ℕ) → T (part a) → a < z.n → hop y d a ≡ hop z d a
  hop_same d a t l = ap (λ (h : Hop). cond (eqb a d) Nowhere h) (ap (λ (i : ℕ). first_of y d a 0 i) g.size ∙ first_same d a 0 z.n t l (omega arith))

  -- the next place is in the part
  pub hop_part : (d a v : ℕ) → T (part a) → a < z.n → hop z d a ≡ To v → (v < z.n) × T (part v)
  hop_part d a v t l h = let s = hop_to z d a v h in (s.0, g.closed a v t l s.0 s.1)

  pub trail_same : (k d a : ℕ) → T (part a) → a < z.n → trail k (hop y d) d a ≡ trail k (hop z d) d a
  unfolding trail
  trail_same zero d a t l = refl
  trail_same (suc k) d a t l =
      ap (λ (ws : List ℕ). cond (eqb a d) [] ws)
      (ap (λ (h : Hop). trail_on (λ e. trail k (hop y d) d e) h) (hop_same d a t l) ∙ go (hop z d a) refl (λ v s m. trail_same k d v s m))
    where
      go : (h : Hop) → hop z d a ≡ h → ((v : ℕ) → T (part v) → v < z.n → trail k (hop y d) d v ≡ trail k (hop z d) d v) → trail_on (λ e. trail k (hop y d) d e) h ≡ trail_on (λ e. trail k (hop z d) d e) h
      go Nowhere e r = refl
      go (To v) e r = let s = hop_part d a v t l e in ap (λ (ws : List ℕ). v ∷ ws) (r v s.1 s.0)

  pub way_same : (a : ℕ) (ws : List ℕ) → T (part a) → a < z.n → is_way y a ws ≡ is_way z a ws
  unfolding is_way
  way_same a [] t l = refl
  way_same a (x ∷ xs) t l =
      tests_same (ltb x y.n) (ltb x z.n) (ltb 0 (y.cost a x)) (ltb 0 (z.cost a x)) (is_way y x xs) (is_way z x xs) (ap (λ (i : ℕ). ltb x i) g.size)
      (λ m. ap (λ (c : ℕ). ltb 0 c) (g.same a x t l (ltb→lt x z.n m)))
      (λ m p. way_same x xs (g.closed a x t l (ltb→lt x z.n m) (ltb→lt 0 (z.cost a x) p)) (ltb→lt x z.n m))

  pub cost_same : (a : ℕ) (ws : List ℕ) → T (part a) → a < z.n → T (is_way z a ws) → cost_of y a ws ≡ cost_of z a ws
  unfolding cost_of
  cost_same a [] t l w = refl
  cost_same a (x ∷ xs) t l w =
      let s = way_out z a x xs w in
      ap₂ (λ (i j : ℕ). i + j) (g.same a x t l s.0) (cost_same x xs (g.closed a x t l s.0 s.1) s.0 s.2)

pub agree_on_closed_lem : AgreeOnClosed
agree_on_closed_lem y z part g a d t l m =
    (far_same y z part g d a t l, hop_same y z part g d a t l, λ k. trail_same y z part g k d a t l, λ ws. way_same y z part g a ws t l, λ ws w. cost_same y z part g a ws t l w)
