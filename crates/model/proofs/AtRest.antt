-- At rest each router's map has, of all that can be reached from it, just the real roads. That the same number and tag are the same words is taken as an argument.
use Rattle.std.proofs.Common.{◌≡◌, ℕ, ◌<◌, Bool, true, false, cond, T, ltb, ◌⊎◌, List, sym, refl, ap, ◌∙◌, subst, ap₂, inl, inr, arith}
use Rattle.std.proofs.lemmas.Bool.{ltb-true, ltb-false, lt-ltb}
use Rattle.model.specs.Map.{far, hop}
use Rattle.model.specs.Words.{World, Ev, world}
use Rattle.model.specs.Forward.{map_of, real_map}
use Rattle.model.specs.Promise.{SameWords, Rest, MapTrue}
use Rattle.model.specs.Ways.{Agree}
use Rattle.model.specs.Hops.{HopsTrue}
use Rattle.model.proofs.Sizes.{world_n}
use Rattle.model.proofs.Reach.{reached, reach_self, reach_all, reach_on}
use Rattle.model.proofs.Closed.{far_same, hop_same}

-- in one state, the same number and tag are the same words
abbrev pub SameIn : World → Type 0
SameIn w =
    (a e i : ℕ) → 0 < (w.knows a i).number → (w.knows a i).number ≡ (w.knows e i).number → (w.knows a i).tag ≡ (w.knows e i).tag →
    (x : ℕ) → (w.knows a i).road x ≡ (w.knows e i).road x

-- a road that counts is held open by both its ends, and costs what its beginning says
pub open_road : (x y : ℕ) → 0 < cond (ltb 0 x) y 0 → (0 < x) × (0 < y) × (cond (ltb 0 x) y 0 ≡ y)
open_road x y h = go (ltb 0 x) refl h
  where
    go : (b : Bool) → ltb 0 x ≡ b → 0 < cond b y 0 → (0 < x) × (0 < y) × (cond b y 0 ≡ y)
    go true i p = (ltb-true 0 x i, p, refl)
    go false i p = absurd (omega arith)

-- a and u know the same of all, and u has said what it is or is a
record Alike (w : World) (a u : ℕ) : Type 0 where
  number : (i : ℕ) → i < w.n → (w.knows a i).number ≡ (w.knows u i).number
  tag : (i : ℕ) → i < w.n → (w.knows a i).tag ≡ (w.knows u i).tag
  said : (a ≡ u) ⊎ (0 < (w.knows u u).number)

alike_self : (w : World) (a : ℕ) → Alike w a a
alike_self w a = record { number = λ i l. refl; tag = λ i l. refl; said = inl refl }

-- kept over a road that counts
alike_on : (w : World) → Rest w → (a u e : ℕ) → u < w.n → e < w.n → 0 < (real_map w).cost u e → Alike w a u → Alike w a e
alike_on w r a u e l m p k =
    let o = open_road (w.real e u) (w.real u e) p in
    record {
      number = λ i h. k.number i h ∙ (r.alike u e i l m h o.1 o.0).0;
      tag = λ i h. k.tag i h ∙ (r.alike u e i l m h o.1 o.0).1;
      said = inr (r.said e u m l o.0 o.1);
    }

alike_all : (w : World) → Rest w → (a u : ℕ) → a < w.n → T (reached (real_map w) a u) → Alike w a u
alike_all w r a u l t = reach_all (real_map w) (Alike w a) (λ u e m o p k. alike_on w r a u e m o p k) a u l t (alike_self w a)

-- what a has of u is so
knows_true : (w : World) → SameIn w → Rest w → (a u x : ℕ) → a < w.n → u < w.n → x < w.n → T (reached (real_map w) a u) → (w.knows a u).road x ≡ w.real u x
knows_true w same r a u x l m o t = go (alike_all w r a u l t).said
  where
    go : (a ≡ u) ⊎ (0 < (w.knows u u).number) → (w.knows a u).road x ≡ w.real u x
    go (inl e) = ap (λ (b : ℕ). (w.knows b u).road x) e ∙ r.own u x m o
    go (inr p) =
        let k : Alike w a u = alike_all w r a u l t in
        let q : 0 < (w.knows a u).number = omega (arith, k.number u m, p) in
        same a u u q (k.number u m) (k.tag u m) x ∙ r.own u x m o

-- no road either way
none_none : (b c : Bool) (x y : ℕ) → x ≡ 0 → y ≡ 0 → cond b x 0 ≡ cond c y 0
none_none true true x y p q = p ∙ sym q
none_none true false x y p q = p
none_none false true x y p q = sym q
none_none false false x y p q = refl

-- so its roads from u are the real ones
cost_true : (w : World) → SameIn w → Rest w → (a u e : ℕ) → a < w.n → u < w.n → e < w.n → T (reached (real_map w) a u) → (map_of w a).cost u e ≡ (real_map w).cost u e
cost_true w same r a u e l m o t = go (ltb 0 (w.real u e)) refl
  where
    here : (w.knows a u).road e ≡ w.real u e
    here = knows_true w same r a u e l m o t

    go : (b : Bool) → ltb 0 (w.real u e) ≡ b → (map_of w a).cost u e ≡ (real_map w).cost u e
    go true i =
        let p : 0 < w.real u e = ltb-true 0 (w.real u e) i in
        let q : 0 < w.real e u = r.even u e m o p in
        let c : (real_map w).cost u e ≡ w.real u e = ap (λ (b : Bool). cond b (w.real u e) 0) (lt-ltb 0 (w.real e u) q) in
        let s : T (reached (real_map w) a e) = reach_on (real_map w) a u e l o t (subst (λ (x : ℕ). 0 < x) (sym c) p) in
        let there : (w.knows a e).road u ≡ w.real e u = knows_true w same r a e u l o m s in
        ap₂ (λ (x y : ℕ). cond (ltb 0 x) y 0) there here
    go false i =
        let z : w.real u e ≡ 0 = omega (arith, ltb-false 0 (w.real u e) i) in
        none_none (ltb 0 ((w.knows a e).road u)) (ltb 0 (w.real e u)) ((w.knows a u).road e) (w.real u e) (here ∙ z) z

-- and the two maps agree on what can be reached
rest_agree : (w : World) → SameIn w → Rest w → (a : ℕ) → a < w.n → Agree (map_of w a) (real_map w) (reached (real_map w) a)
rest_agree w same r a l = record {
  size = refl;
  same = λ u e t m o. cost_true w same r a u e l m o t;
  closed = λ u e t m o p. reach_on (real_map w) a u e l o t p;
}

pub hops_in : (w : World) → SameIn w → Rest w → (a d u : ℕ) → a < w.n → u < w.n → T (reached (real_map w) a u) →
    (hop (map_of w a) d u ≡ hop (real_map w) d u) × (far (map_of w a) d u ≡ far (real_map w) d u)
hops_in w same r a d u l m t =
    let g = rest_agree w same r a l in
    (hop_same (map_of w a) (real_map w) (reached (real_map w) a) g d u t m, far_same (map_of w a) (real_map w) (reached (real_map w) a) g d u t m)

-- a place of the world
pub inside : (n : ℕ) (es : List Ev) (a : ℕ) → a < n → a < (world n es).n
inside n es a l = omega (arith, world_n n es)

pub same_in : SameWords → (n : ℕ) (es : List Ev) → SameIn (world n es)
same_in same n es = λ a e i. same n es a e i

pub hops_true_lem : SameWords → HopsTrue
hops_true_lem same n es r a d u l m o t = hops_in (world n es) (same_in same n es) r a d u (inside n es a l) (inside n es u o) (subst T (sym t) tt)

pub map_true_lem : SameWords → MapTrue
map_true_lem same n es r a d l m = (hops_in (world n es) (same_in same n es) r a d a (inside n es a l) (inside n es a l) (reach_self (real_map (world n es)) a)).1
