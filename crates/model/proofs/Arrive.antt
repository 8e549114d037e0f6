-- At rest every packet that can arrive does, by a way than which none is cheaper, and is refused at once where no way leads. That the same number and tag are the same words is taken as an argument.
use Rattle.std.proofs.Common.{◌≡◌, ℕ, zero, suc, ◌+◌, ◌<◌, Bool, true, false, cond, eqb, List, sym, refl, ap, ◌∙◌, ap₂, zero-add, arith}
use Rattle.std.proofs.lemmas.Bool.{eqb-true, lt-ltb, ne_eqb}
use Rattle.model.specs.Map.{Never, At, far, Hop, Nowhere, To, hop}
use Rattle.model.specs.Words.{World, Ev, world}
use Rattle.model.specs.Forward.{map_of, real_map, Arrived, Refused, onward, travels}
use Rattle.model.specs.Promise.{SameWords, Rest}
use Rattle.model.proofs.Fars.{at_inj, never_at, plus_inv}
use Rattle.model.proofs.Rounds.{rank_below}
use Rattle.model.proofs.Settled.{far_self, rank, rank_on}
use Rattle.model.proofs.Hopping.{hop_pick, hop_never}
use Rattle.model.proofs.Reach.{reach_self}
use Rattle.model.proofs.Sizes.{world_n}
use Rattle.model.proofs.AtRest.{SameIn, same_in, open_road, hops_in, inside}

-- a packet at its end, one that goes on, and one that can't
travels_end : (k : ℕ) (w : World) (d c u : ℕ) → eqb u d ≡ true → travels (suc k) w d c u ≡ Arrived c
unfolding travels
travels_end k w d c u h = ap (λ (b : Bool). cond b (Arrived c) (onward (λ x v. travels k w d x v) w c u (hop (map_of w u) d u))) h

travels_on : (k : ℕ) (w : World) (d c u v : ℕ) → eqb u d ≡ false → hop (map_of w u) d u ≡ To v → 0 < w.real u v → travels (suc k) w d c u ≡ travels k w d (c + w.real u v) v
unfolding travels
travels_on k w d c u v h i p =
    ap₂ (λ (b : Bool) (x : Hop). cond b (Arrived c) (onward (λ x v. travels k w d x v) w c u x)) h i
    ∙ ap (λ (b : Bool). cond b (travels k w d (c + w.real u v) v) (Refused u)) (lt-ltb 0 (w.real u v) p)

travels_no : (k : ℕ) (w : World) (d c u : ℕ) → eqb u d ≡ false → hop (map_of w u) d u ≡ Nowhere → travels (suc k) w d c u ≡ Refused u
unfolding travels
travels_no k w d c u h i = ap₂ (λ (b : Bool) (x : Hop). cond b (Arrived c) (onward (λ x v. travels k w d x v) w c u x)) h i

-- each router's own next place is the real one
own_hop : (w : World) → SameIn w → Rest w → (d u : ℕ) → u < w.n → hop (map_of w u) d u ≡ hop (real_map w) d u
own_hop w same r d u l = (hops_in w same r u d u l l (reach_self (real_map w) u)).0

-- with more steps than places strictly nearer, a packet arrives and pays the least
arrives_in : (w : World) → SameIn w → Rest w → (d k x u c : ℕ) → u < w.n → rank (real_map w) d u < k → far (real_map w) d u ≡ At c → travels k w d x u ≡ Arrived (x + c)
arrives_in w same r d zero x u c l q h = absurd (omega arith)
arrives_in w same r d (suc k) x u c l q h = go (eqb u d) refl (λ y v m. arrives_in w same r d k y v m)
  where
    go : (b : Bool) → eqb u d ≡ b → ((y v m : ℕ) → v < w.n → rank (real_map w) d v < k → far (real_map w) d v ≡ At m → travels k w d y v ≡ Arrived (y + m)) → travels (suc k) w d x u ≡ Arrived (x + c)
    go true i rec =
        let z : 0 ≡ c = at_inj 0 c (sym (far_self (real_map w) d) ∙ ap (λ (y : ℕ). far (real_map w) d y) (sym (eqb-true u d i)) ∙ h) in
        travels_end k w d x u i ∙ ap Arrived (omega arith)
    go false i rec =
        let s = hop_pick (real_map w) d u c l i h in
        let v = s.0 in
        let o = open_road (w.real v u) (w.real u v) s.3 in
        let p = plus_inv ((real_map w).cost u v) (far (real_map w) d v) c (sym s.4 ∙ h) in
        let f : rank (real_map w) d v < rank (real_map w) d u = rank_on (real_map w) d u v c s.2 h s.4 in
        let e : x + w.real u v + p.0 ≡ x + c = omega (arith, o.2, p.3) in
        travels_on k w d x u v i (own_hop w same r d u l ∙ s.1) o.1 ∙ rec (x + w.real u v) v p.0 s.2 (omega arith) p.1 ∙ ap Arrived e

refused_in_lem : (w : World) → SameIn w → Rest w → (d k x u : ℕ) → u < w.n → far (real_map w) d u ≡ Never → travels (suc k) w d x u ≡ Refused u
refused_in_lem w same r d k x u l h =
    let ne : eqb u d ≡ false = ne_eqb u d (λ e. never_at 0 (sym h ∙ ap (λ (y : ℕ). far (real_map w) d y) e ∙ far_self (real_map w) d)) in
    travels_no k w d x u ne (own_hop w same r d u l ∙ hop_never (real_map w) d u h)

pub arrives : SameWords → (n : ℕ) (es : List Ev) → Rest (world n es) → (u d c : ℕ) → u < n → d < n → far (real_map (world n es)) d u ≡ At c → travels n (world n es) d 0 u ≡ Arrived c
arrives same n es r u d c l m h =
    let i : u < (world n es).n = inside n es u l in
    let q : rank (real_map (world n es)) d u < (world n es).n = rank_below (world n es).n (λ x. far (real_map (world n es)) d x) u i in
    arrives_in (world n es) (same_in same n es) r d n 0 u c i (omega (arith, world_n n es)) h ∙ ap Arrived (zero-add c)

pub refused : SameWords → (n : ℕ) (es : List Ev) → Rest (world n es) → (u d : ℕ) → u < n → d < n → far (real_map (world n es)) d u ≡ Never → travels n (world n es) d 0 u ≡ Refused u
refused same zero es r u d l m h = absurd (omega arith)
refused same (suc n) es r u d l m h = refused_in_lem (world (suc n) es) (same_in same (suc n) es) r d n 0 u (inside (suc n) es u l) h
