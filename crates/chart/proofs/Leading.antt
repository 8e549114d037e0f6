-- A road that leads from one distance on to another is the last of a way that costs just that.
use Rattle.std.proofs.Common.{◌≡◌, ℕ, ◌+◌, ◌<◌, true, T, List, [], ◌∷◌, ◌++◌, sym, refl, ap, ◌∙◌, subst, arith}
use borrow.Author.Tests.{clash}
use Rattle.std.proofs.lemmas.Bool.Decides.{nat_tests}
use Rattle.model.specs.Map.{Map, Far, Never, At, far}
use Rattle.model.specs.Promise.{is_way, last, cost_of}
use Rattle.model.proofs.Fars.{at_inj}
use Rattle.model.proofs.Shortest.{way_in, way_out, least}
use Rattle.ways.proofs.Lasts.{way_on, last_road}
use Rattle.journal.specs.Replay.{Known}
use Rattle.journal.specs.State.{distance_to, map_of}
use Rattle.chart.specs.Ways.{leads_on, on_least_way}
use Rattle.chart.specs.Laws.{LeastOver, OnSomeWay}

leads_out : (f g : Far) (c : ℕ) → leads_on f c g ≡ true → (x : ℕ) × (f ≡ At x) × (0 < c) × (g ≡ At (x + c))
leads_out Never g c h = absurd (clash h)
leads_out (At x) Never c h = absurd (clash h)
leads_out (At x) (At y) c h =
    let p : 0 < c = grind (arith, nat_tests) in
    let q : y ≡ x + c = grind (arith, nat_tests) in
    (x, refl, p, ap At q)

leads_in : (x c : ℕ) → 0 < c → leads_on (At x) c (At (x + c)) ≡ true
leads_in x c p = grind (arith, nat_tests)

-- a way without its last road
way_off : (z : Map) (a d : ℕ) (ws : List ℕ) → T (is_way z a (ws ++ (d ∷ []))) →
    T (is_way z a ws) × (0 < z.cost (last a ws) d) × (cost_of z a (ws ++ (d ∷ [])) ≡ cost_of z a ws + z.cost (last a ws) d)
unfolding is_way last cost_of
way_off z a d [] t = (tt, (way_out z a d [] t).1, omega arith)
way_off z a d (y ∷ ys) t =
    let o = way_out z a y (ys ++ (d ∷ [])) t in
    let r = way_off z y d ys o.2 in
    (way_in z a y ys o.0 o.1 r.0, r.1, omega (arith, r.2))

-- the distance of a box that there is
pub distance_is : (k : Known) (d : ℕ) → d < k.n → distance_to d k ≡ far (map_of k) d k.me
distance_is k d l = grind (arith, nat_tests)

pub leads_to : (k : Known) (a e x : ℕ) → a < k.n → e < k.n → far (map_of k) a k.me ≡ At x → 0 < (map_of k).cost a e → far (map_of k) e k.me ≡ At (x + (map_of k).cost a e) → on_least_way a e k ≡ true
leads_to k a e x la le f p g =
    let c = (map_of k).cost a e in
    let F : Far → Type 0 = λ f. leads_on f c (distance_to e k) ≡ true in
    let G : Far → Type 0 = λ g. leads_on (At x) c g ≡ true in
    subst F (sym (distance_is k a la ∙ f)) (subst G (sym (distance_is k e le ∙ g)) (leads_in x c p))

to_way : (k : Known) (a e : ℕ) → k.me < k.n → a < k.n → e < k.n → on_least_way a e k ≡ true → (ws : List ℕ) × LeastOver k ws a e
to_way k a e lm la le h =
    let z = map_of k in
    let r = leads_out (distance_to a k) (distance_to e k) (z.cost a e) h in
    let w = (least z a k.me lm la).1 r.0 (sym (distance_is k a la) ∙ r.1) in
    let P : ℕ → Type 0 = λ x. 0 < z.cost x e in
    let o = way_on z k.me e w.0 le (subst P (sym w.2) r.2) w.1 in
    let s : r.0 + z.cost a e ≡ cost_of z k.me (w.0 ++ (e ∷ [])) = omega (arith, o.2, w.3, ap (λ (x : ℕ). z.cost x e) w.2) in
    (w.0, (o.0, w.2, r.3 ∙ ap At s))

from_way : (k : Known) (a e : ℕ) → k.me < k.n → a < k.n → e < k.n → (ws : List ℕ) → LeastOver k ws a e → on_least_way a e k ≡ true
from_way k a e lm la le ws h =
    let z = map_of k in
    let o = way_off z k.me e ws h.0 in
    let m = (least z a k.me lm la).0 ws o.0 h.1 in
    let c = ap (λ (x : ℕ). z.cost x e) h.1 in
    let p : 0 < z.cost a e = omega (arith, o.1, c) in
    let n = last_road z k.me a e m.0 lm la le m.1 p in
    let q = at_inj n.0 (cost_of z k.me (ws ++ (e ∷ []))) (sym n.1 ∙ sym (distance_is k e le) ∙ h.2) in
    let s : n.0 ≡ m.0 + z.cost a e = omega (arith, q, n.2, o.2, m.2, c) in
    leads_to k a e m.0 la le m.1 p (n.1 ∙ ap At s)

pub on_some_way_lem : OnSomeWay
on_some_way_lem k a e lm la le = (to_way k a e lm la le, from_way k a e lm la le)
