-- A least way by the next box comes to its end over a road that is taken.
use Rattle.std.proofs.Common.{◌≡◌, ℕ, ◌+◌, ◌<◌, Bool, true, cond, ◌&&◌, ◌⊎◌, sym, refl, ap, ◌∙◌, inl, inr, arith, eq-eqb, ne_eqb}
use Rattle.std.proofs.lemmas.Bool.Decides.{nat_tests}
use Rattle.model.specs.Map.{At, Hop, To, far, hop}
use Rattle.model.proofs.Fars.{at_inj}
use Rattle.model.proofs.Hopping.{hop_pick}
use Rattle.model.proofs.Settled.{far_self}
use Rattle.ways.proofs.Firsts.{Fit, Lowest, fit_back, fit_on, hop_lowest, lowest_hop}
use Rattle.journal.specs.Replay.{Known}
use Rattle.journal.specs.State.{map_of, next_to}
use Rattle.chart.specs.Laws.{Reached}
use Rattle.chart.specs.Ways.{next_over, on_least_way, on_taken_way, same_hop}
use Rattle.chart.proofs.Leading.{distance_is, leads_to}

-- the next box towards a box that there is
next_is_lem : (k : Known) (d : ℕ) → d < k.n → next_to d k ≡ hop (map_of k) d k.me
next_is_lem k d l = grind (arith, nat_tests)

taken : (k : Known) (a d v : ℕ) → d < k.n → on_least_way a d k ≡ true → hop (map_of k) d k.me ≡ To v → next_over a d k ≡ To v → on_taken_way a d k ≡ true
taken k a d v ld on h o =
    ap (λ (b : Bool). b && same_hop (next_to d k) (next_over a d k)) on ∙ ap (λ (g : Hop). same_hop g (next_over a d k)) (next_is_lem k d ld ∙ h) ∙ ap (λ (g : Hop). same_hop (To v) g) o ∙ eq-eqb v v refl

-- the road from the journal's own box, or one from a box with the same next box
by_last : (k : Known) (d v : ℕ) → k.me < k.n → d < k.n → hop (map_of k) d k.me ≡ To v → Lowest (map_of k) k.me d v →
    ((v ≡ d) × (far (map_of k) d k.me ≡ At ((map_of k).cost k.me d)) × (0 < (map_of k).cost k.me d)) ⊎
    ((p : ℕ) × (m : ℕ) × (p < k.n) × (0 < (map_of k).cost p d) × (far (map_of k) p k.me ≡ At m) × (far (map_of k) d k.me ≡ At (m + (map_of k).cost p d)) × Fit (map_of k) k.me p v) →
    (a : ℕ) × (a < k.n) × (on_taken_way a d k ≡ true)
by_last k d v lm ld h low (inl i) =
    let z = map_of k in
    let s = k.me in
    let on = leads_to k s d 0 lm ld (far_self z s) i.2 (i.1 ∙ ap At (omega arith)) in
    let o : next_over s d k ≡ To v = ap (λ (b : Bool). cond b (To d) (next_to s k)) (eq-eqb s s refl) ∙ ap To (sym i.0) in
    (s, lm, taken k s d v ld on h o)
by_last k d v lm ld h low (inr i) =
    let z = map_of k in
    let s = k.me in
    let p = i.0 in
    let f = i.6 in
    let ne : s ≡ p → ⊥ = λ q. let r = at_inj 0 (z.cost s v + f.rest) (sym (far_self z s) ∙ ap (λ (x : ℕ). far z x s) q ∙ f.whole) in omega (arith, r, f.road) in
    let hp = lowest_hop z s p v ne (record { fits = f; low = λ e g. low.low e (fit_on z s p d i.1 e lm i.2 ld i.4 i.3 i.5 g) }) in
    let o : next_over p d k ≡ To v = ap (λ (b : Bool). cond b (To d) (next_to p k)) (ne_eqb p s (λ q. ne (sym q))) ∙ next_is_lem k p i.2 ∙ hp in
    (p, i.2, taken k p d v ld (leads_to k p d i.1 i.2 ld i.4 i.3 i.5) h o)

pub reached : Reached
reached k d c lm ld ne h =
    let z = map_of k in
    let x = hop_pick z d k.me c lm (ne_eqb k.me d ne) (sym (distance_is k d ld) ∙ h) in
    let low = hop_lowest z k.me d x.0 ne x.1 in
    by_last k d x.0 lm ld x.1 low (fit_back z k.me d x.0 lm ld low.fits)
