-- What a packet is that isn't refused, and who sent it.
use Rattle.std.proofs.Common.{◌≡◌, ℕ, ◌<◌, ◌≤◌, Bool, true, false, cond, not, ◌||◌, eqb, ltb, List, Some, None, Option, refl, ap, ◌∙◌, subst, arith, ltb-false, ltb-true, lt-ltb}
use Rattle.messages.specs.declared.values.WordId.{WordId}
use Rattle.model.specs.Box.{Box, is_open}
use Rattle.router.specs.State.{id_refusal}
use Rattle.router.specs.declared.answers.Refusal.TheVariants.{OutOfRange as OutOf, NoRoad as Closed, CountSpent as Spent}
use Rattle.linkmodel.specs.Links.{Links, road_cost, who_on}
use Rattle.linkmodel.specs.Station.{Station, open_to, teller}
use Rattle.linkmodel.specs.Calls.{Joined}
use Rattle.linkmodel.proofs.Relinks.{road_beyond}
use Rattle.station.specs.Packets.{AllGood, any_in, is_out, is_spent, packet_refusal, road_refusal}
use Rattle.station.specs.declared.answers.Refusal.TheVariants.{OutOfRange, CountSpent}

pub admitted : (n : ℕ) (from : Option ℕ) (k : ℕ) (xs : List WordId) → packet_refusal n from k xs ≡ None → (k ≤ 4) × AllGood n k xs
admitted n from k xs e = let p = go (eqb k 0) (ltb 4 k) (any_in (is_out n) k xs) (any_in is_spent k xs) from e in (ltb-false 4 k p.0, (p.1.0, p.1.1))
  where
    go : (a b c d : Bool) (o : Option ℕ) → cond (a || (b || c)) (Some OutOfRange) (road_refusal o (cond d (Some CountSpent) None)) ≡ None → (b ≡ false) × ((c ≡ false) × (d ≡ false))
    go true b c d o e = let z : ◌≡◌ {A = ℕ} 0 1 = cc in absurd (omega arith)
    go false true c d o e = let z : ◌≡◌ {A = ℕ} 0 1 = cc in absurd (omega arith)
    go false false true d o e = let z : ◌≡◌ {A = ℕ} 0 1 = cc in absurd (omega arith)
    go false false false d None e = let z : ◌≡◌ {A = ℕ} 0 1 = cc in absurd (omega arith)
    go false false false true (Some x) e = let z : ◌≡◌ {A = ℕ} 0 1 = cc in absurd (omega arith)
    go false false false false (Some x) e = (refl, (refl, refl))

-- the road to who tells is open
pub teller_open : (w : ℕ) (s : Links) (e : ℕ) → teller w s ≡ Some e → 0 < road_cost e s
teller_open w s e q = go (who_on (s.wire w)) q
  where
    go : (o : Option ℕ) → open_to o s ≡ Some e → 0 < road_cost e s
    go None q = let z : ◌≡◌ {A = ℕ} 0 1 = cc in absurd (omega arith)
    go (Some f) q = by (ltb 0 (road_cost f s)) refl q
      where
        by : (b : Bool) → ltb 0 (road_cost f s) ≡ b → cond b (Some f) None ≡ Some e → 0 < road_cost e s
        by true h r = let same : f ≡ e = cc in subst (λ (x : ℕ). 0 < road_cost x s) same (ltb-true 0 (road_cost f s) h)
        by false h r = let z : ◌≡◌ {A = ℕ} 0 1 = cc in absurd (omega arith)

-- and who tells is another box
pub teller_is : (w : ℕ) (s : Station) (e : ℕ) → Joined s → teller w s.links ≡ Some e → (e < s.box.n) × (0 < s.box.cost e)
teller_is w s e j q = (go (ltb e s.box.n) refl, rw (j.roads e) (teller_open w s.links e q))
  where
    go : (b : Bool) → ltb e s.box.n ≡ b → e < s.box.n
    go true h = ltb-true e s.box.n h
    go false h =
        let far : s.links.n ≤ e = rw j.count (ltb-false e s.box.n h) in
        let shut = road_beyond s.links e j.sound far in
        let open' = teller_open w s.links e q in
        absurd (omega arith)

-- numbers of a good packet over an open road aren't refused
pub id_fits_lem : (from : ℕ) (x : WordId) (b : Box) → from < b.n → 0 < b.cost from → is_out b.n x ≡ false → is_spent x ≡ false → id_refusal from x b ≡ None
id_fits_lem from x b l o p q =
    ap (λ (t : Bool). cond (not t || is_out b.n x) (Some OutOf) (cond (not (is_open from b)) (Some Closed) (cond (is_spent x) (Some Spent) None))) (lt-ltb from b.n l)
    ∙ ap (λ (t : Bool). cond t (Some OutOf) (cond (not (is_open from b)) (Some Closed) (cond (is_spent x) (Some Spent) None))) p
    ∙ ap (λ (t : Bool). cond (not t) (Some Closed) (cond (is_spent x) (Some Spent) None)) (lt-ltb 0 (b.cost from) o)
    ∙ ap (λ (t : Bool). cond t (Some Spent) None) q
