-- What holds after a telling from the newest source: no active source is fresher, fewer boxes are behind, nobody owes.
use Rattle.std.proofs.Common.{◌≡◌, ℕ, ◌<◌, true, false, sym, ap, ◌∙◌, subst, ⊎_elim}
use Rattle.std.proofs.lemmas.Bool.{both_ways, cases_eq}
use Rattle.model.specs.Flood.{Item, fresher, Setup, Net}
use Rattle.model.specs.Spread.{Lone, owes}
use Rattle.model.proofs.Fresh.{fresher_self, upto_trans, fresher_upto, fresher_over}
use Rattle.model.proofs.Counts.{count, count_lt}
use Rattle.model.proofs.Acts.{Puts}
use Rattle.model.proofs.ActiveLinks.{Active, Source}
use Rattle.model.proofs.Tests.{t_true, true_t}
use Rattle.model.proofs.Owing.{owes_same}

-- nobody owes, if who took something doesn't
pub own_after : {P : Type 0} (s : Setup P) (w v : Net P) (e i : ℕ) (x : Item P) → Puts w v e i x → ((p : ℕ) → p < s.boxes → owes s w p i ≡ false) → owes s v e i ≡ false →
    (p : ℕ) → p < s.boxes → owes s v p i ≡ false
own_after s w v e i x u own h p l =
    ⊎_elim (λ q. subst (λ k. owes s v k i ≡ false) (sym q) h) (λ q. owes_same s w v p i u.speaks u.would (u.there p q) ∙ own p l) (cases_eq p e)

-- only what e took makes a link active
active_before : {P : Type 0} (w v : Net P) (e i : ℕ) (x : Item P) (p q : ℕ) → Puts w v e i x → fresher (w.holds e i) x ≡ false → (p ≡ e → ⊥) → Active v i p q → Active w i p q
active_before w v e i x p q u old d h = record {
  out = subst (λ l. l p q ≡ true) u.link h.out;
  back = subst (λ l. l q p ≡ true) u.link h.back;
  news = ⊎_elim at_e off_e (cases_eq q e);
}
  where
    mine : fresher (w.holds p i) (v.holds q i) ≡ true
    mine = subst (λ y. fresher y (v.holds q i) ≡ true) (u.there p d) h.news

    at_e : q ≡ e → fresher (w.holds p i) (w.holds q i) ≡ true
    at_e r = let n : fresher (w.holds p i) x ≡ true = subst (λ y. fresher (w.holds p i) y ≡ true) (ap (λ k. v.holds k i) r ∙ u.here) mine in
        subst (λ k. fresher (w.holds p i) (w.holds k i) ≡ true) (sym r) (fresher_over (w.holds p i) x (w.holds e i) n old)

    off_e : (q ≡ e → ⊥) → fresher (w.holds p i) (w.holds q i) ≡ true
    off_e r = subst (λ y. fresher (w.holds p i) y ≡ true) (u.there q r) mine

-- no active source below n is fresher than x
abbrev pub Top : {P : Type 0} → Setup P → Net P → ℕ → Item P → Type 0
Top s w i x = (p : ℕ) → p < s.boxes → Source s w i p → fresher (w.holds p i) x ≡ false

pub top_after : {P : Type 0} (s : Setup P) (w v : Net P) (e i : ℕ) (z x : Item P) → Puts w v e i x → fresher (w.holds e i) x ≡ false → fresher z x ≡ false → Top s w i z → Top s v i x
top_after s w v e i z x u old le top p l r = ⊎_elim at_e off_e (cases_eq p e)
  where
    at_e : p ≡ e → fresher (v.holds p i) x ≡ false
    at_e q = subst (λ y. fresher y x ≡ false) (sym (ap (λ k. v.holds k i) q ∙ u.here)) (fresher_self x)

    off_e : (p ≡ e → ⊥) → fresher (v.holds p i) x ≡ false
    off_e q = subst (λ y. fresher y x ≡ false) (sym (u.there p q)) (upto_trans (w.holds p i) z x (top p l (r.0, r.1, active_before w v e i x p r.0 u old q r.2)) le)

-- how many boxes are behind x
abbrev pub behind : {P : Type 0} → Setup P → Net P → ℕ → Item P → ℕ
behind s w i x = count s.boxes (λ p. fresher x (w.holds p i))

-- e was behind z and has x, which is not fresher than z: fewer are behind
pub behind_after : {P : Type 0} (s : Setup P) (w v : Net P) (e i : ℕ) (z x : Item P) → Puts w v e i x → e < s.boxes → fresher z (w.holds e i) ≡ true → fresher x z ≡ false → behind s v i x < behind s w i z
behind_after s w v e i z x u l h le =
    count_lt s.boxes (λ p. fresher x (v.holds p i)) (λ p. fresher z (w.holds p i)) (λ p m k. true_t (fresher z (w.holds p i)) (⊎_elim (at_e p) (off_e p (t_true (fresher x (v.holds p i)) k)) (cases_eq p e))) e l
    (subst (λ y. fresher x y ≡ false) (sym u.here) (fresher_self x)) h
  where
    at_e : (p : ℕ) → p ≡ e → fresher z (w.holds p i) ≡ true
    at_e p q = subst (λ k. fresher z (w.holds k i) ≡ true) (sym q) h

    off_e : (p : ℕ) → fresher x (v.holds p i) ≡ true → (p ≡ e → ⊥) → fresher z (w.holds p i) ≡ true
    off_e p k q = fresher_upto x z (w.holds p i) (subst (λ y. fresher x y ≡ true) (u.there p q) k) le

-- no speaker is behind x
abbrev pub Past : {P : Type 0} → Setup P → Net P → ℕ → Item P → Type 0
Past s w i x = (p : ℕ) → p < s.boxes → w.speaks p i ≡ true → fresher x (w.holds p i) ≡ false

pub past_after : {P : Type 0} (s : Setup P) (w v : Net P) (e i : ℕ) (z x : Item P) → Puts w v e i x → w.speaks e i ≡ false → fresher x z ≡ false → Past s w i z → Past s v i x
past_after s w v e i z x u mute le past p l h = ⊎_elim at_e off_e (cases_eq p e)
  where
    spoke : w.speaks p i ≡ true
    spoke = subst (λ sp. sp p i ≡ true) u.speaks h

    at_e : p ≡ e → fresher x (v.holds p i) ≡ false
    at_e q = absurd (both_ways (w.speaks e i) mute (subst (λ k. w.speaks k i ≡ true) q spoke))

    off_e : (p ≡ e → ⊥) → fresher x (v.holds p i) ≡ false
    off_e q = subst (λ y. fresher x y ≡ false) (sym (u.there p q)) (upto_trans x z (w.holds p i) le (past p l spoke))

-- the only speaker has just taken x
pub past_said : {P : Type 0} (s : Setup P) (w v : Net P) (e i : ℕ) (x : Item P) → Puts w v e i x → e < s.boxes → w.speaks e i ≡ true → Lone s w i → Past s v i x
past_said s w v e i x u l says lone p m h =
    let q = lone p e m l (subst (λ sp. sp p i ≡ true) u.speaks h) says in
    subst (λ y. fresher x y ≡ false) (sym (ap (λ k. v.holds k i) q ∙ u.here)) (fresher_self x)

pub lone_after : {P : Type 0} (s : Setup P) (w v : Net P) (e i : ℕ) (x : Item P) → Puts w v e i x → Lone s w i → Lone s v i
lone_after s w v e i x u lone p q hp hq a b = lone p q hp hq (subst (λ sp. sp p i ≡ true) u.speaks a) (subst (λ sp. sp q i ≡ true) u.speaks b)
