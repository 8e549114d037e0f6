-- Links over which something new could be told: finding one, the one with the newest item, and rest where there is none.
use Rattle.std.proofs.Common.{◌≡◌, ℕ, ◌<◌, Bool, true, false, ◌&&◌, ◌⊎◌, inl, inr, ⊎_elim}
use Rattle.std.proofs.lemmas.Bool.{both_ways, cases_Bool, and_parts, and_from}
use Rattle.model.specs.Flood.{fresher, Setup, Net}
use Rattle.model.specs.Spread.{owes, Settled}
use Rattle.model.proofs.Fresh.{Freshest, freshest}
use Rattle.model.proofs.Below.{find}
use Rattle.model.proofs.Quiet.{quiet_for_lem}

-- both ends hold the link from a to e open, and e has something older of i
pub record Active {P : Type 0} (w : Net P) (i a e : ℕ) : Type 0 where
  pub out : w.link a e ≡ true
  pub back : w.link e a ≡ true
  pub news : fresher (w.holds a i) (w.holds e i) ≡ true

abbrev pub Source : {P : Type 0} → Setup P → Net P → ℕ → ℕ → Type 0
Source s w i a = (e : ℕ) × (e < s.boxes) × Active w i a e

source? : {P : Type 0} (s : Setup P) (w : Net P) (i a : ℕ) → Source s w i a ⊎ (Source s w i a → ⊥)
source? s w i a = ⊎_elim (λ r. inl (r.0, r.1, is r.0 r.2)) (λ none. inr (λ r. both_ways (test r.0) (none r.0 r.1) (passes r.0 r.2))) (find s.boxes test)
  where
    test : ℕ → Bool
    test e = w.link a e && (w.link e a && fresher (w.holds a i) (w.holds e i))

    is : (e : ℕ) → test e ≡ true → Active w i a e
    is e h = let r = and_parts (w.link a e) (w.link e a && fresher (w.holds a i) (w.holds e i)) h in let q = and_parts (w.link e a) (fresher (w.holds a i) (w.holds e i)) r.1 in
        record { out = r.0; back = q.0; news = q.1 }

    passes : (e : ℕ) → Active w i a e → test e ≡ true
    passes e h = and_from (w.link a e) (w.link e a && fresher (w.holds a i) (w.holds e i)) h.out (and_from (w.link e a) (fresher (w.holds a i) (w.holds e i)) h.back h.news)

-- an active link with the newest source, or no active link
pub newest_link : {P : Type 0} (s : Setup P) (w : Net P) (i : ℕ) → Freshest (Source s w i) (λ a. w.holds a i) s.boxes ⊎ ((a : ℕ) → a < s.boxes → Source s w i a → ⊥)
newest_link s w i = freshest s.boxes (Source s w i) (λ a. w.holds a i) (source? s w i)

-- no active link, and nobody owes: rest
pub none_active : {P : Type 0} (s : Setup P) (w : Net P) (i : ℕ) → ((a : ℕ) → a < s.boxes → owes s w a i ≡ false) → ((a : ℕ) → a < s.boxes → Source s w i a → ⊥) → Settled s w i
none_active {P} s w i own none = quiet_for_lem P s w i not_news own
  where
    not_news : (a e : ℕ) → a < s.boxes → e < s.boxes → w.link a e ≡ true → w.link e a ≡ true → fresher (w.holds a i) (w.holds e i) ≡ false
    not_news a e ha he out back = ⊎_elim (λ h. absurd (none a ha (e, he, record { out = out; back = back; news = h }))) (λ h. h) (cases_Bool (fresher (w.holds a i) (w.holds e i)))

-- some box owes, or none does
pub some_owes : {P : Type 0} (s : Setup P) (w : Net P) (i : ℕ) → ((a : ℕ) × (a < s.boxes) × (owes s w a i ≡ true)) ⊎ ((a : ℕ) → a < s.boxes → owes s w a i ≡ false)
some_owes s w i = find s.boxes (λ a. owes s w a i)
