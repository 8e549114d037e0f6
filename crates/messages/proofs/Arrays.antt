-- Arrays that a closure makes, by `from_fn` or by `map`, where it changes nothing that it captures.
use Rattle.std.specs.Prelude.{◌≡◌, ℕ, zero, suc, ◌+◌, ◌<◌, List, slice_index_or}
use Rattle.std.proofs.Common.{arith, sym, subst}
use Rattle.std.specs.Array.{IsFromFnResult, IsFromFnResultFrom, IsMapOf, MapsFrom}
use denote.Param.Members.{Mut, Called}

module _ {F B : Type 0} (g : Mut F (ℕ × Unit {0}) B) (P : ℕ → B → Type 0) (f : F) (same : (i : ℕ) (y : B) (q : F) → Called g f (i, tt) y q → P i y × (q ≡ f)) (ys : List B) where
  made_on : (i k d j : ℕ) (e : B) → IsFromFnResultFrom g f ys i k → j ≡ i + d → d < k → P j (slice_index_or ys j e)
  made_on i zero d j e h at lt = absurd (omega arith)
  made_on i (suc k) zero j e h at lt = subst (λ m. P m (slice_index_or ys m e)) (omega arith) (subst (P i) (sym (h.2.1 e)) (same i h.1 h.0 h.3).0)
  made_on i (suc k) (suc d) j e h at lt = made_on (i + 1) k d j e (subst (λ q. IsFromFnResultFrom g q ys (i + 1) k) (same i h.1 h.0 h.3).1 h.4) (omega arith) (omega arith)

  -- what holds of each number and what the closure gives for it holds of each element
  pub made_at : (n j : ℕ) (e : B) → IsFromFnResult g f ys n → j < n → P j (slice_index_or ys j e)
  made_at n j e h lt = made_on 0 n j j e h.each (omega arith) lt

module _ {F A B : Type 0} (g : Mut F (A × Unit {0}) B) (P : A → B → Type 0) (f : F) (same : (x : A) (y : B) (q : F) → Called g f (x, tt) y q → P x y × (q ≡ f)) (xs : List A) (ys : List B) where
  mapped_on : (i k d j : ℕ) (a : A) (e : B) → MapsFrom g f xs ys i k → j ≡ i + d → d < k → P (slice_index_or xs j a) (slice_index_or ys j e)
  mapped_on i zero d j a e h at lt = absurd (omega arith)
  mapped_on i (suc k) zero j a e h at lt = subst (λ m. P (slice_index_or xs m a) (slice_index_or ys m e)) (omega arith) (subst (λ x. P x (slice_index_or ys i e)) (sym (h.3.1 a)) (subst (P h.1) (sym (h.4.1 e)) (same h.1 h.2 h.0 h.5).0))
  mapped_on i (suc k) (suc d) j a e h at lt = mapped_on (i + 1) k d j a e (subst (λ q. MapsFrom g q xs ys (i + 1) k) (same h.1 h.2 h.0 h.5).1 h.6) (omega arith) (omega arith)

  -- what holds of each element and what the closure gives for it holds of each two at one place
  pub mapped_at : (n j : ℕ) (a : A) (e : B) → IsMapOf g f xs ys n → j < n → P (slice_index_or xs j a) (slice_index_or ys j e)
  mapped_at n j a e h lt = mapped_on 0 n j j a e h.each (omega arith) lt
