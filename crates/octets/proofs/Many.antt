-- So many in a row: one more, a fault on the way, and the bytes of all of them.
use Rattle.std.proofs.Common.{◌≡◌, ℕ, zero, suc, ◌+◌, ◌<◌, ◌≤◌, List, [], ◌∷◌, ◌++◌, length, get_or, take, Ok, Err, sym, refl, ap, ◌∙◌, subst, ⊎_elim, append_assoc, add-one, arith}
use Rattle.std.specs.List.{flat_map}
use Rattle.std.proofs.lemmas.Bool.{cases_lt}
use Rattle.std.proofs.lemmas.List.{take_more, flat_map_more, length_push, get_or_push, get_or_append_left}
use Rattle.octets.specs.declared.Fault.{Fault}
use Rattle.octets.specs.Reads.{Read, onward, give, many}
use Rattle.octets.specs.Writes.{Bytes}
use Rattle.octets.proofs.Parts.{both, step}

module _ {A : Type 0} (p : Read A) where
  pub many_none : (bytes : List ℕ) → many 0 p bytes ≡ Ok ([], bytes)
  unfolding many
  many_none bytes = refl

  -- one more
  pub many_more : (bytes : List ℕ) (i : ℕ) (xs : List A) (x : A) (left after : List ℕ) → many i p bytes ≡ Ok (xs, left) → p left ≡ Ok (x, after) → many (i + 1) p bytes ≡ Ok (xs ++ (x ∷ []), after)
  unfolding many
  many_more bytes i xs x left after h k = rw (add-one, h, k)

  -- a row that ends early ends so however many are wanted
  pub many_cut : (bytes : List ℕ) (e : Fault) (k j : ℕ) → many j p bytes ≡ Err e → j ≤ k → many k p bytes ≡ Err e
  unfolding many
  many_cut bytes e zero j h l = let z : j ≡ 0 = omega arith in subst (λ k. many k p bytes ≡ Err e) z h
  many_cut bytes e (suc k) j h l =
      ⊎_elim
      (λ q. let z : j ≡ suc k = omega arith in subst (λ k. many k p bytes ≡ Err e) z h)
      (λ q. let ih : many k p bytes ≡ Err e = many_cut bytes e k j h (omega arith) in rw ih)
      (cases_lt k j)

  pub many_stops : (bytes : List ℕ) (e : Fault) (k i : ℕ) (xs : List A) (left : List ℕ) → many i p bytes ≡ Ok (xs, left) → p left ≡ Err e → i < k → many k p bytes ≡ Err e
  unfolding many
  many_stops bytes e k i xs left h q l = many_cut bytes e k (suc i) (rw (h, q)) (omega arith)

joined_push : {A : Type 0} (w : A → List ℕ) (xs : List A) (x : A) → flat_map w xs ++ w x ≡ flat_map w (xs ++ (x ∷ []))
joined_push w xs x = flat_map_more w [] xs x

-- the first so many of a list, written and read
pub many_joined : {A : Type 0} (p : Read A) (w : A → List ℕ) (xs : List A) (d : A)
    → ((k : ℕ) → k < length xs → (rest : List ℕ) → p (w (get_or xs k d) ++ rest) ≡ Ok (get_or xs k d, rest))
    → (k : ℕ) → k ≤ length xs → (rest : List ℕ) → many k p (flat_map w (take k xs) ++ rest) ≡ Ok (take k xs, rest)
unfolding many
many_joined p w xs d h zero l rest = refl
many_joined p w xs d h (suc k) l rest =
    let more : take (suc k) xs ≡ take k xs ++ (get_or xs k d ∷ []) = rw add-one at (take_more xs k d (omega arith)) in
    let ih = many_joined p w xs d h k (omega arith) (w (get_or xs k d) ++ rest) in
    let one = h k (omega arith) rest in
    rw (more, ← joined_push w (take k xs) (get_or xs k d), append_assoc (flat_map w (take k xs)) (w (get_or xs k d)) rest, ih, one)

-- one that was read: its bytes, and what holds of it
pub record Item {A : Type 0} (w : A → List ℕ) (Good : A → Type 0) (bytes : List ℕ) (x : A) (left : List ℕ) : Type 0 where
  pub is : bytes ≡ w x ++ left
  pub good : Good x
  pub bytes_left : Bytes left

-- so many that were read
pub record Items {A : Type 0} (w : A → List ℕ) (Good : A → Type 0) (d : A) (k : ℕ) (bytes : List ℕ) (xs : List A) (left : List ℕ) : Type 0 where
  pub is : bytes ≡ flat_map w xs ++ left
  pub long : length xs ≡ k
  pub good : (i : ℕ) → i < k → Good (get_or xs i d)
  pub bytes_left : Bytes left

module _ {A : Type 0} (p : Read A) (w : A → List ℕ) (Good : A → Type 0) (d : A)
    (one : (bytes : List ℕ) (x : A) (left : List ℕ) → Bytes bytes → p bytes ≡ Ok (x, left) → Item w Good bytes x left) where
  pub many_read : (k : ℕ) (bytes : List ℕ) (xs : List A) (left : List ℕ) → Bytes bytes → many k p bytes ≡ Ok (xs, left) → Items w Good d k bytes xs left
  unfolding many
  many_read zero bytes xs left b h =
      let e = both [] xs bytes left h in
      subst (λ ys. Items w Good d 0 bytes ys left) e.0 (record { is = e.1; long = refl; good = λ i l. absurd (omega arith); bytes_left = subst Bytes e.1 b })
  many_read (suc k) bytes xs left b h =
      let s = step (many k p bytes) (λ ys mid. onward (p mid) (λ y. give (ys ++ (y ∷ [])))) xs left h in
      let m = many_read k bytes s.value s.left b s.was in
      let t = step (p s.left) (λ y. give (s.value ++ (y ∷ []))) xs left s.then in
      let l = one s.left t.value t.left m.bytes_left t.was in
      let e = both (s.value ++ (t.value ∷ [])) xs t.left left t.then in
      subst (λ ys. Items w Good d (suc k) bytes ys left) e.0
      (record {
        is =
            m.is
            ∙ (ap (λ z. flat_map w s.value ++ z) (l.is ∙ ap (λ z. w t.value ++ z) e.1)
            ∙ (sym (append_assoc (flat_map w s.value) (w t.value) left)
            ∙ ap (λ z. z ++ left) (joined_push w s.value t.value)));
        long = length_push s.value t.value ∙ omega (arith, m.long);
        good = λ i q. at s.value t.value k m.long m.good l.good i q;
        bytes_left = subst Bytes e.1 l.bytes_left;
      })
    where
      at : (ys : List A) (y : A) (k : ℕ) → length ys ≡ k → ((i : ℕ) → i < k → Good (get_or ys i d)) → Good y → (i : ℕ) → i < suc k → Good (get_or (ys ++ (y ∷ [])) i d)
      at ys y k n g z i q =
          ⊎_elim
          (λ low. let l : i < length ys = omega arith in rw (get_or_append_left ys (y ∷ []) d i l) (g i low))
          (λ top. let l : length ys ≡ i = omega arith in rw (get_or_push ys y d i l) z)
          (cases_lt i k)
