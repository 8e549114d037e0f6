-- One to four of a kind as a packet holds them: each as f has it, and blanks after them.
use Rattle.std.proofs.Common.{◌≡◌, ℕ, zero, suc, ◌-◌, ◌<◌, ◌≤◌, Bool, false, List, [], ◌∷◌, ◌++◌, map, length, get_or, drop, replicate, refl, ap, ◌∙◌, ap₂, arith, length-append}
use Rattle.std.proofs.lemmas.List.{drop_at, get_or_append_left, length-map, length-replicate}
use Rattle.messages.specs.declared.values.WordId.{WordId}
use Rattle.netmodel.specs.Fits.{Each}
use Rattle.station.specs.Packets.{any_in, first_in}
use Rattle.wordframes.specs.Reading.{padded}

module _ {A B : Type 0} (f : A → B) (blank : B) where
  abbrev pub four_of : List A → List B
  four_of xs = padded blank (map f xs)

  pub four_long : (xs : List A) → length xs ≤ 4 → length (four_of xs) ≡ 4
  four_long xs h = length-append (map f xs) (replicate (4 - length (map f xs)) blank) ∙ omega (arith, length-replicate (4 - length (map f xs)) blank, length-map xs f)

  pub four_blank : (xs : List A) → drop (length xs) (four_of xs) ≡ replicate (4 - length xs) blank
  four_blank xs =
      let e = length-map xs f in
      drop_at (map f xs) (replicate (4 - length (map f xs)) blank) (length xs) (omega arith) ∙ ap (λ (k : ℕ). replicate (4 - k) blank) e

  -- each of them is good
  map_good : (P : A → Type 0) (Q : B → Type 0) → ((x : A) → P x → Q (f x)) → (xs : List A) → Each P xs → (i : ℕ) → i < length xs → Q (get_or (map f xs) i blank)
  unfolding Each
  map_good P Q h [] k i l = absurd (omega arith)
  map_good P Q h (x ∷ xs) k zero l = h x k.0
  map_good P Q h (x ∷ xs) k (suc i) l = map_good P Q h xs k.1 i (omega arith)

  pub four_good : (P : A → Type 0) (Q : B → Type 0) → ((x : A) → P x → Q (f x)) → (xs : List A) → Each P xs → (i : ℕ) → i < length xs → Q (get_or (four_of xs) i blank)
  four_good P Q h xs k i l =
      let e = get_or_append_left (map f xs) (replicate (4 - length (map f xs)) blank) blank i (omega (arith, length-map xs f)) in
      rw e (map_good P Q h xs k i l)

  -- read back by g they are what they were
  pub four_back : (P : A → Type 0) (g : B → A) → ((x : A) → P x → g (f x) ≡ x) → (xs : List A) → Each P xs → (ys : List B) → first_in g (length xs) (map f xs ++ ys) ≡ xs
  unfolding Each first_in
  four_back P g h [] k ys = refl
  four_back P g h (x ∷ xs) k ys = ap₂ (λ (y : A) (zs : List A). y ∷ zs) (h x k.0) (four_back P g h xs k.1 ys)

  -- none of them passes a test that good ones fail
  pub four_none : (P : A → Type 0) (g : B → WordId) (t : WordId → Bool) → ((x : A) → P x → t (g (f x)) ≡ false) → (xs : List A) → Each P xs → (ys : List B) → any_in t (length xs) (map g (map f xs ++ ys)) ≡ false
  unfolding Each any_in
  four_none P g t h [] k ys = refl
  four_none P g t h (x ∷ xs) k ys = rw (h x k.0) (four_none P g t h xs k.1 ys)
