-- The items of a packet, one after the other.
use Rattle.std.proofs.Common.{◌≡◌, ℕ, zero, suc, ◌+◌, ◌<◌, ◌≤◌, Bool, true, false, ◌||◌, List, [], ◌∷◌, map, length, get_or, take, drop, refl, sym, ap, ◌∙◌, subst, suc-le-suc, zero-le, add-one, arith, drop-cons}
use Rattle.std.specs.List.{list_any}
use Rattle.std.proofs.lemmas.List.{take-map}
use Rattle.messages.specs.Values.{ids_of}
use Rattle.messages.specs.declared.values.Word.{Word}
use Rattle.messages.specs.declared.values.WordId.{WordId}
use Rattle.station.specs.Packets.{any_in, first_in}

-- the first k of a list are those of its slice
pub first_in_take : {A B : Type 0} (f : A → B) (k : ℕ) (xs : List A) → first_in f k xs ≡ map f (take k xs)
unfolding first_in
first_in_take f zero xs = refl
first_in_take f (suc k) [] = refl
first_in_take {A} {B} f (suc k) (x ∷ xs) = ap (λ (ys : List B). f x ∷ ys) (first_in_take f k xs)

pub any_in_take : (f : WordId → Bool) (k : ℕ) (xs : List WordId) → any_in f k xs ≡ list_any f (take k xs)
unfolding any_in
any_in_take f zero xs = refl
any_in_take f (suc k) [] = refl
any_in_take f (suc k) (x ∷ xs) = ap (λ (b : Bool). f x || b) (any_in_take f k xs)

pub next_item : {A : Type 0} (d : A) (xs : List A) (k : ℕ) → k < length xs → drop k xs ≡ get_or xs k d ∷ drop (k + 1) xs
next_item d xs k h = rw (add-one k) (drop-cons xs k d h)

pub none_left : {A : Type 0} (xs : List A) (k : ℕ) → length xs ≤ k → drop k xs ≡ []
none_left [] zero h = refl
none_left [] (suc k) h = refl
none_left (x ∷ xs) zero h = absurd (omega arith)
none_left (x ∷ xs) (suc k) h = none_left xs k (omega arith)

-- a slice is no longer than the list
take_short : {A : Type 0} (n : ℕ) (xs : List A) → length (take n xs) ≤ length xs
take_short zero xs = zero-le
take_short (suc n) [] = zero-le
take_short (suc n) (x ∷ xs) = suc-le-suc (take_short n xs)

pub few_told : {A : Type 0} (n m : ℕ) (xs ys : List A) → length xs ≡ m → ys ≡ take n xs → length ys ≤ m
few_told {A} n m xs ys l e = subst (λ (zs : List A). length zs ≤ m) (sym e) (subst (λ (i : ℕ). length (take n xs) ≤ i) l (take_short n xs))

pub take_less : {A : Type 0} (n : ℕ) (xs : List A) (k : ℕ) → k < length (take n xs) → k < n
take_less zero xs k h = h
take_less (suc n) [] k h = absurd (omega arith)
take_less (suc n) (x ∷ xs) zero h = suc-le-suc zero-le
take_less (suc n) (x ∷ xs) (suc k) h = suc-le-suc (take_less n xs k (omega arith))

-- one of a slice is one of the list
pub taken_at : {A : Type 0} (d : A) (n : ℕ) (xs : List A) (k : ℕ) → k < length (take n xs) → get_or (take n xs) k d ≡ get_or xs k d
taken_at d zero xs k h = absurd (omega arith)
taken_at d (suc n) [] k h = absurd (omega arith)
taken_at d (suc n) (x ∷ xs) zero h = refl
taken_at d (suc n) (x ∷ xs) (suc k) h = taken_at d n xs k (omega arith)

-- where none passes, the first doesn't, nor any later
pub or_left : (a b : Bool) → (a || b) ≡ false → a ≡ false
or_left true b e = e
or_left false b e = refl

pub or_right : (a b : Bool) → (a || b) ≡ false → b ≡ false
or_right true true e = e
or_right true false e = refl
or_right false b e = e

-- none of these passes
abbrev pub NonePass : {A : Type 0} → (A → Bool) → List A → Type 0
NonePass f xs = list_any f xs ≡ false

pub none_here : {A : Type 0} (f : A → Bool) (d : A) (xs : List A) (k : ℕ) → k < length xs → NonePass f (drop k xs) → f (get_or xs k d) ≡ false
none_here {A} f d xs k h e = or_left (f (get_or xs k d)) (list_any f (drop (k + 1) xs)) (sym (ap (λ (ys : List A). list_any f ys) (next_item d xs k h)) ∙ e)

pub none_later : {A : Type 0} (f : A → Bool) (d : A) (xs : List A) (k : ℕ) → k < length xs → NonePass f (drop k xs) → NonePass f (drop (k + 1) xs)
none_later {A} f d xs k h e = or_right (f (get_or xs k d)) (list_any f (drop (k + 1) xs)) (sym (ap (λ (ys : List A). list_any f ys) (next_item d xs k h)) ∙ e)

-- a test of what f makes of each
pub any_map : {A B : Type 0} (g : B → Bool) (f : A → B) (xs : List A) → list_any g (map f xs) ≡ list_any (λ x. g (f x)) xs
any_map g f [] = refl
any_map g f (x ∷ xs) = ap (λ (b : Bool). g (f x) || b) (any_map g f xs)

-- where none of the first k numbers passes, none of the words does
pub none_told : (f : WordId → Bool) (k : ℕ) (xs : List Word) → any_in f k (ids_of xs) ≡ false → NonePass (λ (x : Word). f x.id) (take k xs)
none_told f k xs e = sym (any_map f (λ (x : Word). x.id) (take k xs)) ∙ ap (λ (ys : List WordId). list_any f ys) (sym (take-map (λ (x : Word). x.id) k xs)) ∙ sym (any_in_take f k (ids_of xs)) ∙ e
