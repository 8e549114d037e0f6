-- How many bytes a value has, and one more of a row.
use Rattle.std.proofs.Common.{◌≡◌, ℕ, zero, suc, ◌+◌, ◌*◌, ◌<◌, ◌≤◌, List, [], ◌∷◌, ◌++◌, length, get_or, take, sym, refl, ap, ◌∙◌, arith, length-append}
use Rattle.std.specs.List.{flat_map}
use Rattle.std.proofs.lemmas.List.{take_all, take_more, flat_map_more, length-take-le}
use Rattle.messages.specs.declared.values.WordId.{WordId}
use Rattle.messages.specs.Packets.{Seens}
use Rattle.wordframes.specs.Writing.{bytes_of_id, bytes_of_ids, bytes_of_row, bytes_of_seens}
use Rattle.octets.proofs.Puts.{length_octets}

-- the bytes of one more
pub joined_next : {A : Type 0} (w : A → List ℕ) (xs : List A) (i : ℕ) (d : A) → i < length xs → flat_map w (take i xs) ++ w (get_or xs i d) ≡ flat_map w (take (i + 1) xs)
joined_next w xs i d h = flat_map_more w [] (take i xs) (get_or xs i d) ∙ ap (λ ys. flat_map w ys) (sym (take_more xs i d h))

-- as many bytes for each
pub length_joined : {A : Type 0} (w : A → List ℕ) (k : ℕ) → ((x : A) → length (w x) ≡ k) → (xs : List A) → length (flat_map w xs) ≡ k * length xs
length_joined w k h [] = omega arith
length_joined w k h (x ∷ xs) = length-append (w x) (flat_map w xs) ∙ omega (arith, h x, length_joined w k h xs)

pub length_id : (i : WordId) → length (bytes_of_id i) ≡ 17
length_id i = simp (length-append, length_octets) refl

pub length_ids : (items : List WordId) (count : ℕ) → count ≤ length items → length (bytes_of_ids items count) ≡ 17 * count
length_ids items count h = length_joined bytes_of_id 17 length_id (take count items) ∙ ap (λ n. 17 * n) (length-take-le count items h)

pub length_seens : (s : Seens) → s.count ≤ length s.items → length (bytes_of_seens s) ≡ 10 + 17 * s.count
length_seens s h = simp (length-append, length_octets) (omega (arith, length_ids s.items s.count h))

-- fewer take no more bytes
pub joined_mono : {A : Type 0} (w : A → List ℕ) (i k : ℕ) (xs : List A) → i ≤ k → length (flat_map w (take i xs)) ≤ length (flat_map w (take k xs))
joined_mono w zero k xs h = omega arith
joined_mono w (suc i) zero xs h = absurd (omega arith)
joined_mono w (suc i) (suc k) [] h = omega arith
joined_mono w (suc i) (suc k) (x ∷ xs) h = rw (length-append (w x) (flat_map w (take i xs)), length-append (w x) (flat_map w (take k xs))) (omega (arith, joined_mono w i k xs (omega arith)))

pub length_next : {A : Type 0} (w : A → List ℕ) (xs : List A) (i : ℕ) (d : A) → i < length xs → length (flat_map w (take i xs)) + length (w (get_or xs i d)) ≡ length (flat_map w (take (i + 1) xs))
length_next w xs i d h = sym (length-append (flat_map w (take i xs)) (w (get_or xs i d))) ∙ ap length (joined_next w xs i d h)

pub length_row : {A : Type 0} (w : A → List ℕ) (drawn count : ℕ) (items : List A) → length (bytes_of_row w drawn count items) ≡ 9 + length (flat_map w items)
length_row w drawn count items = simp (length-append, length_octets) (omega arith)

-- the bytes up to one and of it are no more than those of all
pub within_all : {A : Type 0} (w : A → List ℕ) (xs : List A) (i : ℕ) (x : A) → i < length xs → x ≡ get_or xs i x → length (flat_map w (take i xs)) + length (w x) ≤ length (flat_map w xs)
within_all w xs i x l e =
    let n = length_next w xs i x l in
    let m = joined_mono w (i + 1) (length xs) xs (omega arith) in
    omega (arith, n, m, ap (λ y. length (w y)) e, ap (λ ys. length (flat_map w ys)) (take_all (length xs) xs (omega arith)))

-- and one more of them
pub joined_one : {A : Type 0} (w : A → List ℕ) (xs : List A) (i : ℕ) (x : A) → i < length xs → x ≡ get_or xs i x → flat_map w (take i xs) ++ w x ≡ flat_map w (take (i + 1) xs)
joined_one w xs i x l e = ap (λ y. flat_map w (take i xs) ++ w y) e ∙ joined_next w xs i x l
