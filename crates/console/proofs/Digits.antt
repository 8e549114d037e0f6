-- Laws of digits: those of a number one by one, and those of bytes two by two.
use Rattle.std.proofs.Common.{◌≡◌, ℕ, zero, suc, ◌+◌, ◌*◌, ◌^◌, ◌<◌, ◌≤◌, List, [], ◌∷◌, ◌++◌, length, get_or, map, take, drop, sym, refl, ap, ◌∙◌, add-one, pow-suc, arith, lit<, drop-cons}
use native.Mathlib.Nat.{pow-le-pow_right}
use Rattle.std.specs.Simd.{first_chunks}
use Rattle.std.proofs.lemmas.List.{drop_all, take_more, map_push, length-map, length-take-le}
use Rattle.console.specs.Hex.{value_of, byte_of, pair_byte, bytes_of, number_on}

-- the number at the end of the digits
pub number_ends : (n : ℕ) (ds : List ℕ) (i : ℕ) → length ds ≤ i → number_on n (drop i ds) ≡ n
unfolding number_on
number_ends n ds i h = rw (drop_all i ds h) refl

-- and at one digit more
pub number_more : (n : ℕ) (ds : List ℕ) (i : ℕ) → i < length ds → number_on n (drop i ds) ≡ number_on (n * 16 + value_of (get_or ds i 0)) (drop (i + 1) ds)
unfolding number_on
number_more n ds i h = rw (add-one, drop-cons ds i 0 h) refl

-- a number below 16 ^ i with one digit more
pub pow_more : (i x d : ℕ) → x < 16 ^ i → d < 16 → x * 16 + d < 16 ^ (i + 1)
pow_more i x d h k = rw (add-one, pow-suc) (omega arith)

-- and it fits 64 bits while there are at most 16
pub pow_fits : (i : ℕ) → i ≤ 16 → 16 ^ i ≤ 16 ^ 16
pow_fits i h = pow-le-pow_right {n = 16} (lit< tt) h

-- digits taken two by two are those of the bytes
pub chunked : (k : ℕ) (ds : List ℕ) → length ds ≡ k * 2 → map pair_byte (first_chunks 2 k ds) ≡ bytes_of ds
unfolding bytes_of
chunked zero [] h = refl
chunked zero (d ∷ ds) h = absurd (omega arith)
chunked (suc k) [] h = absurd (omega arith)
chunked (suc k) (a ∷ []) h = absurd (omega arith)
chunked (suc k) (a ∷ (b ∷ ds)) h = ap (λ t. byte_of a b ∷ t) (chunked k ds (omega arith))

-- one byte more of a row of pairs
pub pair_more : (pairs : List (List ℕ)) (i : ℕ) → i < length pairs → map pair_byte (take i pairs) ++ (pair_byte (get_or pairs i []) ∷ []) ≡ map pair_byte (take (i + 1) pairs)
pair_more pairs i h = sym (map_push pair_byte (take i pairs) (get_or pairs i [])) ∙ ap (λ t. map pair_byte t) (sym (take_more pairs i [] h))

pub length_pairs : (pairs : List (List ℕ)) (i : ℕ) → i < length pairs → length (map pair_byte (take i pairs)) ≡ i
length_pairs pairs i h = length-map (take i pairs) pair_byte ∙ length-take-le i pairs (omega arith)
