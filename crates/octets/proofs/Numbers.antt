-- A number read is the number written, and only its own bytes read as it.
use Rattle.std.proofs.Common.{◌≡◌, ℕ, zero, suc, ◌+◌, ◌*◌, ◌/◌, ◌%◌, ◌^◌, ◌<◌, true, not, eqb, ltb, List, [], ◌∷◌, ◌++◌, Ok, ap, ◌∙◌, subst, ap₂, append_assoc, pow-suc, arith}
use Rattle.std.proofs.lemmas.Bool.{lt-ltb, ltb-true, ne_eqb, eqb-false, not-true, not_from_false}
use Rattle.octets.specs.declared.Fault.TheVariants.{Range}
use Rattle.octets.specs.Reads.{onward, unless, give, byte, number, below, positive}
use Rattle.octets.specs.Writes.{octets, Bytes}
use Rattle.octets.proofs.Parts.{both, step, test, byte_read}

-- a number written and read
pub number_octets : (k x : ℕ) (rest : List ℕ) → x < 256 ^ k → number k (octets k x ++ rest) ≡ Ok (x, rest)
unfolding number octets
number_octets zero x rest h = ap (λ n. Ok (n, rest)) (omega arith)
number_octets (suc k) x rest h =
    let s : 256 ^ suc k ≡ 256 ^ k * 256 = pow-suc 256 k in
    let small : x / 256 < 256 ^ k = omega arith in
    let whole : x / 256 * 256 + x % 256 ≡ x = omega arith in
    rw (append_assoc (octets k (x / 256)) (x % 256 ∷ []) rest, number_octets k (x / 256) (x % 256 ∷ rest) small, whole)

-- what was read, as a number of so many bytes
pub record Number (k : ℕ) (bytes : List ℕ) (x : ℕ) (left : List ℕ) : Type 0 where
  pub is : bytes ≡ octets k x ++ left
  pub fits : x < 256 ^ k
  pub bytes_left : Bytes left

pub number_read : (k : ℕ) (bytes : List ℕ) (x : ℕ) (left : List ℕ) → Bytes bytes → number k bytes ≡ Ok (x, left) → Number k bytes x left
unfolding number octets
number_read zero bytes x left b h =
    let e = both 0 x bytes left h in
    record { is = e.1; fits = omega (arith, e.0); bytes_left = subst Bytes e.1 b }
number_read (suc k) bytes x left b h =
    let s = step (number k bytes) (λ high left. onward (byte left) (λ low. give (high * 256 + low))) x left h in
    let n = number_read k bytes s.value s.left b s.was in
    let t = step (byte s.left) (λ low. give (s.value * 256 + low)) x left s.then in
    let l = byte_read s.left t.value t.left n.bytes_left t.was in
    let e = both (s.value * 256 + t.value) x t.left left t.then in
    last k bytes s.value t.value s.left x left n.is n.fits (l.is ∙ ap (λ z. t.value ∷ z) e.1) l.fits e.0 (subst Bytes e.1 l.bytes_left)
  where
    last : (k : ℕ) (bytes : List ℕ) (a b : ℕ) (mid : List ℕ) (x : ℕ) (left : List ℕ) → bytes ≡ octets k a ++ mid → a < 256 ^ k → mid ≡ b ∷ left → b < 256 → a * 256 + b ≡ x → Bytes left → Number (suc k) bytes x left
    last k bytes a b mid x left p q r f e w =
        let hi : x / 256 ≡ a = omega arith in
        let lo : x % 256 ≡ b = omega arith in
        let s : 256 ^ suc k ≡ 256 ^ k * 256 = pow-suc 256 k in
        record { is = rw (hi, lo, append_assoc (octets k a) (b ∷ []) left) (p ∙ ap (λ z. octets k a ++ z) r); fits = omega arith; bytes_left = w }

pub below_octet : (n b : ℕ) (rest : List ℕ) → b < n → below n (b ∷ rest) ≡ Ok (b, rest)
below_octet n b rest h = rw (lt-ltb b n h)

pub positive_octets : (k x : ℕ) (rest : List ℕ) → 0 < x → x < 256 ^ k → positive k (octets k x ++ rest) ≡ Ok (x, rest)
positive_octets k x rest z h =
    let t : not (eqb x 0) ≡ true = not_from_false (eqb x 0) (ne_eqb x 0 (λ e. omega arith)) in
    rw (number_octets k x rest h, t)

-- a byte below a limit that was read
pub record Limited (n : ℕ) (bytes : List ℕ) (b : ℕ) (left : List ℕ) : Type 0 where
  pub is : bytes ≡ b ∷ left
  pub low : b < n
  pub fits : b < 256
  pub bytes_left : Bytes left

pub below_read : (n : ℕ) (bytes : List ℕ) (b : ℕ) (left : List ℕ) → Bytes bytes → below n bytes ≡ Ok (b, left) → Limited n bytes b left
below_read n bytes b left k h =
    let s = step (byte bytes) (λ x left. onward (unless Range (ltb x n) left) (λ _. give x)) b left h in
    let r = byte_read bytes s.value s.left k s.was in
    let t = test Range (ltb s.value n) (give s.value) s.left b left s.then in
    let e = both s.value b s.left left t.then in
    record {
      is = r.is ∙ ap₂ (λ x xs. x ∷ xs) e.0 e.1;
      low = subst (λ z. z < n) e.0 (ltb-true s.value n t.held);
      fits = subst (λ z. z < 256) e.0 r.fits;
      bytes_left = subst Bytes e.1 r.bytes_left;
    }

-- a number other than 0 that was read
pub record Positive (k : ℕ) (bytes : List ℕ) (x : ℕ) (left : List ℕ) : Type 0 where
  pub is : bytes ≡ octets k x ++ left
  pub more : 0 < x
  pub fits : x < 256 ^ k
  pub bytes_left : Bytes left

pub positive_read : (k : ℕ) (bytes : List ℕ) (x : ℕ) (left : List ℕ) → Bytes bytes → positive k bytes ≡ Ok (x, left) → Positive k bytes x left
positive_read k bytes x left b h =
    let s = step (number k bytes) (λ y left. onward (unless Range (not (eqb y 0)) left) (λ _. give y)) x left h in
    let r = number_read k bytes s.value s.left b s.was in
    let t = test Range (not (eqb s.value 0)) (give s.value) s.left x left s.then in
    let e = both s.value x s.left left t.then in
    let z : s.value ≡ 0 → ⊥ = eqb-false s.value 0 (not-true (eqb s.value 0) t.held) in
    record {
      is = r.is ∙ ap₂ (λ y ys. octets k y ++ ys) e.0 e.1;
      more = subst (λ y. 0 < y) e.0 (omega (arith, z));
      fits = subst (λ y. y < 256 ^ k) e.0 r.fits;
      bytes_left = subst Bytes e.1 r.bytes_left;
    }
