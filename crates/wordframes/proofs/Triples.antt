-- A box and two numbers of 8 bytes, the first other than 0, as a hello and a word's numbers have them: written and read, and only so.
use Rattle.std.proofs.Common.{◌≡◌, ℕ, ◌^◌, ◌<◌, List, ◌∷◌, ◌++◌, Ok, sym, ap, ◌∙◌, subst, append_assoc}
use Rattle.octets.specs.Reads.{Read, ◌>>=◌, onward, give, number, below, positive}
use Rattle.octets.specs.Writes.{Bytes, octets}
use Rattle.octets.proofs.Parts.{both, step}
use Rattle.octets.proofs.Numbers.{number_octets, number_read, below_octet, below_read, positive_octets, positive_read}

abbrev pub triple_in : {A : Type 0} → (ℕ → ℕ → ℕ → A) → ℕ → Read A
triple_in make n = do
  a ← below n
  b ← positive 8
  c ← number 8
  give (make a b c)

abbrev pub bytes_of_triple : ℕ → ℕ → ℕ → List ℕ
bytes_of_triple a b c = a ∷ (octets 8 b ++ octets 8 c)

pub record InTriple (n a b c : ℕ) : Type 0 where
  pub box : a < n
  pub some : 0 < b
  pub first : b < 2 ^ 64
  pub second : c < 2 ^ 64

pub triple_written : {A : Type 0} (make : ℕ → ℕ → ℕ → A) (n a b c : ℕ) (rest : List ℕ) → InTriple n a b c → triple_in make n (bytes_of_triple a b c ++ rest) ≡ Ok (make a b c, rest)
triple_written make n a b c rest r =
    rw (
      append_assoc (octets 8 b) (octets 8 c) rest,
      below_octet n a (octets 8 b ++ (octets 8 c ++ rest)) r.box,
      positive_octets 8 b (octets 8 c ++ rest) r.some r.first,
      number_octets 8 c rest r.second,
    )

-- what was read, and from which bytes
pub record Triple {A : Type 0} (make : ℕ → ℕ → ℕ → A) (n : ℕ) (bytes : List ℕ) (x : A) (left : List ℕ) : Type 0 where
  pub a : ℕ
  pub b : ℕ
  pub c : ℕ
  pub value : make a b c ≡ x
  pub is : bytes ≡ bytes_of_triple a b c ++ left
  pub good : InTriple n a b c
  pub bytes_left : Bytes left

pub triple_read : {A : Type 0} (make : ℕ → ℕ → ℕ → A) (n : ℕ) (bytes : List ℕ) (x : A) (left : List ℕ) → Bytes bytes → triple_in make n bytes ≡ Ok (x, left) → Triple make n bytes x left
triple_read make n bytes x left k h =
    let s = step (below n bytes) (λ a mid. onward (positive 8 mid) (λ b mid. onward (number 8 mid) (λ c. give (make a b c)))) x left h in
    let p = below_read n bytes s.value s.left k s.was in
    let t = step (positive 8 s.left) (λ b mid. onward (number 8 mid) (λ c. give (make s.value b c))) x left s.then in
    let q = positive_read 8 s.left t.value t.left p.bytes_left t.was in
    let u = step (number 8 t.left) (λ c. give (make s.value t.value c)) x left t.then in
    let r = number_read 8 t.left u.value u.left q.bytes_left u.was in
    let e = both (make s.value t.value u.value) x u.left left u.then in
    record {
      a = s.value;
      b = t.value;
      c = u.value;
      value = e.0;
      is =
          p.is
          ∙ ap (λ z. s.value ∷ z)
          (q.is
          ∙ (ap (λ z. octets 8 t.value ++ z) (r.is ∙ ap (λ z. octets 8 u.value ++ z) e.1)
          ∙ sym (append_assoc (octets 8 t.value) (octets 8 u.value) left)));
      good = record { box = p.low; some = q.more; first = q.fits; second = r.fits };
      bytes_left = subst Bytes e.1 r.bytes_left;
    }
