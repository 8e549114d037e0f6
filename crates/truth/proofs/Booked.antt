-- The lines for the journal among the parcels.
use Rattle.std.proofs.Common.{◌≡◌, ℕ, zero, suc, ◌+◌, ◌*◌, ◌/◌, ◌%◌, ◌^◌, ◌<◌, ◌≤◌, Bool, true, false, cond, eqb, List, [], ◌∷◌, ◌++◌, length, take, drop, sym, refl, ap, eqb-true, ◌∙◌, ap₂, append_assoc, append-nil, arith, length-append, length-drop}
use Rattle.std.specs.List.{flat_map}
use Rattle.std.proofs.lemmas.List.{take_at, drop_at}
use Rattle.octets.specs.Writes.{octets}
use Rattle.outbox.specs.Parcels.{parcel_bytes, sealed}
use Rattle.outbox.proofs.Taking.{length_parcel}
use Rattle.linkmodel.specs.Station.{Out}
use Rattle.node.specs.Book.{Note, book_bytes, line_bytes}
use Rattle.node.specs.Wires.{frame_bytes, out_bytes}
use Rattle.truth.specs.Book.{book_in, booked}

-- no more parcels are looked for than there are bytes
same : (f g : ℕ) (bs : List ℕ) → length bs ≤ f → length bs ≤ g → booked f bs ≡ booked g bs
unfolding booked
same zero zero bs a b = refl
same zero (suc g) [] a b = refl
same zero (suc g) (x ∷ bs) a b = absurd (omega arith)
same (suc f) zero [] a b = refl
same (suc f) zero (x ∷ bs) a b = absurd (omega arith)
same (suc f) (suc g) [] a b = refl
same (suc f) (suc g) (x ∷ []) a b = refl
same (suc f) (suc g) (x ∷ y ∷ []) a b = refl
same (suc f) (suc g) (x ∷ y ∷ z ∷ bs) a b =
    ap (λ w. cond (eqb x 9) (take (y * 256 + z) bs) [] ++ w)
    (same f g (drop (y * 256 + z) bs) (omega (arith, length-drop (y * 256 + z) bs)) (omega (arith, length-drop (y * 256 + z) bs)))

-- the bytes of a parcel for this port that go into the journal
abbrev pub booked_of : ℕ → List ℕ → List ℕ
booked_of port bytes = cond (eqb port 9) bytes []

parcel_front : (k port x y n : ℕ) (bytes rest : List ℕ) → x * 256 + y ≡ n → n ≡ length bytes → booked (suc k) (port ∷ x ∷ y ∷ (bytes ++ rest)) ≡ booked_of port bytes ++ booked k rest
unfolding booked
parcel_front k port x y n bytes rest e l =
    ap (λ z. cond (eqb port 9) (take z (bytes ++ rest)) [] ++ booked k (drop z (bytes ++ rest))) (e ∙ l)
    ∙ ap₂ (λ a b. cond (eqb port 9) a [] ++ booked k b) (take_at bytes rest (length bytes) refl) (drop_at bytes rest (length bytes) refl)

two_octets : (n : ℕ) → n < 2 ^ 16 → (n / 256 % 256) * 256 + n % 256 ≡ n
two_octets n h = omega arith

parcel_first : (k port : ℕ) (bytes rest : List ℕ) → length bytes < 2 ^ 16 → booked (suc k) (parcel_bytes port bytes ++ rest) ≡ booked_of port bytes ++ booked k rest
unfolding octets
parcel_first k port bytes rest l = parcel_front k port (length bytes / 256 % 256) (length bytes % 256) (length bytes) bytes rest (two_octets (length bytes) l) refl

-- these bytes are whole parcels, and this is what goes into the journal of them
abbrev pub Booked : List ℕ → List ℕ → Type 0
Booked given book = (rest : List ℕ) → book_in (given ++ rest) ≡ book ++ book_in rest

pub booked_all : (given book : List ℕ) → Booked given book → book_in given ≡ book
unfolding booked
booked_all given book h = ap book_in (sym (append-nil given)) ∙ (h [] ∙ append-nil book)

pub booked_none : Booked [] []
booked_none rest = refl

pub booked_then : (a x b y : List ℕ) → Booked a x → Booked b y → Booked (a ++ b) (x ++ y)
booked_then a x b y h k rest =
    ap book_in (append_assoc a b rest) ∙ (h (b ++ rest) ∙ (ap (λ z. x ++ z) (k rest) ∙ sym (append_assoc x y (book_in rest))))

pub booked_parcel : (port : ℕ) (bytes : List ℕ) → length bytes < 2 ^ 16 → Booked (parcel_bytes port bytes) (booked_of port bytes)
booked_parcel port bytes l rest =
    let n : length (parcel_bytes port bytes ++ rest) ≡ (length bytes + 3) + length rest = length-append (parcel_bytes port bytes) rest ∙ ap (λ z. z + length rest) (length_parcel port bytes) in
    same (length (parcel_bytes port bytes ++ rest)) (suc (length bytes + 2 + length rest)) (parcel_bytes port bytes ++ rest) (omega arith) (omega (arith, n))
    ∙ (parcel_first (length bytes + 2 + length rest) port bytes rest l
    ∙ ap (λ z. booked_of port bytes ++ z) (same (length bytes + 2 + length rest) (length rest) rest (omega arith) (omega arith)))

-- a line goes in as it is
pub booked_line : (t : ℕ) (x : Note) → length (line_bytes t x) < 2 ^ 16 → Booked (book_bytes t x) (line_bytes t x)
booked_line t x l = booked_parcel 9 (line_bytes t x) l

-- each goes out over a wire
unfoldable pub OverWires : List Out → Type 0
OverWires [] = Unit {0}
OverWires (o ∷ os) = (o.on ≤ 8) × OverWires os

over_wire : (port : ℕ) (bytes : List ℕ) → port ≤ 8 → booked_of port bytes ≡ []
over_wire port bytes h = go (eqb port 9) refl
  where
    go : (b : Bool) → eqb port 9 ≡ b → cond b bytes [] ≡ []
    go true e = absurd (omega (arith, eqb-true port 9 e))
    go false e = refl

pub booked_wire : (port : ℕ) (bytes : List ℕ) → port ≤ 8 → length bytes < 2 ^ 16 → Booked (parcel_bytes port bytes) []
booked_wire port bytes p l rest = booked_parcel port bytes l rest ∙ ap (λ z. z ++ book_in rest) (over_wire port bytes p)

pub booked_outs : (os : List Out) → OverWires os → length (flat_map out_bytes os) ≤ 2 ^ 16 → Booked (flat_map out_bytes os) []
unfolding OverWires
booked_outs [] p l = booked_none
booked_outs (o ∷ os) p l =
    let a : length (out_bytes o ++ flat_map out_bytes os) ≡ length (out_bytes o) + length (flat_map out_bytes os) = length-append (out_bytes o) (flat_map out_bytes os) in
    booked_then (out_bytes o) [] (flat_map out_bytes os) []
    (booked_wire o.on (sealed (frame_bytes o.frame)) p.0 (omega (arith, a, length_parcel o.on (sealed (frame_bytes o.frame)))))
    (booked_outs os p.1 (omega (arith, a)))
