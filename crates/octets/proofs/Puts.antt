-- Laws of bytes put into a list.
use Rattle.std.proofs.Common.{◌≡◌, ℕ, zero, suc, ◌+◌, ◌-◌, ◌/◌, ◌%◌, ◌<◌, ◌≤◌, List, [], ◌∷◌, ◌++◌, Result, Ok, Err, IsOk, OnOk, OnErr, slice_index_or, length, take, drop, set, sym, refl, ap, ◌∙◌, subst, append_assoc, add-zero, add_assoc, add-one, arith, length-append, length-drop, length-take}
use Rattle.std.proofs.lemmas.List.{ext_get_or, take-append-drop, take_at, drop_at, drop-drop, take-set-le, drop-set, set_split}
use borrow.Rule.Slice.PartMut.{put_mid}
use Rattle.octets.specs.Writes.{octets, put}

pub put_none : (at : ℕ) (old : List ℕ) → put at [] old ≡ old
unfolding put
put_none at old = rw (add-zero, take-append-drop)

pub length_put : (at : ℕ) (new old : List ℕ) → at + length new ≤ length old → length (put at new old) ≡ length old
unfolding put
length_put at new old h = simp (length-append, length-take, length-drop) (omega arith)

-- bytes put after bytes are their join put at once
pub put_put : (at next : ℕ) (a b old : List ℕ) → next ≡ at + length a → next ≤ length old → put next b (put at a old) ≡ put at (a ++ b) old
unfolding put
put_put at next a b old e h =
    subst (λ n. put n b (put at a old) ≡ put at (a ++ b) old) (sym e)
    (rw (front, back, length-append, ← add_assoc at (length a) (length b))
    (append_assoc (take at old) a _ ∙ ap (λ z. take at old ++ z) (sym (append_assoc a b _))))
  where
    whole : put at a old ≡ (take at old ++ a) ++ drop (at + length a) old
    whole = sym (append_assoc (take at old) a _)

    long : length (take at old ++ a) ≡ at + length a
    long = simp (length-append, length-take) (omega arith)

    front : take (at + length a) (put at a old) ≡ take at old ++ a
    front = ap (λ z. take (at + length a) z) whole ∙ take_at (take at old ++ a) (drop (at + length a) old) (at + length a) long

    back : drop (at + length a + length b) (put at a old) ≡ drop (at + length a + length b) old
    back =
        sym (drop-drop (length b) (at + length a) (put at a old))
        ∙ (ap (λ z. drop (length b) z) (ap (λ z. drop (at + length a) z) whole ∙ drop_at (take at old ++ a) (drop (at + length a) old) (at + length a) long)
        ∙ drop-drop (length b) (at + length a) old)

-- one byte written, and bytes put before it
pub put_set : (at : ℕ) (a old : List ℕ) (b : ℕ) → at + length a < length old → put at a (set old (at + length a) b) ≡ put at (a ++ (b ∷ [])) old
unfolding put
put_set at a old b h =
    let le : at ≤ at + length a = omega arith in
    rw (take-set-le at old (at + length a) b le, drop-set old (at + length a) b h, length-append, ← add_assoc at (length a) 1)
    (ap (λ z. take at old ++ z) (sym (append_assoc a (b ∷ []) _)))

pub length_octets : (k x : ℕ) → length (octets k x) ≡ k
unfolding octets
length_octets zero x = refl
length_octets (suc k) x = length-append (octets k (x / 256)) (x % 256 ∷ []) ∙ omega (arith, length_octets k (x / 256))

-- the last byte of a number written, what is before it is still to put
pub put_last : (at i x : ℕ) (old : List ℕ) → 0 < i → at + i ≤ length old → put at (octets (i - 1) (x / 256)) (set old (at + (i - 1)) (x % 256)) ≡ put at (octets i x) old
unfolding octets
put_last at zero x old z h = absurd (omega arith)
put_last at (suc k) x old z h =
    let e : suc k - 1 ≡ k = omega arith in
    let l : length (octets k (x / 256)) ≡ k = length_octets k (x / 256) in
    rw e (subst (λ m. put at (octets k (x / 256)) (set old (at + m) (x % 256)) ≡ put at (octets (suc k) x) old) l (put_set at (octets k (x / 256)) old (x % 256) (omega arith)))

-- one byte written is one byte put
pub put_one : (at : ℕ) (old : List ℕ) (b : ℕ) → at < length old → set old at b ≡ put at (b ∷ []) old
unfolding put
put_one at old b h = rw add-one (set_split old at b h)

-- where what an error would mean can't be, all went well
pub sure : {T E P : Type 0} (r : Result T E) → OnErr r P → (P → ⊥) → IsOk r
sure (Ok v) h n = refl
sure (Err e) h n = absurd (n h)

-- a list cloned over as many places is put there
pub put_cloned : {T E : Type 0} {r : Result T E} {v : T} (at k : ℕ) (old new from : List ℕ) → k ≡ length from → at + k ≤ length old → length new ≡ length (take k (drop at old)) → r ≡ Ok v
    → OnOk r ((i d : ℕ) → i < length (take k (drop at old)) → slice_index_or new i d ≡ slice_index_or from i d) → put_mid at k old new ≡ put at from old
unfolding put
put_cloned at k old new from n m l e w =
    ap (λ z. take at old ++ (z ++ drop k (drop at old))) (ext_get_or 0 new from (l ∙ (long ∙ n)) (λ i q. same i 0 (omega (arith, l))))
    ∙ ap (λ z. take at old ++ (from ++ z)) (drop-drop k at old ∙ ap (λ m. drop (at + m) old) n)
  where
    long : length (take k (drop at old)) ≡ k
    long = simp (length-take, length-drop) (omega arith)

    same : (i d : ℕ) → i < length (take k (drop at old)) → slice_index_or new i d ≡ slice_index_or from i d
    same = subst (λ r. OnOk r ((i d : ℕ) → i < length (take k (drop at old)) → slice_index_or new i d ≡ slice_index_or from i d)) e w

-- what was written so far from a place on, and the place after it
pub record Written (from : ℕ) (bytes old new : List ℕ) (next : ℕ) : Type 0 where
  pub is : new ≡ put from bytes old
  pub place : next ≡ from + length bytes

pub written_none : (from : ℕ) (old : List ℕ) → Written from [] old old from
written_none from old = record { is = sym (put_none from old); place = sym (add-zero from) }

-- bytes put at that place come after those written
pub then_bytes : {from : ℕ} {a : List ℕ} (b : List ℕ) {old one two : List ℕ} {at next : ℕ} → Written from a old one at → at ≤ length old → two ≡ put at b one → next ≡ at + length b → Written from (a ++ b) old two next
then_bytes {from} {a} b {old} {one} {two} {at} {next} w h e n =
    record {
      is = e ∙ (ap (λ z. put at b z) w.is ∙ put_put from at a b old w.place h);
      place = n ∙ (ap (λ z. z + length b) w.place ∙ (add_assoc from (length a) (length b) ∙ ap (λ z. from + z) (sym (length-append a b))));
    }

pub then_byte : {from : ℕ} {a : List ℕ} (b : ℕ) {old one two : List ℕ} {at next : ℕ} → Written from a old one at → at ≤ length old → two ≡ put at (b ∷ []) one → next ≡ at + 1 → Written from (a ++ (b ∷ [])) old two next
then_byte b w h e n = then_bytes (b ∷ []) w h e n

pub then_number : {from : ℕ} {a : List ℕ} (k x : ℕ) {old one two : List ℕ} {at next : ℕ} → Written from a old one at → at ≤ length old → two ≡ put at (octets k x) one → next ≡ at + k → Written from (a ++ octets k x) old two next
then_number k x {at = at} w h e n = then_bytes (octets k x) w h e (n ∙ ap (λ z. at + z) (sym (length_octets k x)))

-- the same bytes in other words
pub written_as : {from : ℕ} {a b old new : List ℕ} {next : ℕ} → a ≡ b → Written from a old new next → Written from b old new next
written_as {from} {a} {b} {old} {new} {next} e w = subst (λ z. Written from z old new next) e w

-- what was put at the front stands there
pub take_put : (bytes old : List ℕ) → take (length bytes) (put 0 bytes old) ≡ bytes
unfolding put
take_put bytes old = take_at bytes (drop (0 + length bytes) old) (length bytes) refl
