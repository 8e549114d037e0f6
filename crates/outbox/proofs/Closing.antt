-- What stands in the buffer once a parcel's head and its sum are written.
use Rattle.std.proofs.Common.{◌≡◌, ℕ, ◌+◌, ◌≤◌, List, [], ◌∷◌, ◌++◌, length, take, drop, sym, ap, ◌∙◌, append_assoc, arith, length-append, length-drop, length-take}
use Rattle.std.proofs.lemmas.List.{take-append-drop, take_at}
use Rattle.octets.specs.Writes.{octets, put}
use Rattle.octets.proofs.Puts.{put_put, length_octets}
use Rattle.outbox.specs.Parcels.{parcel_bytes}

-- all of one list and some of the next
pub take_past : (a b : List ℕ) (n k : ℕ) → length a ≡ n → k ≤ length b → take (n + k) (a ++ b) ≡ a ++ take k b
take_past a b n k e h =
    ap (λ z. take (n + k) z) (ap (λ z. a ++ z) (sym (take-append-drop k b)) ∙ sym (append_assoc a (take k b) (drop k b)))
    ∙ take_at (a ++ take k b) (drop k b) (n + k) (simp (length-append, length-take) (omega arith))

-- a head put before k bytes
pub headed : (old head : List ℕ) (at m k : ℕ) → length head ≡ m → at + m + k ≤ length old → take (at + m + k) (put at head old) ≡ take at old ++ (head ++ take k (drop (at + m) old))
unfolding put
headed old head at m k e h =
    ap (λ z. take (at + m + k) z) (ap (λ z. take at old ++ (head ++ drop (at + z) old)) e ∙ sym (append_assoc (take at old) head (drop (at + m) old)))
    ∙ (take_past (take at old ++ head) (drop (at + m) old) (at + m) k (simp (length-append, length-take) (omega arith)) (simp length-drop (omega arith))
    ∙ append_assoc (take at old) head (take k (drop (at + m) old)))

-- the head of a parcel, written in two steps
pub closed : (old one two : List ℕ) (used next last port k : ℕ) → used + k + 3 ≤ length old → one ≡ put used (port ∷ []) old → next ≡ used + 1 → two ≡ put next (octets 2 k) one → last ≡ next + 2
    → take (last + k) two ≡ take used old ++ parcel_bytes port (take k (drop (used + 3) old))
closed old one two used next last port k h e1 n1 e2 n2 =
    let both : two ≡ put used (port ∷ octets 2 k) old = e2 ∙ (ap (λ z. put next (octets 2 k) z) e1 ∙ put_put used next (port ∷ []) (octets 2 k) old n1 (omega arith)) in
    let long : length (take k (drop (used + 3) old)) ≡ k = simp (length-take, length-drop) (omega arith) in
    let head : length (port ∷ octets 2 k) ≡ 3 = omega (arith, length_octets 2 k) in
    let place : last + k ≡ used + 3 + k = omega arith in
    ap (λ z. take z two) place ∙ (ap (λ z. take (used + 3 + k) z) both
    ∙ (headed old (port ∷ octets 2 k) used 3 k head (omega arith)
    ∙ ap (λ z. take used old ++ (port ∷ (octets 2 z ++ take k (drop (used + 3) old)))) (sym long)))
