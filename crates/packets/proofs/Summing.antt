-- A word written over another, and the sums of a packet's two parts.
use Rattle.std.proofs.Common.{◌≡◌, ℕ, zero, suc, ◌+◌, ◌-◌, ◌/◌, ◌%◌, ◌<◌, ◌≤◌, List, [], ◌∷◌, ◌++◌, length, take, drop, set, sym, refl, ap, ◌∙◌, ap₂, zero-add, arith, length-append, length-drop, length-set, length-take}
use borrow.Rule.Slice.PartMut.{put_mid, post_of}
use Rattle.std.proofs.lemmas.List.{append-nil, drop_all, drop_at, set_comm, set-set, take-append-drop, take_at, take_rest}
use Rattle.checksum.specs.Internet.{internet_sum, put_word}
use Rattle.octets.specs.Writes.{put}
use Rattle.octets.proofs.Puts.{take_put}
use Rattle.packets.specs.Sums.{both_summed, summed}

-- two bytes over two others
pub over : (bytes : List ℕ) (at x y u v : ℕ) → set (set (set (set bytes at x) (suc at) y) at u) (suc at) v ≡ set (set bytes at u) (suc at) v
over bytes at x y u v =
    ap (λ z. set z (suc at) v) (set_comm (set bytes at x) (suc at) at y u (omega arith) ∙ ap (λ z. set z (suc at) y) (set-set bytes at x u))
    ∙ set-set (set bytes at u) (suc at) y v

-- two bytes in the place of two others
put_two : (bytes : List ℕ) (at x y : ℕ) → suc at < length bytes → put_mid at 2 bytes (x ∷ y ∷ []) ≡ set (set bytes at x) (suc at) y
put_two [] at x y l = absurd (omega arith)
put_two (a ∷ []) at x y l = absurd (omega arith)
put_two (a ∷ b ∷ bytes) zero x y l = refl
put_two (a ∷ b ∷ bytes) (suc at) x y l = ap (λ z. a ∷ z) (put_two (b ∷ bytes) at x y (omega arith))

-- a word as the code writes it
pub word_as : (bytes : List ℕ) (at w : ℕ) (two : List ℕ) → suc at < length bytes → w < 65536 → two ≡ w / 256 % 256 ∷ w % 256 ∷ [] → put_mid at 2 bytes two ≡ put_word bytes at w
word_as bytes at w two b l e =
    let h : w / 256 % 256 ≡ w / 256 = omega arith in
    ap (put_mid at 2 bytes) e ∙ (put_two bytes at (w / 256 % 256) (w % 256) b ∙ ap (λ x. set (set bytes at x) (suc at) (w % 256)) h)

-- the sum put in over two zeros
pub summed_as : (bytes : List ℕ) (at n w : ℕ) (zeros two : List ℕ) → n ≡ 2 → at + 1 < length bytes → zeros ≡ 0 ∷ 0 ∷ [] → w ≡ internet_sum (put_mid at n bytes zeros) → w < 65536
    → two ≡ w / 256 % 256 ∷ w % 256 ∷ [] → put_mid at n (put_mid at n bytes zeros) two ≡ summed at bytes
unfolding summed
summed_as bytes at n w zeros two m b z s l e =
    let blank : put_mid at n bytes zeros ≡ put_word bytes at 0 = ap₂ (λ k x. put_mid at k bytes x) m z ∙ put_two bytes at 0 0 (omega arith) in
    let f : suc at < length (put_word bytes at 0) = simp length-set (omega arith) in
    ap₂ (λ k x. put_mid at k x two) m blank ∙ (word_as (put_word bytes at 0) at w two f l e
    ∙ (over bytes at 0 0 (w / 256) (w % 256) ∙ ap (put_word bytes at) (s ∙ ap internet_sum blank)))

pub length_summed : (at : ℕ) (bytes : List ℕ) → length (summed at bytes) ≡ length bytes
unfolding summed
length_summed at bytes = simp length-set

pub length_both : (bytes : List ℕ) → length (both_summed bytes) ≡ length bytes
length_both bytes =
    length-append (summed 10 (take 20 bytes)) (summed 2 (drop 20 bytes))
    ∙ ap₂ (λ x y. x + y) (length_summed 10 (take 20 bytes)) (length_summed 2 (drop 20 bytes))
    ∙ sym (length-append (take 20 bytes) (drop 20 bytes))
    ∙ ap length (take-append-drop 20 bytes)

-- the sum of the front put in, and then that of the rest
pub in_turn_lem : (p x y : List ℕ) → 28 ≤ length p → x ≡ summed 10 (take 20 p)
    → y ≡ summed 2 (take (length (x ++ post_of 0 20 p) - 20) (drop 20 (x ++ post_of 0 20 p)))
    → put_mid 20 (length (x ++ post_of 0 20 p) - 20) (x ++ post_of 0 20 p) y ≡ both_summed p
in_turn_lem p x y l ex ey =
    let lx : length x ≡ 20 = ap length ex ∙ length_summed 10 (take 20 p) ∙ simp length-take (omega arith) in
    let front : take 20 (x ++ drop 20 p) ≡ x = take_at x (drop 20 p) 20 lx in
    let back : drop 20 (x ++ drop 20 p) ≡ drop 20 p = drop_at x (drop 20 p) 20 lx in
    let none : drop (length (x ++ drop 20 p) - 20) (drop 20 (x ++ drop 20 p)) ≡ []
    = drop_all (length (x ++ drop 20 p) - 20) (drop 20 (x ++ drop 20 p)) (simp (length-drop, length-append) (omega arith)) in
    ap₂ (λ a b. a ++ b) (front ∙ ex)
    (ap (λ z. y ++ z) none ∙ append-nil y ∙ ey ∙ ap (summed 2) (take_rest (x ++ drop 20 p) 20 ∙ back))

-- both sums put into what was written at the front of a buffer
pub put_both : (bytes old now x : List ℕ) (n : ℕ) → n ≡ length bytes → now ≡ put 0 bytes old → x ≡ both_summed (take (n - 0) now)
    → x ++ post_of 0 (n - 0) now ≡ put 0 (both_summed bytes) old
unfolding put
put_both bytes old now x n en e ex =
    let m : n - 0 ≡ length bytes = omega arith in
    let z : 0 + length bytes ≡ length bytes = zero-add (length bytes) in
    let front : take (n - 0) now ≡ bytes = ap₂ take m e ∙ take_put bytes old in
    let back : drop (n - 0) now ≡ drop (0 + length (both_summed bytes)) old
    = ap₂ drop m e ∙ (drop_at bytes (drop (0 + length bytes) old) (length bytes) refl ∙ ap (λ k. drop (0 + k) old) (sym (length_both bytes))) in
    ap₂ (λ a b. a ++ b) (ex ∙ ap both_summed front) back
