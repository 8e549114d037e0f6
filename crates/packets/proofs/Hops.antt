-- A header that falls inside a packet, and stays right.
use Rattle.std.proofs.Common.{◌≡◌, ℕ, suc, ◌+◌, ◌-◌, ◌*◌, ◌/◌, ◌%◌, ◌<◌, ◌≤◌, true, ◌&&◌, eqb, ltb, leb, List, ◌++◌, length, get_or, take, drop, set, sym, refl, ap, ◌∙◌, subst, ap₂, arith, length-set, get_or-set_other, get_or-set_same}
use Rattle.std.proofs.lemmas.List.{get_or_append_left, get_or-take, length-take-le, set-append_left, take_all, take-append-drop, take_at, take-take}
use Rattle.std.proofs.lemmas.Bool.{and_from, and_parts, cond-true, eq-eqb, eqb-true, le-leb, leb-true, lt-ltb}
use Rattle.checksum.specs.Bytes.{Bytes}
use Rattle.checksum.specs.Internet.{TtlFalls, header_fits, internet_sum, mended_sum, put_word, word_at}
use Rattle.packets.specs.Packet.{StaysRight, fallen, handed_on, ttl_of}
use Rattle.packets.specs.Sums.{sum_fits}
use Rattle.packets.specs.Travels.{StaysWhole}
use Rattle.packets.proofs.Fitting.{fits_right, right_fits}
use Rattle.packets.proofs.Summing.{over}

-- the word that was put in is there
word_put : (bytes : List ℕ) (at w : ℕ) → suc at < length bytes → word_at (put_word bytes at w) at ≡ w
word_put bytes at w l =
    let a : get_or (put_word bytes at w) at 0 ≡ w / 256
    = get_or-set_other (set bytes at (w / 256)) (suc at) at (w % 256) 0 (omega arith) ∙ get_or-set_same bytes at (w / 256) 0 (omega arith) in
    let b : get_or (put_word bytes at w) (suc at) 0 ≡ w % 256
    = get_or-set_same (set bytes at (w / 256)) (suc at) (w % 256) 0 (omega (arith, length-set bytes at (w / 256))) in
    ap₂ (λ x y. x * 256 + y) a b ∙ omega arith

length_word : (bytes : List ℕ) (at w : ℕ) → length (put_word bytes at w) ≡ length bytes
length_word bytes at w = simp length-set

-- a header of 20 bytes with a time to live one less
pub header_right : (h after : List ℕ) (r : ℕ) → Bytes h → length h ≡ 20 → after ≡ put_word (set h 8 (ttl_of h - 1)) 10 r
    → TtlFalls (word_at h 10) (word_at h 8) (word_at h 8 - 256) r → StaysRight h after
header_right h after r b l e falls _ first ttl fits =
    let g : List ℕ = set h 8 (ttl_of h - 1) in
    let lg : length g ≡ 20 = length-set h 8 (ttl_of h - 1) ∙ l in
    let whole : take 20 h ≡ h = take_all 20 h (omega arith) in
    let long : length after ≡ 20 = ap length e ∙ (length_word g 10 r ∙ lg) in
    let same : take 20 after ≡ after = take_all 20 after (omega arith) in
    let f = falls h b (omega arith) first ttl (subst (λ z. header_fits z) whole fits) refl refl refl in (
      ap (λ z. word_at z 10) e ∙ (word_put g 10 r (omega arith) ∙ (f.0
          ∙ ap internet_sum (sym (ap (λ z. put_word z 10 0) (same ∙ e) ∙ over g 10 (r / 256) (r % 256) 0 0)))),
      subst (λ z. header_fits z) (sym (same ∙ e)) f.1,
    )

-- what falls is in the first 20 bytes
fallen_front : (p : List ℕ) → 20 ≤ length p → fallen (take 20 p) ++ drop 20 p ≡ fallen p
fallen_front p l =
    let n : length (take 20 p) ≡ 20 = length-take-le 20 p l in
    let at : (i : ℕ) → i < 20 → get_or (take 20 p) i 0 ≡ get_or p i 0 = λ i h. get_or-take 20 p i 0 h in
    ap (λ z. z ++ drop 20 p)
    (ap₂ (λ x y. set (set (set (take 20 p) 8 (x - 1)) 10 (y / 256)) 11 (y % 256)) (at 8 (omega arith)) words)
    ∙ (sym (set-append_left (set (set (take 20 p) 8 (ttl_of p - 1)) 10 (m / 256)) (drop 20 p) 11 (m % 256) (simp length-set (omega arith)))
    ∙ (ap (λ z. set z 11 (m % 256))
    (sym (set-append_left (set (take 20 p) 8 (ttl_of p - 1)) (drop 20 p) 10 (m / 256) (simp length-set (omega arith)))
    ∙ ap (λ z. set z 10 (m / 256)) (sym (set-append_left (take 20 p) (drop 20 p) 8 (ttl_of p - 1) (omega arith))
    ∙ ap (λ z. set z 8 (ttl_of p - 1)) (take-append-drop 20 p)))))
  where
    m : ℕ
    m = mended_sum (word_at p 10) (word_at p 8) (word_at p 8 - 256)

    words : mended_sum (word_at (take 20 p) 10) (word_at (take 20 p) 8) (word_at (take 20 p) 8 - 256) ≡ m
    words =
        let at : (i : ℕ) → i < 20 → get_or (take 20 p) i 0 ≡ get_or p i 0 = λ i h. get_or-take 20 p i 0 h in
        let a : word_at (take 20 p) 10 ≡ word_at p 10 = ap₂ (λ x y. x * 256 + y) (at 10 (omega arith)) (at 11 (omega arith)) in
        let b : word_at (take 20 p) 8 ≡ word_at p 8 = ap₂ (λ x y. x * 256 + y) (at 8 (omega arith)) (at 9 (omega arith)) in
        ap₂ (λ x y. mended_sum x y (y - 256)) a b

pub handed : (p x : List ℕ) → 20 ≤ length p → (ttl_of p ≡ 0 → ⊥) → x ≡ fallen (take 20 p) → x ++ drop 20 p ≡ handed_on p
handed p x l t e =
    let yes : (leb 20 (length p) && ltb 0 (ttl_of p)) ≡ true = and_from (leb 20 (length p)) (ltb 0 (ttl_of p)) (le-leb 20 (length p) l) (lt-ltb 0 (ttl_of p) (omega arith)) in
    ap (λ z. z ++ drop 20 p) e ∙ (fallen_front p l ∙ sym (cond-true (leb 20 (length p) && ltb 0 (ttl_of p)) (fallen p) p yes))

pub packet_right : (p x : List ℕ) → 20 ≤ length p → x ≡ fallen (take 20 p) → StaysRight (take 20 p) x → StaysRight p (x ++ drop 20 p)
packet_right p x l e s _ first ttl fits =
    let n : length (take 20 p) ≡ 20 = length-take-le 20 p l in
    let lx : length x ≡ 20 = ap length e ∙ simp length-set n in
    let front : take 20 (x ++ drop 20 p) ≡ x = take_at x (drop 20 p) 20 lx in
    let same : take 20 x ≡ x = take_all 20 x (omega arith) in
    let at : (i : ℕ) → i < 20 → get_or p i 0 ≡ get_or (take 20 p) i 0 = λ i h. sym (get_or-take 20 p i 0 h) in
    let r = s (omega arith) (subst (λ z. 0 < z) (at 0 (omega arith)) first) (subst (λ z. 0 < z) (at 8 (omega arith)) ttl)
    (subst (λ z. header_fits z) (sym (take-take 20 20 p (omega arith))) fits) in
    let word : word_at (x ++ drop 20 p) 10 ≡ word_at x 10
    = ap₂ (λ a b. a * 256 + b) (get_or_append_left x (drop 20 p) 0 10 (omega arith)) (get_or_append_left x (drop 20 p) 0 11 (omega arith)) in (
      word ∙ (r.0 ∙ ap (λ z. internet_sum (put_word z 10 0)) (same ∙ sym front)),
      subst (λ z. header_fits z) (same ∙ sym front) r.1,
    )

-- what a header says of itself is not touched
pub stays_whole_lem : (p after : List ℕ) → after ≡ handed_on p → StaysRight p after → StaysWhole p after
stays_whole_lem p after e right w ttl =
    let a = and_parts (leb 20 (length p)) _ w in
    let b = and_parts (eqb (get_or p 0 0) 0x45) _ a.1 in
    let c = and_parts (eqb (word_at p 2) (length p)) (sum_fits (take 20 p)) b.1 in
    let l : 20 ≤ length p = leb-true 20 (length p) a.0 in
    let first : get_or p 0 0 ≡ 0x45 = eqb-true (get_or p 0 0) 0x45 b.0 in
    let yes : (leb 20 (length p) && ltb 0 (ttl_of p)) ≡ true = and_from (leb 20 (length p)) (ltb 0 (ttl_of p)) a.0 (lt-ltb 0 (ttl_of p) ttl) in
    let is : after ≡ fallen p = e ∙ cond-true (leb 20 (length p) && ltb 0 (ttl_of p)) (fallen p) p yes in
    let long : length after ≡ length p = ap length is ∙ simp length-set in
    let fits = right l (omega arith) ttl (fits_right (take 20 p) c.1) in
    and_from (leb 20 (length after)) _ (le-leb 20 (length after) (omega arith))
    (and_from (eqb (get_or after 0 0) 0x45) _ (eq-eqb (get_or after 0 0) 0x45 (ap (λ z. get_or z 0 0) is ∙ (same p 0 (omega arith) ∙ first)))
    (and_from (eqb (word_at after 2) (length after)) (sum_fits (take 20 after))
    (ap₂ eqb (ap (λ z. word_at z 2) is ∙ ap₂ (λ x y. x * 256 + y) (same p 2 (omega arith)) (same p 3 (omega arith))) long ∙ c.0)
    (right_fits (take 20 after) fits.1)))
  where
    same : (p : List ℕ) (i : ℕ) → i < 8 → get_or (fallen p) i 0 ≡ get_or p i 0
    same p i h =
        get_or-set_other (set (set p 8 _) 10 _) 11 i _ 0 (omega arith)
        ∙ (get_or-set_other (set p 8 _) 10 i _ 0 (omega arith) ∙ get_or-set_other p 8 i _ 0 (omega arith))
