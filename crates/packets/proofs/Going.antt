-- An error goes to whoever sent the packet that it is for.
use Rattle.std.proofs.Common.{◌≡◌, ℕ, ◌+◌, ◌*◌, ◌/◌, ◌%◌, ◌<◌, ◌≤◌, Bool, true, false, cond, eqb, ltb, leb, List, ◌∷◌, ◌++◌, length, get_or, take, drop, Ok, Err, sym, refl, ◌∙◌, subst, ap₂, arith}
use Rattle.std.proofs.lemmas.List.{get_or-take, length-take, take-append-drop}
use Rattle.std.proofs.lemmas.Bool.{and_from, and_left, and_right, eq-eqb, le-leb, le-ltb, lt-ltb, ne_eqb}
use Rattle.checksum.specs.Bytes.{Bytes}
use Rattle.checksum.specs.Internet.{internet_sum, put_word}
use Rattle.checksum.proofs.Bytes.{bytes_at, bytes_left}
use Rattle.packets.specs.declared.values.Errand.TheVariants.{HandOut, Echo, Onward}
use Rattle.packets.specs.declared.values.Refusal.TheVariants.{Malformed, Address, Expired}
use Rattle.packets.specs.declared.values.Trouble.{Trouble}
use Rattle.packets.specs.declared.values.Trouble.TheVariants.{TimeExceeded, Unreachable}
use Rattle.packets.specs.Errands.{errand_of}
use Rattle.packets.specs.Errors.{error_header, error_of, error_quoting, error_start, is_error_type, trouble_type}
use Rattle.packets.specs.Packet.{asks_echo, box_from, box_to, has_addresses, is_address, is_echo, is_for_box, is_unbroken, is_whole, ttl_of}
use Rattle.packets.specs.Sums.{sum_fits, summed}
use Rattle.packets.specs.Travels.{ErrorGood, GoesTo}
use Rattle.packets.proofs.Fitting.{summed_fits}

-- any right packet with time to live that asks no echo
pub goes_to : (n : ℕ) (e : List ℕ) → is_whole e ≡ true → has_addresses n e ≡ true → 2 ≤ ttl_of e → asks_echo e ≡ false → GoesTo n (box_to e) e
goes_to n e w a t s k = way (is_whole e) (has_addresses n e) (eqb (box_to e) k) (is_echo k e) (ltb (ttl_of e) 2) w a no (le-ltb (ttl_of e) 2 t)
  where
    no : is_echo k e ≡ false
    no =
        and_right (leb 28 (length e)) _
        (and_right (is_for_box k e) _ (and_right (is_unbroken e) (asks_echo e) s))

    way : (w a h c x : Bool) → w ≡ true → a ≡ true → c ≡ false → x ≡ false
        → cond w (cond a (cond h (Ok (cond c Echo HandOut)) (cond x (Err Expired) (Ok (Onward (box_to e))))) (Err Address)) (Err Malformed)
        ≡ Ok (cond h HandOut (Onward (box_to e)))
    way w a true c x p q r s = rw (p, q, r)
    way w a false c x p q r s = rw (p, q, s)

-- the bytes of an error, with any sums
abbrev laid : (me t a b c d : ℕ) → List ℕ → List ℕ → List ℕ
laid me t a b c d q source =
    0x45 ∷ 0 ∷ 0 ∷ (28 + length q) ∷ 0 ∷ 0 ∷ 0 ∷ 0 ∷ 64 ∷ 1 ∷ a ∷ b ∷ 10 ∷ me ∷ 0 ∷ 1 ∷ get_or source 12 0 ∷ get_or source 13 0 ∷ get_or source 14 0 ∷ get_or source 15 0
    ∷ t ∷ 0 ∷ c ∷ d ∷ 0 ∷ 0 ∷ 0 ∷ 0 ∷ q

laid_good : (me t a b c d : ℕ) (p q : List ℕ) → is_error_type t ≡ true → (t ≡ 8 → ⊥)
    → sum_fits (take 20 (laid me t a b c d q p)) ≡ true → sum_fits (drop 20 (laid me t a b c d q p)) ≡ true
    → ErrorGood me p (laid me t a b c d q p)
laid_good me t a b c d p q kind other head message =
    record {
      whole = whole;
      message = message;
      known = and_from _ _ (lt-ltb 20 (length (laid me t a b c d q p)) (omega arith)) kind;
      goes = λ n l h. goes_to n (laid me t a b c d q p) whole (and_from (is_address n 10 me) (is_address n (get_or p 12 0) (box_from p)) (lt-ltb me n l) h) (omega arith) (and_left (eqb t 8) _ (ne_eqb t 8 other));
    }
  where
    whole : is_whole (laid me t a b c d q p) ≡ true
    whole =
        and_from _ _ (le-leb 20 (length (laid me t a b c d q p)) (omega arith))
        (and_from _ _ (eq-eqb (0 * 256 + (28 + length q)) (length (laid me t a b c d q p)) (omega arith)) head)

kind_small : (t : Trouble) → trouble_type t < 256
kind_small TimeExceeded = omega arith
kind_small Unreachable = omega arith

kind_known : (t : Trouble) → is_error_type (trouble_type t) ≡ true
kind_known TimeExceeded = refl
kind_known Unreachable = refl

kind_other : (t : Trouble) → trouble_type t ≡ 8 → ⊥
kind_other TimeExceeded h = omega arith
kind_other Unreachable h = omega arith

quoting_good : (me : ℕ) (trouble : Trouble) (q : List ℕ) → me < 256 → length q ≤ 28 → Bytes q → ErrorGood me q (error_quoting me trouble q)
unfolding summed
quoting_good me trouble q l few b =
    laid_good me (trouble_type trouble) (high (head_sum me q)) (low (head_sum me q)) (high (text_sum trouble q)) (low (text_sum trouble q)) q q (kind_known trouble) (kind_other trouble)
    (summed_fits (error_header me q) 10 head_bytes refl (omega arith))
    (summed_fits (error_start trouble ++ q) 2 text_bytes refl (omega arith))
  where
    high : ℕ → ℕ
    high w = w / 256

    low : ℕ → ℕ
    low w = w % 256

    head_sum : ℕ → List ℕ → ℕ
    head_sum me q = internet_sum (put_word (error_header me q) 10 0)

    text_sum : Trouble → List ℕ → ℕ
    text_sum trouble q = internet_sum (put_word (error_start trouble ++ q) 2 0)

    head_bytes : Bytes (error_header me q)
    head_bytes = (omega arith, (omega arith, (omega arith, (omega arith, (omega arith, (omega arith, (omega arith, (omega arith, (omega arith, (omega arith, (omega arith, (omega arith, (omega arith, (omega arith, (omega arith, (omega arith, (bytes_at q 12 b, (bytes_at q 13 b, (bytes_at q 14 b, (bytes_at q 15 b, tt))))))))))))))))))))

    text_bytes : Bytes (error_start trouble ++ q)
    text_bytes = (kind_small trouble, (omega arith, (omega arith, (omega arith, (omega arith, (omega arith, (omega arith, (omega arith, b))))))))

-- the error for a packet is as good as what it quotes
pub error_good_lem : (me : ℕ) (trouble : Trouble) (p : List ℕ) → me < 256 → Bytes p → ErrorGood me p (error_of me trouble p)
error_good_lem me trouble p l b =
    let g = quoting_good me trouble (take 28 p) l few (bytes_left (take 28 p) (drop 28 p) (subst Bytes (sym (take-append-drop 28 p)) b)) in
    record {
      whole = g.whole;
      message = g.message;
      known = g.known;
      goes = λ n m h k.
          subst (λ x. errand_of n k (error_of me trouble p) ≡ Ok (cond (eqb x k) HandOut (Onward x))) (at 13 (omega arith))
          (g.goes n m (ap₂ (is_address n) (at 12 (omega arith)) (at 13 (omega arith)) ∙ h) k);
    }
  where
    few : length (take 28 p) ≤ 28
    few = simp length-take (omega arith)

    at : (i : ℕ) → i < 28 → get_or (take 28 p) i 0 ≡ get_or p i 0
    at i h = get_or-take 28 p i 0 h
