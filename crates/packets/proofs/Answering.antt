-- The answer to an echo goes to whoever asked.
use Rattle.std.proofs.Common.{◌≡◌, ℕ, zero, suc, ◌+◌, ◌<◌, ◌≤◌, Bool, true, false, cond, eqb, ltb, leb, List, [], ◌∷◌, ◌++◌, length, get_or, take, drop, set, Ok, Err, sym, refl, ap, ◌∙◌, subst, add-zero, arith}
use borrow.Rule.Slice.PartMut.{put_mid}
use Rattle.std.proofs.lemmas.List.{drop_more}
use Rattle.std.proofs.lemmas.Bool.{and_from, and_parts, and_right, cond-true, le-leb, leb-true}
use Rattle.checksum.specs.Bytes.{Bytes}
use Rattle.checksum.specs.Internet.{word_at}
use Rattle.checksum.proofs.Bytes.{bytes_at}
use Rattle.octets.specs.Writes.{put}
use Rattle.packets.specs.declared.values.Errand.TheVariants.{HandOut, Echo, Onward}
use Rattle.packets.specs.declared.values.Refusal.TheVariants.{Malformed, Address, Expired}
use Rattle.packets.specs.Errands.{errand_of}
use Rattle.packets.specs.Packet.{answered, box_from, box_to, echoed, has_addresses, is_address, is_echo, is_whole, ttl_of}
use Rattle.packets.specs.Sums.{both_summed, sum_fits, summed}
use Rattle.packets.specs.Travels.{EchoGood, GoesTo}
use Rattle.packets.proofs.Fitting.{summed_fits}
use Rattle.packets.proofs.Going.{goes_to}

-- what an echo's errand says of its packet
record Asked (n me : ℕ) (p : List ℕ) : Type 0 where
  whole : is_whole p ≡ true
  addresses : has_addresses n p ≡ true
  echo : is_echo me p ≡ true

asked : (n me : ℕ) (p : List ℕ) → errand_of n me p ≡ Ok Echo → Asked n me p
asked n me p h =
    let t = from (is_whole p) (has_addresses n p) (eqb (box_to p) me) (is_echo me p) (ltb (ttl_of p) 2) (box_to p) h in
    record { whole = t.0; addresses = t.1; echo = t.2 }
  where
    from : (w a i e x : Bool) (b : ℕ) → cond w (cond a (cond i (Ok (cond e Echo HandOut)) (cond x (Err Expired) (Ok (Onward b)))) (Err Address)) (Err Malformed) ≡ Ok Echo
        → (w ≡ true) × (a ≡ true) × (e ≡ true)
    from true true true true x b h = (refl, refl, refl)
    from true true true false x b h = let z : ◌≡◌ {A = ℕ} 0 1 = cc in absurd (omega arith)
    from true true false e true b h = let z : ◌≡◌ {A = ℕ} 0 1 = cc in absurd (omega arith)
    from true true false e false b h = let z : ◌≡◌ {A = ℕ} 0 1 = cc in absurd (omega arith)
    from true false i e x b h = let z : ◌≡◌ {A = ℕ} 0 1 = cc in absurd (omega arith)
    from false a i e x b h = let z : ◌≡◌ {A = ℕ} 0 1 = cc in absurd (omega arith)

-- the first so many bytes from a place on, one by one
abbrev one_by_one : ℕ → ℕ → List ℕ → List ℕ
one_by_one zero i p = []
one_by_one (suc k) i p = get_or p i 0 ∷ one_by_one k (i + 1) p

one_by_one_lem : (k i : ℕ) (p : List ℕ) → i + k ≤ length p → drop i p ≡ one_by_one k i p ++ drop (i + k) p
one_by_one_lem zero i p l = ap (λ z. drop z p) (sym (add-zero i))
one_by_one_lem (suc k) i p l =
    let e : i + 1 + k ≡ i + suc k = omega arith in
    drop_more p i 0 (omega arith) ∙ ap (λ z. get_or p i 0 ∷ z) (one_by_one_lem k (i + 1) p (omega arith) ∙ ap (λ z. one_by_one k (i + 1) p ++ drop z p) e)

bytes_drop : (k : ℕ) (xs : List ℕ) → Bytes xs → Bytes (drop k xs)
bytes_drop zero xs h = h
bytes_drop (suc k) [] h = tt
bytes_drop (suc k) (x ∷ xs) h = bytes_drop k xs h.1

-- the first k after the rest
abbrev turned_of : ℕ → List ℕ → List ℕ
turned_of k xs = drop k xs ++ take k xs

-- a packet of 24 bytes and more
module _ (x0 x1 x2 x3 x4 x5 x6 x7 x8 x9 x10 x11 x12 x13 x14 x15 x16 x17 x18 x19 x20 x21 x22 x23 : ℕ) (rest : List ℕ) where
  abbrev asking : List ℕ
  asking = x0 ∷ x1 ∷ x2 ∷ x3 ∷ x4 ∷ x5 ∷ x6 ∷ x7 ∷ x8 ∷ x9 ∷ x10 ∷ x11 ∷ x12 ∷ x13 ∷ x14 ∷ x15 ∷ x16 ∷ x17 ∷ x18 ∷ x19 ∷ x20 ∷ x21 ∷ x22 ∷ x23 ∷ rest

  laid_good : ((i : ℕ) → get_or asking i 0 < 256) → Bytes rest → (n me : ℕ) → Asked n me asking
      → (sum_fits (drop 20 (both_summed (answered asking))) ≡ true) × GoesTo n (box_from asking) (both_summed (answered asking))
  unfolding put summed
  laid_good at more n me h =
      let a = and_parts (leb 20 (length asking)) _ h.whole in
      let b = and_parts (eqb x0 0x45) _ a.1 in
      let c = and_parts (eqb (word_at asking 2) (length asking)) (sum_fits (take 20 asking)) b.1 in
      let d = and_parts (is_address n x12 x13) (is_address n x16 x17) h.addresses in
      let head = summed_fits (take 20 (answered asking)) 10 (at 0, (at 1, (at 2, (at 3, (at 4, (at 5, (at 6, (at 7, (omega arith, (at 9, (at 10, (at 11, (at 16, (at 17, (at 18, (at 19, (at 12, (at 13, (at 14, (at 15, tt)))))))))))))))))))) refl (omega arith) in
      let text = summed_fits (drop 20 (answered asking)) 2 (omega arith, (at 21, (at 22, (at 23, more)))) refl (omega arith) in (
        text,
        goes_to n (both_summed (answered asking)) (and_from (leb 20 (length asking)) _ a.0 (and_from (eqb x0 0x45) _ b.0 (and_from (eqb (word_at asking 2) (length asking)) _ c.0 head)))
            (and_from (is_address n x16 x17) (is_address n x12 x13) d.1 d.0) (omega arith) (and_right (eqb x9 1) _ refl),
      )

  -- the eight bytes of the two addresses, turned by four
  laid_turned : set (put_mid 12 8 (set asking 8 64) (turned_of 4 (take 8 (drop 12 (set asking 8 64))))) 20 0 ≡ answered asking
  unfolding put
  laid_turned = refl

pub addresses_turned : (p m : List ℕ) → 28 ≤ length p → m ≡ turned_of 4 (take 8 (drop 12 (set p 8 64))) → set (put_mid 12 8 (set p 8 64) m) 20 0 ≡ answered p
addresses_turned p m l e =
    ap (λ z. set (put_mid 12 8 (set p 8 64) z) 20 0) e
    ∙ subst (λ q. set (put_mid 12 8 (set q 8 64) (turned_of 4 (take 8 (drop 12 (set q 8 64))))) 20 0 ≡ answered q) (sym (one_by_one_lem 24 0 p (omega arith)))
    (laid_turned (get_or p 0 0) (get_or p 1 0) (get_or p 2 0) (get_or p 3 0) (get_or p 4 0) (get_or p 5 0) (get_or p 6 0) (get_or p 7 0) (get_or p 8 0) (get_or p 9 0) (get_or p 10 0) (get_or p 11 0) (get_or p 12 0) (get_or p 13 0) (get_or p 14 0) (get_or p 15 0) (get_or p 16 0) (get_or p 17 0) (get_or p 18 0) (get_or p 19 0) (get_or p 20 0) (get_or p 21 0) (get_or p 22 0) (get_or p 23 0) (drop 24 p))

pub echo_good_lem : (p : List ℕ) → Bytes p → EchoGood p (echoed p)
echo_good_lem p b n me h =
    let w = asked n me p h in
    let l : 28 ≤ length p = leb-true 28 (length p) (and_parts (leb 28 (length p)) _ w.echo).0 in
    let e : p ≡ one_by_one 24 0 p ++ drop 24 p = one_by_one_lem 24 0 p (omega arith) in
    subst (λ z. (sum_fits (drop 20 z) ≡ true) × GoesTo n (box_from p) z) (sym (cond-true (leb 28 (length p)) (both_summed (answered p)) p (le-leb 28 (length p) l)))
    (subst (λ q. (sum_fits (drop 20 (both_summed (answered q))) ≡ true) × GoesTo n (box_from q) (both_summed (answered q))) (sym e)
    (laid_good (get_or p 0 0) (get_or p 1 0) (get_or p 2 0) (get_or p 3 0) (get_or p 4 0) (get_or p 5 0) (get_or p 6 0) (get_or p 7 0) (get_or p 8 0) (get_or p 9 0) (get_or p 10 0) (get_or p 11 0) (get_or p 12 0) (get_or p 13 0) (get_or p 14 0) (get_or p 15 0) (get_or p 16 0) (get_or p 17 0) (get_or p 18 0) (get_or p 19 0) (get_or p 20 0) (get_or p 21 0) (get_or p 22 0) (get_or p 23 0) (drop 24 p) (subst (λ q. (i : ℕ) → get_or q i 0 < 256) e (λ i. bytes_at p i b)) (bytes_drop 24 p b) n me (subst (Asked n me) e w)))
