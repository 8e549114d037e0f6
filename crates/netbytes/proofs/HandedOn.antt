-- A packet that is handed on from box to box: what stays as it was, and what each box makes of it.
use Rattle.std.proofs.Common.{◌≡◌, ℕ, suc, ◌-◌, ◌/◌, ◌%◌, ◌<◌, ◌≤◌, Bool, true, false, cond, ◌&&◌, eqb, ltb, leb, List, length, get_or, take, drop, set, Ok, Err, sym, refl, ap, ◌∙◌, subst, ap₂, arith, ne_eqb, eq-eqb, eqb-true, length-set}
use Rattle.std.proofs.lemmas.Bool.{le-ltb, and_parts, leb-true, and_from, le-leb, lt-ltb, cond-true}
use Rattle.std.proofs.lemmas.List.{get_or-set_same, get_or-set_other, drop-set-lt, take-append-drop, length-take-le}
use Rattle.packets.specs.Sums.{sum_fits}
use Rattle.packets.proofs.Fitting.{fits_right}
use Rattle.checksum.specs.Bytes.{Bytes}
use Rattle.checksum.specs.Internet.{TtlFalls, header_fits, mended_sum, word_at}
use Rattle.checksum.proofs.Bytes.{bytes_left, bytes_set, bytes_at}
use Rattle.checksum.proofs.Mend.{ttl_falls_lem}
use Rattle.packets.specs.declared.values.Errand.TheVariants.{HandOut, Echo, Onward}
use Rattle.packets.specs.declared.values.Refusal.TheVariants.{Malformed, Address, Expired}
use Rattle.packets.specs.Errands.{at_home, errand_of, in_transit}
use Rattle.packets.specs.Packet.{StaysRight, asks_echo, is_for_box, is_unbroken, box_to, fallen, handed_on, has_addresses, is_address, is_echo, is_whole, ttl_of}
use Rattle.packets.specs.Travels.{GoesTo}
use Rattle.packets.proofs.Hops.{header_right, handed, packet_right, stays_whole_lem}
use Rattle.netbytes.specs.Trips.{After}

-- a packet for a house of box d, after k steps
pub record Riding (n d k : ℕ) (p q : List ℕ) : Type 0 where
  pub bytes : Bytes q
  pub whole : is_whole q ≡ true
  pub addresses : has_addresses n q ≡ true
  pub to : box_to q ≡ d
  pub quiet : is_echo d q ≡ false
  pub after : After k p q

-- what is whole has a header with a right sum
pub whole_right : (p : List ℕ) → is_whole p ≡ true → (20 ≤ length p) × header_fits (take 20 p)
whole_right p w =
    let a = and_parts (leb 20 (length p)) _ w in
    let b = and_parts (eqb (get_or p 0 0) 0x45) _ a.1 in
    let c = and_parts (eqb (word_at p 2) (length p)) (sum_fits (take 20 p)) b.1 in
    (leb-true 20 (length p) a.0, fits_right (take 20 p) c.1)

-- d hands it out
pub riding_home : (n d k : ℕ) (p q : List ℕ) → Riding n d k p q → errand_of n d q ≡ Ok HandOut
riding_home n d k p q r = home (is_whole q) (has_addresses n q) (eqb (box_to q) d) (is_echo d q) r.whole r.addresses (eq-eqb (box_to q) d r.to) r.quiet
  where
    home : (w a i e : Bool) → w ≡ true → a ≡ true → i ≡ true → e ≡ false → cond w (cond a (cond i (Ok (cond e Echo HandOut)) (in_transit q)) (Err Address)) (Err Malformed) ≡ Ok HandOut
    home w a i e x y z t = rw (x, y, z, t) refl

-- every other box sends it on, as long as it lives
pub riding_on : (n d k u : ℕ) (p q : List ℕ) → Riding n d k p q → (u ≡ d → ⊥) → 2 ≤ ttl_of q → errand_of n u q ≡ Ok (Onward d)
riding_on n d k u p q r ne l =
    on (is_whole q) (has_addresses n q) (eqb (box_to q) u) (ltb (ttl_of q) 2) r.whole r.addresses (ne_eqb (box_to q) u (λ e. ne (sym e ∙ r.to))) (le-ltb (ttl_of q) 2 l)
    ∙ ap (λ b. Ok (Onward b)) r.to
  where
    on : (w a i x : Bool) → w ≡ true → a ≡ true → i ≡ false → x ≡ false → cond w (cond a (cond i (Ok (at_home u q)) (cond x (Err Expired) (Ok (Onward (box_to q))))) (Err Address)) (Err Malformed) ≡ Ok (Onward (box_to q))
    on w a i x e f g h = rw (e, f, g, h) refl

-- so what d would hand out sets out
pub riding_from : (n d : ℕ) (p : List ℕ) → errand_of n d p ≡ Ok HandOut → Bytes p → Riding n d 0 p p
riding_from n d p g b =
    let h = from (is_whole p) (has_addresses n p) (eqb (box_to p) d) (is_echo d p) (ltb (ttl_of p) 2) g in
    record {
      bytes = b;
      whole = h.0;
      addresses = h.1;
      to = eqb-true (box_to p) d h.2;
      quiet = h.3;
      after = record { long = refl; lives = omega arith; right = (whole_right p h.0).1; same = λ i _ _ _. refl };
    }
  where
    from : (w a i e x : Bool) → cond w (cond a (cond i (Ok (cond e Echo HandOut)) (cond x (Err Expired) (Ok (Onward (box_to p))))) (Err Address)) (Err Malformed) ≡ Ok HandOut → (w ≡ true) × (a ≡ true) × (i ≡ true) × (e ≡ false)
    from true true true true x h = let z : ◌≡◌ {A = ℕ} 0 1 = cc in absurd (omega arith)
    from true true true false x h = (refl, refl, refl, refl)
    from true true false e true h = let z : ◌≡◌ {A = ℕ} 0 1 = cc in absurd (omega arith)
    from true true false e false h = let z : ◌≡◌ {A = ℕ} 0 1 = cc in absurd (omega arith)
    from true false i e x h = let z : ◌≡◌ {A = ℕ} 0 1 = cc in absurd (omega arith)
    from false a i e x h = let z : ◌≡◌ {A = ℕ} 0 1 = cc in absurd (omega arith)

-- and what goes to d
pub riding_out : (n d : ℕ) (p : List ℕ) → GoesTo n d p → Bytes p → Riding n d 0 p p
riding_out n d p g b = riding_from n d p (g d ∙ ap (λ x. Ok (cond x HandOut (Onward d))) (eq-eqb d d refl)) b

-- what falls is in bytes 8, 10 and 11
fallen_other : (p : List ℕ) (i : ℕ) → (i ≡ 8 → ⊥) → (i ≡ 10 → ⊥) → (i ≡ 11 → ⊥) → get_or (fallen p) i 0 ≡ get_or p i 0
fallen_other p i a b c =
    get_or-set_other (set (set p 8 _) 10 _) 11 i _ 0 (λ e. c e)
    ∙ (get_or-set_other (set p 8 _) 10 i _ 0 (λ e. b e) ∙ get_or-set_other p 8 i _ 0 (λ e. a e))

fallen_ttl : (p : List ℕ) → 20 ≤ length p → ttl_of (fallen p) ≡ ttl_of p - 1
fallen_ttl p l =
    get_or-set_other (set (set p 8 _) 10 _) 11 8 _ 0 (omega arith)
    ∙ (get_or-set_other (set p 8 _) 10 8 _ 0 (omega arith) ∙ get_or-set_same p 8 _ 0 (omega arith))

fallen_long : (p : List ℕ) → length (fallen p) ≡ length p
fallen_long p = simp length-set

fallen_back : (p : List ℕ) → drop 20 (fallen p) ≡ drop 20 p
fallen_back p =
    drop-set-lt 20 (set (set p 8 _) 10 _) 11 _ (omega arith)
    ∙ (drop-set-lt 20 (set p 8 _) 10 _ (omega arith) ∙ drop-set-lt 20 p 8 _ (omega arith))

fallen_bytes : (p : List ℕ) → Bytes p → Bytes (fallen p)
fallen_bytes p b =
    let m : ℕ = mended_sum (word_at p 10) (word_at p 8) (word_at p 8 - 256) in
    bytes_set (set (set p 8 (ttl_of p - 1)) 10 (m / 256)) 11 (m % 256) (omega arith)
    (bytes_set (set p 8 (ttl_of p - 1)) 10 (m / 256) (omega arith) (bytes_set p 8 (ttl_of p - 1) (omega (arith, bytes_at p 8 b)) b))

-- so it asks for an echo as it did
fallen_echo : (me : ℕ) (p : List ℕ) → is_echo me (fallen p) ≡ is_echo me p
fallen_echo me p =
    let at : (i : ℕ) → (i ≡ 8 → ⊥) → (i ≡ 10 → ⊥) → (i ≡ 11 → ⊥) → get_or (fallen p) i 0 ≡ get_or p i 0 = λ i a b c. fallen_other p i a b c in
    let far : (i : ℕ) → 12 ≤ i → get_or (fallen p) i 0 ≡ get_or p i 0 = λ i l. at i (omega arith) (omega arith) (omega arith) in
    let for : is_for_box me (fallen p) ≡ is_for_box me p =
    ap₂ (λ x y. eqb x 10 && y) (far 16 (omega arith))
    (ap₂ (λ x y. eqb x me && y) (far 17 (omega arith)) (ap₂ (λ x y. eqb x 0 && eqb y 1) (far 18 (omega arith)) (far 19 (omega arith)))) in
    let unbroken : is_unbroken (fallen p) ≡ is_unbroken p =
    ap₂ (λ x y. eqb (x % 64) 0 && eqb y 0) (at 6 (omega arith) (omega arith) (omega arith)) (at 7 (omega arith) (omega arith) (omega arith)) in
    let asks : asks_echo (fallen p) ≡ asks_echo p =
    ap₂ (λ x y. eqb x 1 && y) (at 9 (omega arith) (omega arith) (omega arith))
    (ap₂ (λ x y. eqb x 8 && y) (far 20 (omega arith)) (ap₂ (λ x y. eqb x 0 && sum_fits y) (far 21 (omega arith)) (fallen_back p))) in
    ap₂ (λ x y. leb 28 x && y) (fallen_long p) (ap₂ (λ x y. x && y) for (ap₂ (λ x y. x && y) unbroken asks))

fallen_addresses : (n : ℕ) (p : List ℕ) → has_addresses n (fallen p) ≡ has_addresses n p
fallen_addresses n p =
    let far : (i : ℕ) → 12 ≤ i → get_or (fallen p) i 0 ≡ get_or p i 0 = λ i l. fallen_other p i (omega arith) (omega arith) (omega arith) in
    ap₂ (λ x y. x && y) (ap₂ (is_address n) (far 12 (omega arith)) (far 13 (omega arith))) (ap₂ (is_address n) (far 16 (omega arith)) (far 17 (omega arith)))

-- a header that is right stays right
fallen_right : (p : List ℕ) → Bytes p → 20 ≤ length p → 0 < ttl_of p → StaysRight p (handed_on p)
fallen_right p b l t =
    let h : List ℕ = take 20 p in
    let hb : Bytes h = bytes_left (take 20 p) (drop 20 p) (subst Bytes (sym (take-append-drop 20 p)) b) in
    let r : TtlFalls (word_at h 10) (word_at h 8) (word_at h 8 - 256) (mended_sum (word_at h 10) (word_at h 8) (word_at h 8 - 256)) =
    ttl_falls_lem (word_at h 10) (word_at h 8) (word_at h 8 - 256) (omega (arith, bytes_at h 8 hb, bytes_at h 9 hb)) in
    subst (λ x. StaysRight p x) (handed p (fallen h) l (λ e. omega arith) refl)
    (packet_right p (fallen h) l refl (header_right h (fallen h) (mended_sum (word_at h 10) (word_at h 8) (word_at h 8 - 256)) hb (length-take-le 20 p l) refl r))

-- one step further
pub riding_next : (n d k : ℕ) (p q : List ℕ) → Riding n d k p q → 0 < ttl_of q → Riding n d (suc k) p (handed_on q)
riding_next n d k p q r t =
    let w = whole_right q r.whole in
    let yes : (leb 20 (length q) && ltb 0 (ttl_of q)) ≡ true = and_from (leb 20 (length q)) (ltb 0 (ttl_of q)) (le-leb 20 (length q) w.0) (lt-ltb 0 (ttl_of q) t) in
    let is : handed_on q ≡ fallen q = cond-true (leb 20 (length q) && ltb 0 (ttl_of q)) (fallen q) q yes in
    let whole = stays_whole_lem q (handed_on q) refl (fallen_right q r.bytes w.0 t) r.whole t in
    record {
      bytes = subst Bytes (sym is) (fallen_bytes q r.bytes);
      whole = whole;
      addresses = ap (has_addresses n) is ∙ (fallen_addresses n q ∙ r.addresses);
      to = ap box_to is ∙ (fallen_other q 17 (omega arith) (omega arith) (omega arith) ∙ r.to);
      quiet = ap (is_echo d) is ∙ (fallen_echo d q ∙ r.quiet);
      after = record {
        long = ap length is ∙ (fallen_long q ∙ r.after.long);
        lives = omega (arith, ap ttl_of is, fallen_ttl q w.0, r.after.lives);
        right = (whole_right (handed_on q) whole).1;
        same = λ i a b c. ap (λ z. get_or z i 0) is ∙ (fallen_other q i a b c ∙ r.after.same i a b c);
      };
    }
