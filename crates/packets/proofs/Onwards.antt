-- A packet handed on is refused by no later box but for its time to live.
use Rattle.std.proofs.Common.{◌≡◌, ℕ, ◌-◌, ◌≤◌, Bool, true, false, cond, ◌&&◌, eqb, ltb, leb, List, length, get_or, set, Ok, Err, refl, ap, ◌∙◌, ap₂, arith}
use Rattle.std.proofs.lemmas.List.{get_or-set_same, get_or-set_other}
use Rattle.std.proofs.lemmas.Bool.{and_from, and_parts, cond-true, leb-true, lt-ltb, ltb-false}
use Rattle.packets.specs.declared.values.Errand.TheVariants.{HandOut, Echo, Onward}
use Rattle.packets.specs.declared.values.Refusal.TheVariants.{Malformed, Address, Expired}
use Rattle.packets.specs.Errands.{at_home, errand_of, in_transit}
use Rattle.packets.specs.Packet.{StaysRight, box_to, fallen, handed_on, has_addresses, is_address, is_echo, is_whole, ttl_of}
use Rattle.packets.specs.Travels.{HopGood}
use Rattle.packets.proofs.Hops.{stays_whole_lem}

-- what it says of a packet that it is to go on
record Sent (n b : ℕ) (p : List ℕ) : Type 0 where
  whole : is_whole p ≡ true
  addresses : has_addresses n p ≡ true
  ttl : 2 ≤ ttl_of p
  to : box_to p ≡ b

sent : (n me b : ℕ) (p : List ℕ) → errand_of n me p ≡ Ok (Onward b) → Sent n b p
sent n me b p h =
    let t = from (is_whole p) (has_addresses n p) (eqb (box_to p) me) (is_echo me p) (ltb (ttl_of p) 2) h in
    record { whole = t.0; addresses = t.1; ttl = ltb-false (ttl_of p) 2 t.2; to = t.3 }
  where
    from : (w a i e x : Bool) → cond w (cond a (cond i (Ok (cond e Echo HandOut)) (cond x (Err Expired) (Ok (Onward (box_to p))))) (Err Address)) (Err Malformed) ≡ Ok (Onward b)
        → (w ≡ true) × (a ≡ true) × (x ≡ false) × (box_to p ≡ b)
    from true true true true x h = let z : ◌≡◌ {A = ℕ} 0 1 = cc in absurd (omega arith)
    from true true true false x h = let z : ◌≡◌ {A = ℕ} 0 1 = cc in absurd (omega arith)
    from true true false e true h = let z : ◌≡◌ {A = ℕ} 0 1 = cc in absurd (omega arith)
    from true true false e false h = (refl, refl, refl, cc)
    from true false i e x h = let z : ◌≡◌ {A = ℕ} 0 1 = cc in absurd (omega arith)
    from false a i e x h = let z : ◌≡◌ {A = ℕ} 0 1 = cc in absurd (omega arith)

-- addresses are past what falls
past : (p : List ℕ) (i : ℕ) → 12 ≤ i → get_or (fallen p) i 0 ≡ get_or p i 0
past p i h =
    get_or-set_other (set (set p 8 _) 10 _) 11 i _ 0 (omega arith)
    ∙ (get_or-set_other (set p 8 _) 10 i _ 0 (omega arith) ∙ get_or-set_other p 8 i _ 0 (omega arith))

ttl_fallen : (p : List ℕ) → 20 ≤ length p → ttl_of (fallen p) ≡ ttl_of p - 1
ttl_fallen p l =
    get_or-set_other (set (set p 8 _) 10 _) 11 8 _ 0 (omega arith)
    ∙ (get_or-set_other (set p 8 _) 10 8 _ 0 (omega arith) ∙ get_or-set_same p 8 _ 0 (omega arith))

pub hop_good_lem : (p q : List ℕ) → q ≡ handed_on p → StaysRight p q → HopGood p q
hop_good_lem p q e right n me b h =
    let s = sent n me b p h in
    let l : 20 ≤ length p = leb-true 20 (length p) (and_parts (leb 20 (length p)) _ s.whole).0 in
    let yes : (leb 20 (length p) && ltb 0 (ttl_of p)) ≡ true
    = and_from (leb 20 (length p)) (ltb 0 (ttl_of p)) (and_parts (leb 20 (length p)) _ s.whole).0 (lt-ltb 0 (ttl_of p) (omega (arith, s.ttl))) in
    let is : q ≡ fallen p = e ∙ cond-true (leb 20 (length p) && ltb 0 (ttl_of p)) (fallen p) p yes in
    let at : (i : ℕ) → 12 ≤ i → get_or q i 0 ≡ get_or p i 0 = λ i k. ap (λ z. get_or z i 0) is ∙ past p i k in
    let whole : is_whole q ≡ true = stays_whole_lem p q e right s.whole (omega (arith, s.ttl)) in
    let addresses : has_addresses n q ≡ true
    = ap₂ (λ x y. x && y) (ap₂ (is_address n) (at 12 (omega arith)) (at 13 (omega arith))) (ap₂ (is_address n) (at 16 (omega arith)) (at 17 (omega arith))) ∙ s.addresses in (
      ap ttl_of is ∙ ttl_fallen p l,
      λ k. cond-true (is_whole q) _ _ whole
          ∙ (cond-true (has_addresses n q) _ _ addresses
          ∙ ap (λ x. cond (eqb x k) (Ok (at_home k q)) (in_transit q)) (at 17 (omega arith) ∙ s.to)),
    )
