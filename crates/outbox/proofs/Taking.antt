-- What stands in the buffer where a parcel was put.
use Rattle.std.proofs.Common.{◌≡◌, ℕ, ◌+◌, ◌-◌, ◌*◌, ◌/◌, ◌%◌, ◌^◌, ◌<◌, ◌≤◌, cond, eqb, List, ◌∷◌, ◌++◌, length, get_or, take, drop, Some, None, sym, refl, ap, ◌∙◌, ap₂, append_assoc, arith, length-append, length-drop, length-take}
use Rattle.std.proofs.lemmas.List.{take-append-drop, take_at, drop_at, drop-drop, drop_more, drop-take, take-take, get_or_at, get_or-take, get_or-append-add}
use Rattle.std.proofs.lemmas.Bool.{cond_both, cond-false, eqb-true, ne_eqb}
use Rattle.octets.specs.Writes.{octets}
use Rattle.octets.proofs.Puts.{length_octets}
use Rattle.outbox.specs.declared.reading.Parcel.{Parcel}
use Rattle.outbox.specs.declared.reading.Port.TheVariants.{Wire, House, Book}
use Rattle.outbox.specs.Parcels.{parcel_bytes, port_at, port_number}
use Rattle.outbox.specs.Taken.{TakenOut}

-- a port has the number that it goes by
pub number_port : (k : ℕ) → port_number (port_at k) ≡ k
number_port k =
    cond_both (eqb k 8) House (cond (eqb k 9) Book (Wire k)) (λ p. port_number p ≡ k) (λ e. sym (eqb-true k 8 e))
    (λ _. cond_both (eqb k 9) Book (Wire k) (λ p. port_number p ≡ k) (λ e. sym (eqb-true k 9 e)) (λ _. refl))

-- and goes by that number alone, if it is a wire among the first eight
pub port_wire : (w : ℕ) → w < 8 → port_at w ≡ Wire w
port_wire w h = cond-false (eqb w 8) House (cond (eqb w 9) Book (Wire w)) (ne_eqb w 8 (λ e. omega arith)) ∙ cond-false (eqb w 9) Book (Wire w) (ne_eqb w 9 (λ e. omega arith))

pub length_parcel : (port : ℕ) (bytes : List ℕ) → length (parcel_bytes port bytes) ≡ length bytes + 3
length_parcel port bytes = omega (arith, length-append (octets 2 (length bytes)) bytes, length_octets 2 (length bytes))

-- the length that the two bytes behind the one at this place say
abbrev pub long_at : List ℕ → ℕ → ℕ
long_at buffer at = get_or buffer (at + 1) 0 * 256 + get_or buffer (at + 2) 0

-- a parcel stands at this place, within what is used
pub record Laid (buffer : List ℕ) (at used port : ℕ) (bytes : List ℕ) : Type 0 where
  pub fits : at + 3 + length bytes ≤ used
  pub first : get_or buffer at 0 ≡ port
  pub long : long_at buffer at ≡ length bytes
  pub body : take (length bytes) (drop (at + 3) buffer) ≡ bytes

laid_bytes : (buffer front bytes rest : List ℕ) (at used port x y : ℕ) → at + 3 + length bytes ≤ used → x * 256 + y ≡ length bytes → length front ≡ at → buffer ≡ front ++ (port ∷ x ∷ y ∷ (bytes ++ rest)) → Laid buffer at used port bytes
laid_bytes buffer front bytes rest at used port x y f n e h =
    let all : List ℕ = port ∷ x ∷ y ∷ (bytes ++ rest) in
    let x-is : get_or buffer (at + 1) 0 ≡ x = ap (λ z. get_or z (at + 1) 0) h ∙ (ap (λ z. get_or (front ++ all) (z + 1) 0) (sym e) ∙ get_or-append-add front all 1 0) in
    let y-is : get_or buffer (at + 2) 0 ≡ y = ap (λ z. get_or z (at + 2) 0) h ∙ (ap (λ z. get_or (front ++ all) (z + 2) 0) (sym e) ∙ get_or-append-add front all 2 0) in
    record {
      fits = f;
      first = ap (λ z. get_or z at 0) h ∙ get_or_at front port (x ∷ y ∷ (bytes ++ rest)) 0 at e;
      long = omega (arith, x-is, y-is, n);
      body =
          ap (λ z. take (length bytes) (drop (at + 3) z)) h
          ∙ (ap (λ z. take (length bytes) z) (sym (drop-drop 3 at (front ++ all)) ∙ ap (λ z. drop 3 z) (drop_at front all at e))
          ∙ take_at bytes rest (length bytes) refl);
    }

pub laid : (buffer front bytes back : List ℕ) (at used port : ℕ) → used ≤ length buffer → length bytes < 2 ^ 16 → take used buffer ≡ front ++ (parcel_bytes port bytes ++ back) → length front ≡ at → Laid buffer at used port bytes
unfolding octets
laid buffer front bytes back at used port u l h e =
    let n : ℕ = length bytes in
    let x : ℕ = n / 256 % 256 in
    let y : ℕ = n % 256 in
    let rest : List ℕ = drop used buffer in
    let whole : buffer ≡ front ++ (port ∷ x ∷ y ∷ (bytes ++ (back ++ rest))) =
    sym (take-append-drop used buffer)
    ∙ (ap (λ z. z ++ rest) h
    ∙ (append_assoc front (port ∷ x ∷ y ∷ (bytes ++ back)) rest ∙ ap (λ z. front ++ (port ∷ x ∷ y ∷ z)) (append_assoc bytes back rest))) in
    let long : length (take used buffer) ≡ used = simp length-take (omega arith) in
    let parts : length (take used buffer) ≡ length (front ++ (port ∷ x ∷ y ∷ (bytes ++ back))) = ap length h in
    laid_bytes buffer front bytes (back ++ rest) at used port x y
    (omega (arith, parts, long, length-append front (port ∷ x ∷ y ∷ (bytes ++ back)), length-append bytes back))
    (omega arith) e whole

-- and bytes that say how many follow are a parcel
whole : (held : List ℕ) (at : ℕ) → at + 3 + long_at held at ≤ length held → get_or held (at + 1) 0 < 256 → get_or held (at + 2) 0 < 256
    → held ≡ take at held ++ (parcel_bytes (get_or held at 0) (take (long_at held at) (drop (at + 3) held)) ++ drop (at + 3 + long_at held at) held)
unfolding octets
whole held at f bx by =
    let k : ℕ = get_or held at 0 in
    let x : ℕ = get_or held (at + 1) 0 in
    let y : ℕ = get_or held (at + 2) 0 in
    let n : ℕ = long_at held at in
    let bytes : List ℕ = take n (drop (at + 3) held) in
    let long : length bytes ≡ n = simp (length-take, length-drop) (omega arith) in
    let high : x ≡ length bytes / 256 % 256 = omega arith in
    let low : y ≡ length bytes % 256 = omega arith in
    let two : at + 1 + 1 ≡ at + 2 = omega arith in
    let three : at + 2 + 1 ≡ at + 3 = omega arith in
    let rest : drop (at + 3) held ≡ bytes ++ drop (at + 3 + n) held = sym (take-append-drop n (drop (at + 3) held)) ∙ ap (λ z. bytes ++ z) (drop-drop n (at + 3) held) in
    let third : drop (at + 2) held ≡ (length bytes % 256) ∷ (bytes ++ drop (at + 3 + n) held) = drop_more held (at + 2) 0 (omega arith) ∙ ap₂ (λ b z. b ∷ z) low (ap (λ z. drop z held) three ∙ rest) in
    let second : drop (at + 1) held ≡ (length bytes / 256 % 256) ∷ (length bytes % 256) ∷ (bytes ++ drop (at + 3 + n) held) = drop_more held (at + 1) 0 (omega arith) ∙ ap₂ (λ b z. b ∷ z) high (ap (λ z. drop z held) two ∙ third) in
    sym (take-append-drop at held) ∙ ap (λ z. take at held ++ z) (drop_more held at 0 (omega arith) ∙ ap (λ z. k ∷ z) second)

-- the same of what is used of a buffer
within : (buffer : List ℕ) (at used : ℕ) → used ≤ length buffer → at + 3 + long_at buffer at ≤ used → get_or buffer (at + 1) 0 < 256 → get_or buffer (at + 2) 0 < 256
    → take used buffer ≡ take at (take used buffer) ++ (parcel_bytes (get_or buffer at 0) (take (long_at buffer at) (drop (at + 3) buffer)) ++ drop (at + 3 + long_at buffer at) (take used buffer))
within buffer at used u f bx by =
    let held : List ℕ = take used buffer in
    let k : get_or held at 0 ≡ get_or buffer at 0 = get_or-take used buffer at 0 (omega arith) in
    let x : get_or held (at + 1) 0 ≡ get_or buffer (at + 1) 0 = get_or-take used buffer (at + 1) 0 (omega arith) in
    let y : get_or held (at + 2) 0 ≡ get_or buffer (at + 2) 0 = get_or-take used buffer (at + 2) 0 (omega arith) in
    let n : long_at held at ≡ long_at buffer at = omega (arith, x, y) in
    let long : length held ≡ used = simp length-take (omega arith) in
    let m : ℕ = used - (at + 3) in
    let split : used ≡ at + 3 + m = omega arith in
    let body : take (long_at buffer at) (drop (at + 3) held) ≡ take (long_at buffer at) (drop (at + 3) buffer) =
    ap (λ z. take (long_at buffer at) (drop (at + 3) (take z buffer))) split
    ∙ (ap (λ z. take (long_at buffer at) z) (drop-take (at + 3) m buffer) ∙ take-take (long_at buffer at) m (drop (at + 3) buffer) (omega arith)) in
    whole held at (omega (arith, n, long, f)) (omega (arith, x, bx)) (omega (arith, y, by))
    ∙ (ap (λ z. take at held ++ (parcel_bytes z (take (long_at held at) (drop (at + 3) held)) ++ drop (at + 3 + long_at held at) held)) k
    ∙ (ap (λ z. take at held ++ (parcel_bytes (get_or buffer at 0) (take z (drop (at + 3) held)) ++ drop (at + 3 + z) held)) n
    ∙ ap (λ z. take at held ++ (parcel_bytes (get_or buffer at 0) z ++ drop (at + 3 + long_at buffer at) held)) body))

-- where less is left than a parcel says, none stands
pub cut_off : (buffer : List ℕ) (at used : ℕ) → used ≤ length buffer → used < at + 3 + long_at buffer at → TakenOut at (take used buffer) None
cut_off buffer at used u h =
    record {
      there = λ front bytes back port l w e. let s = laid buffer front bytes back at used port u l w e in omega (arith, s.fits, s.long, h);
      only = tt;
      none = λ _. refl;
    }

-- and elsewhere it is the one that stands there
pub taken : (buffer : List ℕ) (at used : ℕ) (p : Parcel) → used ≤ length buffer → at + 3 + long_at buffer at ≤ used → get_or buffer (at + 1) 0 < 256 → get_or buffer (at + 2) 0 < 256 → p.port ≡ port_at (get_or buffer at 0) → p.bytes.now ≡ take (long_at buffer at) (drop (at + 3) buffer) → p.next ≡ at + 3 + long_at buffer at
    → TakenOut at (take used buffer) (Some p)
taken buffer at used p u f bx by is-port is-bytes is-next =
    let held : List ℕ = take used buffer in
    record {
      there = λ front bytes back port l w e.
          let s = laid buffer front bytes back at used port u l w e in
          record {
            port = is-port ∙ ap port_at s.first;
            bytes = is-bytes ∙ (ap (λ z. take z (drop (at + 3) buffer)) s.long ∙ s.body);
            next = omega (arith, is-next, s.long, length_parcel port bytes);
          };
      only =
          within buffer at used u f bx by
          ∙ (ap (λ z. take at held ++ (parcel_bytes z (take (long_at buffer at) (drop (at + 3) buffer)) ++ drop (at + 3 + long_at buffer at) held)) (sym (ap port_number is-port ∙ number_port (get_or buffer at 0)))
          ∙ (ap (λ z. take at held ++ (parcel_bytes (port_number p.port) z ++ drop (at + 3 + long_at buffer at) held)) (sym is-bytes)
          ∙ ap (λ z. take at held ++ (parcel_bytes (port_number p.port) p.bytes.now ++ drop z held)) (sym is-next)));
      none = λ h. absurd (let long : length (take used buffer) ≡ used = simp length-take (omega arith) in omega (arith, h, long, f));
    }
