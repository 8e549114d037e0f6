use Rattle.std.proofs.Common.{◌≡◌, ℕ, List, [], ◌∷◌, ◌++◌, refl, ap₂, arith}
use Rattle.octets.proofs.Puts.{written_none, then_bytes, written_as}
use Rattle.packets.specs.Errors.{error_header, error_start}
use Rattle.packets.proofs.Summing.{length_both, put_both}
use Rattle.packets.proofs.packet_error.put_error.Goals as goal

pub returns : goal.returns
returns c =
    let q : List ℕ = c.args.quoted.now in
    let all : List ℕ = error_header c.args.me q ++ (error_start c.args.trouble ++ q) in
    let w1 = then_bytes c.error_header.result (written_none 0 c.args.out.now) (omega arith) c.put_bytes-at.ensures.wrote c.put_bytes-at.ensures.next in
    let w2 = then_bytes (c.from.result ∷ 0 ∷ 0 ∷ 0 ∷ 0 ∷ 0 ∷ 0 ∷ 0 ∷ []) w1 (omega arith) c.put_bytes-at-2.ensures.wrote c.put_bytes-at-2.ensures.next in
    let w3 = then_bytes q w2 (omega arith) c.put_bytes.ensures.wrote c.put_bytes.ensures.next in
    let e : (c.error_header.result ++ (c.from.result ∷ 0 ∷ 0 ∷ 0 ∷ 0 ∷ 0 ∷ 0 ∷ 0 ∷ [])) ++ q ≡ all
    = ap₂ (λ (h : List ℕ) (t : ℕ). (h ++ (t ∷ 0 ∷ 0 ∷ 0 ∷ 0 ∷ 0 ∷ 0 ∷ 0 ∷ [])) ++ q) c.error_header.ensures c.from.ensures in
    let w = written_as e w3 in
    (omega (arith, length_both all), put_both all c.args.out.now c.put_bytes.new.out c.put_sums.new.packet _ (omega arith) w.is c.put_sums.ensures)

pub returns-then-out-length : goal.returns-then-out-length
returns-then-out-length c =
    let e = length_both (error_header c.args.me c.args.quoted.now ++ (error_start c.args.trouble ++ c.args.quoted.now)) in
    (omega arith, refl)
