use Rattle.std.proofs.Common.{◌≡◌, ℕ, ◌-◌, ◌<◌, List, length, set, length-set, ap, ◌∙◌, subst, ap₂, arith, rules}
use Rattle.checksum.specs.Internet.{TtlFalls, mended_sum, put_word, word_at}
use Rattle.checksum.proofs.Bytes.{bytes_from}
use Rattle.packets.specs.Packet.{ttl_of}
use Rattle.packets.proofs.Hops.{header_right}
use Rattle.packets.proofs.Summing.{word_as}
use Rattle.packets.proofs.packet_hop.fall.Goals as goal

pub returns : goal.returns
returns c =
    let h = c.args.header.now in
    let s : c.from_be_bytes-sum.result ≡ word_at h 10 = c.from_be_bytes-sum.ensures in
    let o : c.from_be_bytes-old.result ≡ word_at h 8 = c.from_be_bytes-old.ensures in
    let g : List ℕ = set h 8 (ttl_of h - 1) in
    let long : 11 < length g = simp length-set (omega arith) in
    let e : _ ≡ put_word g 10 c.mended.result = word_as g 10 c.mended.result _ long c.mended.type_inv (c.copy_from_slice.ensures.after ∙ c.to_be_bytes-sum.ensures) in
    let m : c.mended.result ≡ mended_sum (word_at h 10) (word_at h 8) (word_at h 8 - 256)
    = c.mended.ensures.value ∙ ap₂ (λ (x y : ℕ). mended_sum x y (y - 256)) s o in
    let t : TtlFalls (word_at h 10) (word_at h 8) (word_at h 8 - 256) c.mended.result
    = subst (λ (y : ℕ). TtlFalls (word_at h 10) y (y - 256) c.mended.result) o
    (subst (λ (x : ℕ). TtlFalls x c.from_be_bytes-old.result (c.from_be_bytes-old.result - 256) c.mended.result) s c.mended.ensures.ttl) in
    record {
      is = e ∙ ap (put_word g 10) m;
      right = header_right h _ c.mended.result (bytes_from h (search rules)) (omega arith) e t;
    }
