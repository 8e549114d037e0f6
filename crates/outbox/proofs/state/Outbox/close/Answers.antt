use Rattle.std.proofs.Common.{◌++◌, ap, ◌∙◌, arith}
use Rattle.outbox.specs.Parcels.{body_in, contents, parcel_bytes}
use Rattle.outbox.proofs.Closing.{closed}
use Rattle.outbox.proofs.state.Outbox.close.Goals as goal

pub returns : goal.returns
returns c =
    record {
      holds =
          closed c.args.self.now.bytes c.put_byte-at.new.out c.put_number-at.new.out c.args.self.now.used c.put_byte-at.result c.put_number-at.result c.from.result c.args.k
          (omega (arith, c.requires)) c.put_byte-at.ensures.wrote c.put_byte-at.ensures.next c.put_number-at.ensures.wrote c.put_number-at.ensures.next
          ∙ ap (λ z. contents c.args.self.now ++ parcel_bytes z (body_in c.args.k c.args.self.now)) c.from.ensures;
      used = omega (arith, c.put_byte-at.ensures.next, c.put_number-at.ensures.next);
    }
