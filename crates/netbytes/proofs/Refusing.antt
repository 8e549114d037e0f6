-- A refused frame is handled as one that changes nothing and sends nothing.
use Rattle.std.proofs.Common.{◌≡◌, ℕ, List, [], ◌∷◌, ◌++◌, sym, refl, ap, ◌∙◌, append-nil}
use Rattle.std.specs.List.{flat_map}
use Rattle.linkmodel.specs.Station.{Frame, Out, Station as Whole}
use Rattle.node.specs.Book.{Refused}
use Rattle.node.specs.Giving.{note_of}
use Rattle.node.specs.Hearing.{refused_by}
use Rattle.node.specs.Wires.{out_bytes}
use Rattle.packets.specs.declared.error_quota.Quota.{Quota}
use Rattle.netbytes.specs.Arriving.{Gives, HandledAs, after_frame, sent_after, wire_bytes}

-- one line and no frames
one_line : (s : Whole) (k : ℕ) (outs : List Out) → outs ≡ [] → Gives s outs (note_of s (Refused k))
one_line s k outs e =
    record {
      notes = Refused k ∷ [];
      is = sym (ap (λ (os : List Out). (note_of s (Refused k) ++ []) ++ flat_map out_bytes os) e ∙ (append-nil (note_of s (Refused k) ++ []) ∙ append-nil (note_of s (Refused k))));
    }

-- refused
pub refused_so : (w k : ℕ) (f : Frame) (ts : List ℕ) (s : Whole) (q : Quota) → s ≡ after_frame w f ts s → sent_after w f (after_frame w f ts s) ≡ [] → HandledAs w f ts s q (refused_by k s q (wire_bytes f))
refused_so w k f ts s q same none = record { whole = same; gives = one_line s k (sent_after w f (after_frame w f ts s)) none; errors = refl; left = refl; goes = refl }
