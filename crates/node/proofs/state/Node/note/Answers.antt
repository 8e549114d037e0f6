use Rattle.std.proofs.Common.{◌++◌, ap, ◌∙◌, arith}
use Rattle.linkmodel.specs.Links.{Links}
use Rattle.outbox.specs.Parcels.{contents, parcel_bytes}
use Rattle.node.specs.Book.{line_bytes}
use Rattle.node.specs.Giving.{noted}
use Rattle.node.proofs.Written.{line_as}
use Rattle.node.proofs.state.Node.note.Goals as goal

pub returns : goal.returns
returns c =
    record {
      holds =
          c.note.ensures.holds
          ∙ ap (λ z. contents c.args.out.now ++ parcel_bytes 9 z)
          (line_as c.now.result c.args.what ∙ ap (λ t. line_bytes t (noted c.args.what)) (c.now.ensures ∙ ap (λ (l : Links). l.tick) c.links.ensures));
      used = omega (arith, c.note.ensures.used);
    }
