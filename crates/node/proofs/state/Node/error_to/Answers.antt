use Rattle.std.proofs.Common.{sym, ap, ◌∙◌}
use Rattle.linkmodel.specs.Links.{Links}
use Rattle.packets.specs.Quotas.{granted, left_of}
use Rattle.node.specs.State.{whole_of}
use Rattle.node.proofs.Passed.{error_made}
use Rattle.node.proofs.state.Node.error_to.Goals as goal

pub returns-clause-is : goal.returns-clause-is
returns-clause-is c k t =
    let s = whole_of c.args.self.now in
    let q = c.args.self.now.quota in
    let left = c.in_ok-self.field-0 in
    error_made k t s q left c.args.packet.now c.back.result c.if-is_error.ensures
    (ap (λ o. left_of q o) (sym c.in_ok-self.ensures.ok_part) ∙ (c.grant.ensures.is ∙ ap (λ n. granted q n) (c.now-now.ensures ∙ ap (λ (l : Links). l.tick) c.links.ensures)))
    c.back.ensures
