use Rattle.std.proofs.Common.{◌≡◌, refl, ap, ◌∙◌, rules}
use Rattle.std.proofs.lemmas.Result.{err_from_is_err_and}
use Rattle.linkmodel.specs.Links.{Links}
use Rattle.packets.specs.Packet.{echoed}
use Rattle.node.specs.Passing.{back_to, framed, packet_in}
use Rattle.node.specs.State.{whole_of}
use Rattle.node.proofs.Passed.{echo_none, echo_sent}
use Rattle.node.proofs.state.Node.send.Goals as goal

pub returns-in_err-port-in-Echo : goal.returns-in_err-port-in-Echo
returns-in_err-port-in-Echo c =
    let p = err_from_is_err_and c.from_residual-in_err-port-in-Echo.result c.from_residual-in_err-port-in-Echo.ensures.1 in
    let s = whole_of c.args.self.now in
    let n : c.boxes.result ≡ s.links.n = c.boxes.ensures ∙ ap (λ (l : Links). l.n) c.links-links.ensures in
    let me : c.box_number.result ≡ s.links.me = c.box_number.ensures ∙ ap (λ (l : Links). l.me) c.links-links.ensures in
    rw (p.1, p.2)
    (λ q. echo_none c.in_err-port-in-Echo.field-0.0 s q c.args.frame.now (cc (n, me, c.in-Echo.is, c.in_ok-errand.ensures, c.packet_in.ensures)) (c.in_err-port-in-Echo.ensures ∙ ap (λ z. back_to z s) c.packet_in-in-Echo.ensures), refl)

pub returns-in_ok-port-in-Echo : goal.returns-in_ok-port-in-Echo
returns-in_ok-port-in-Echo c q =
    let s = whole_of c.args.self.now in
    let n : c.boxes.result ≡ s.links.n = c.boxes.ensures ∙ ap (λ (l : Links). l.n) c.links-links.ensures in
    let me : c.box_number.result ≡ s.links.me = c.box_number.ensures ∙ ap (λ (l : Links). l.me) c.links-links.ensures in
    let went : c.turn.new.frame ≡ framed (echoed (packet_in c.args.frame.now)) = search rules in
    echo_sent c.in_ok-port-in-Echo.port s q c.args.frame.now c.turn.new.frame (cc (n, me, c.in-Echo.is, c.in_ok-errand.ensures, c.packet_in.ensures)) (c.in_ok-port-in-Echo.ensures ∙ ap (λ z. back_to z s) c.packet_in-in-Echo.ensures) went
