use Rattle.std.proofs.Common.{◌≡◌, ◌∙◌, ap, sym, subst, rules}
use Rattle.checksum.proofs.Bytes.{bytes_from}
use Rattle.packets.specs.Travels.{EchoGood}
use Rattle.packets.specs.Packet.{echoed}
use Rattle.packets.specs.Sums.{both_summed}
use Rattle.packets.proofs.Answering.{addresses_turned, echo_good_lem}
use Rattle.packets.proofs.packet_echo.echo_back.Goals as goal

pub returns-then-packet-lt28 : goal.returns-then-packet-lt28
returns-then-packet-lt28 c =
    let is : c.args.packet.now ≡ echoed c.args.packet.now = search rules in
    record { is = is; good = subst (EchoGood c.args.packet.now) (sym is) (echo_good_lem c.args.packet.now (bytes_from c.args.packet.now (search rules))) }

pub returns : goal.returns
returns c =
    let t = addresses_turned c.args.packet.now c.swap_addresses.new.addresses c.if-packet-lt28.false c.swap_addresses.ensures in
    let e = c.put_sums.ensures ∙ ap both_summed t in
    let is : c.put_sums.new.packet ≡ echoed c.args.packet.now = search rules in
    record { is = is; good = subst (EchoGood c.args.packet.now) (sym is) (echo_good_lem c.args.packet.now (bytes_from c.args.packet.now (search rules))) }
