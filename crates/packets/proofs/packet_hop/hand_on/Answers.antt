use Rattle.std.proofs.Common.{◌≡◌, rules}
use Rattle.packets.specs.Packet.{StaysRight, handed_on}
use Rattle.packets.proofs.Hops.{handed, packet_right, stays_whole_lem}
use Rattle.packets.proofs.Onwards.{hop_good_lem}
use Rattle.packets.proofs.packet_hop.hand_on.Goals as goal

pub returns-then-packet-lt20 : goal.returns-then-packet-lt20
returns-then-packet-lt20 c =
    let is : c.args.packet.now ≡ handed_on c.args.packet.now = search rules in
    let right : StaysRight c.args.packet.now c.args.packet.now = search rules in
    record { is = is; right = right; whole = λ w _. w; goes = hop_good_lem c.args.packet.now _ is right }

pub returns : goal.returns
returns c =
    let is = handed c.args.packet.now c.fall.new.header c.if-packet-lt20.false c.if-packet-eq0.false c.fall.ensures.is in
    let right = packet_right c.args.packet.now c.fall.new.header c.if-packet-lt20.false c.fall.ensures.is c.fall.ensures.right in
    record { is = is; right = right; whole = stays_whole_lem c.args.packet.now _ is right; goes = hop_good_lem c.args.packet.now _ is right }
