use Rattle.netbytes.proofs.Arrived.{frames_arrive}
use Rattle.netbytes.proofs.Delivered.{bytes_deliver}
use Rattle.netbytes.proofs.Hops.{hop_delivers}
use Rattle.promises.proofs.nets.bytes_on_wires.Goals as goal

pub returns : goal.returns
returns c = record { frames = frames_arrive; packets = bytes_deliver; hop = hop_delivers }
