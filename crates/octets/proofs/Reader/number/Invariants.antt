use Rattle.std.proofs.Common.{◌≡◌, ◌^◌, ◌<◌, Ok}
use Rattle.octets.specs.Reads.{number}
use Rattle.octets.proofs.Reader.number.Given as goal

-- what was read so far is the number of so many bytes
abbrev pub invariant-loop : goal.invariant-loop
invariant-loop l = (number l.counter l.initial.self.left.now ≡ Ok (l.x, l.self.left.now)) × (l.x < 256 ^ l.counter)
