use Rattle.std.proofs.Common.{◌≡◌, ◌^◌, ◌<◌, drop}
use Rattle.console.specs.Hex.{number_on, number_of}
use Rattle.console.proofs.hex.number.Given as goal

-- the digits so far fit, and those left go on to the whole number
abbrev pub invariant-loop-digit : goal.invariant-loop-digit
invariant-loop-digit l = (l.n < 16 ^ l.digit-index) × (number_on l.n (drop l.digit-index l.digits) ≡ number_of l.digits)
