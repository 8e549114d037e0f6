-- What an answer says of why it is refused. Assumes nothing.
use Rattle.std.specs.Prelude.{◌≡◌, Some, None, Ok, Err, Option, Result}

-- an answer is refused exactly where there is a reason, and for that reason
abbrev pub RefusedBy : {E A : Type 0} → Option E → Result A E → Type 0
RefusedBy why (Ok x) = why ≡ None
RefusedBy why (Err e) = why ≡ Some e
