use Rattle.octets.proofs.Puts.{sure}
use Rattle.octets.proofs.put_bytes.Goals as goal

-- a byte can always be cloned
pub unwrap-requires : goal.unwrap-requires
unwrap-requires c = sure c.clone_from_slice.result c.clone_from_slice.ensures.err (λ w. w.2 0 tt)
