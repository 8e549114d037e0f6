-- Facts about tests under the names that this crate uses.
use Rattle.std.proofs.Common.{◌≡◌, Bool, true, ◌&&◌}
use Rattle.model.proofs.Tests.{and_first, and_second}
pub use Rattle.model.proofs.Tests.{t_true as T-is, true_t as is_T, true_not_false, not-to-false as not-was}
pub use Rattle.std.proofs.lemmas.Bool.{and_from as and_both, and_left as fails-left, and_right as fails-right, not_from_false as not_is, cases_Bool as decide}

pub and_left : (a b : Bool) → (a && b) ≡ true → a ≡ true
and_left = and_first

pub and_right : (a b : Bool) → (a && b) ≡ true → b ≡ true
and_right = and_second
