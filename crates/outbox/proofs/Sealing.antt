-- Equal parcels behind equal bytes.
use Rattle.std.proofs.Common.{◌≡◌, ℕ, List, ◌++◌, ap, ◌∙◌}
use Rattle.outbox.specs.Parcels.{parcel_bytes}

pub same_parcel : {a b x y : List ℕ} (port : ℕ) → a ≡ b → x ≡ y → a ++ parcel_bytes port x ≡ b ++ parcel_bytes port y
same_parcel {a} {b} {x} {y} port p q = ap (λ z. z ++ parcel_bytes port x) p ∙ ap (λ z. b ++ parcel_bytes port z) q
