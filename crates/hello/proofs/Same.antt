-- Two states of the model are the same if their parts are, at every place.
use Rattle.std.proofs.Common.{◌≡◌, ℕ}
use Rattle.linkmodel.specs.Links.{Links as Box}

pub same_links : {s t : Box} → s.n ≡ t.n → s.me ≡ t.me → s.drawn ≡ t.drawn → s.tick ≡ t.tick → ((w : ℕ) → s.cost w ≡ t.cost w) → ((w : ℕ) → s.wire w ≡ t.wire w) → ((e : ℕ) → s.last e ≡ t.last e) → s ≡ t
same_links a b c d f g h = λ k. record { n = a k; me = b k; drawn = c k; tick = d k; cost = λ w. f w k; wire = λ w. g w k; last = λ e. h e k }
