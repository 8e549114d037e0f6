-- Two states of the model are the same if their parts are, at every place.
use Rattle.std.proofs.Common.{◌≡◌, ℕ}
use Rattle.model.specs.Box.{Box}

pub same_box : {s t : Box} → s.n ≡ t.n → s.me ≡ t.me → ((e : ℕ) → s.cost e ≡ t.cost e) → ((i : ℕ) → s.word i ≡ t.word i) → ((e i : ℕ) → s.shown e i ≡ t.shown e i) → s ≡ t
same_box a b c d f = λ k. record { n = a k; me = b k; cost = λ e. c e k; word = λ i. d i k; shown = λ e i. f e i k }
