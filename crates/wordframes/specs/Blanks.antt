-- What the values have by default: all zeros. Assumes nothing.
use Rattle.std.proofs.Common.{◌≡◌, ℕ, ◌<◌, List, replicate, sym, ◌∙◌, arith}
use Rattle.std.specs.Array.{AllOfLen}
use Rattle.std.proofs.lemmas.List.{ext_get_or, get_or-replicate, length-replicate}
use Rattle.messages.specs.declared.values.Word.{Word}
use Rattle.messages.specs.declared.values.WordId.{WordId}
use Rattle.wordframes.specs.Reading.{blank_id, blank_word}

pub zero_id : (x : WordId) → (x.about ≡ 0) × ((x.count ≡ 0) × (x.tag ≡ 0)) → x ≡ blank_id
zero_id x h = λ i. record { about = h.0 i; count = h.1.0 i; tag = h.1.1 i }

zero_costs : (xs : List ℕ) → AllOfLen (λ (c : ℕ). c ≡ 0) xs 64 → xs ≡ replicate 64 0
zero_costs xs h = ext_get_or 0 xs (replicate 64 0) (h.long ∙ sym (length-replicate {A = ℕ} 64 0)) (λ i l. let lt : i < 64 = omega (arith, h.long) in h.at i 0 lt ∙ sym (get_or-replicate {A = ℕ} 64 i 0 0 lt))

pub zero_word : (x : Word) → ((x.id.about ≡ 0) × ((x.id.count ≡ 0) × (x.id.tag ≡ 0))) × AllOfLen (λ (c : ℕ). c ≡ 0) x.costs 64 → x ≡ blank_word
zero_word x h = λ i. record { id = zero_id x.id h.0 i; costs = zero_costs x.costs h.1 i }
