-- What is had of a subject never gets older, unless who has it falls.
use Rattle.std.proofs.Common.{◌≡◌, ℕ, false, eqb, sym, arith}
use Rattle.std.proofs.lemmas.Bool.{eqb-true}
use Rattle.model.specs.Words.{at2}
use Rattle.model.specs.Flood.{Item, fresher, Net, unspoken, spoken, recall}
use Rattle.model.specs.Spread.{OnwardFor}
use Rattle.model.proofs.Tests.{of_cond}
use Rattle.model.proofs.Acts.{by_act}
use Rattle.model.proofs.Fresh.{fresher_self, not_both, number_fresher}
use Rattle.model.proofs.Tables.{of_at2}

-- what is put in one place isn't older there, and elsewhere nothing changes
put_onward : {P : Type 0} (h : ℕ → ℕ → Item P) (b j : ℕ) (x : Item P) → fresher (h b j) x ≡ false → (a i : ℕ) → fresher (h a i) (at2 b j x h a i) ≡ false
put_onward h b j x f = of_at2 (λ a i y. fresher (h a i) y ≡ false) h b j x f (λ a i. fresher_self (h a i))

pub onward_for_lem : (P : Type 0) → OnwardFor P
onward_for_lem P s w e a i stands = by_act s e w (λ (v : Net P). fresher (w.holds a i) (v.holds a i) ≡ false) (record {
  stays = fresher_self (w.holds a i);
  turns = λ b l sp p _ _. fresher_self (w.holds a i);
  speaks = λ b j number t _ _ below. put_onward w.holds b j (spoken b j number t w) (not_both (spoken b j number t w) (w.holds b j) (number_fresher (spoken b j number t w) (w.holds b j) (omega arith))) a i;
  tells = λ b c j _ _ _. fresher_self (w.holds a i);
  takes = λ k x _ f. put_onward w.holds x.to x.about x.item (not_both x.item (w.holds x.to x.about) f) a i;
  falls = λ b to is _. of_cond (λ (r : ℕ → Item P). fresher (w.holds a i) (r i) ≡ false) (eqb a b) (λ j. recall (unspoken s) (to j) (w.had b j)) (w.holds a)
      (λ same. absurd (stands b to is (sym (eqb-true a b same)))) (λ _. fresher_self (w.holds a i));
})
