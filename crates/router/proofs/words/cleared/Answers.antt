-- Each row loses its bit i; past the end no bit is set before or after.
use Rattle.std.proofs.Common.{◌≡◌, ℕ, Bool, true, false, not, ◌&&◌, eqb, ltb, length, refl, sym, ap, ◌∙◌, rules, ltb-false, ltb-true}
use mathlib.Core.Bool.{and-false, and_comm}
use Rattle.bits.specs.Bits.{bit}
use Rattle.messages.specs.Values.{at}
use Rattle.messages.proofs.Arrays.{mapped_at}
use Rattle.router.proofs.Tables.{bit_at_past}
use Rattle.router.proofs.words.cleared.Goals as goal

pub returns : goal.returns
returns c e j = go (ltb e 64) refl
  where
    go : (b : Bool) → ltb e 64 ≡ b → bit (at c.map.result e) j ≡ (not (eqb j c.args.i) && bit (at c.args.shown e) j)
    go true q =
        mapped_at _ (λ (x y : ℕ). (k : ℕ) → bit y k ≡ (bit x k && not (eqb k c.args.i))) _ (λ x y q k. search rules) _ _ _ e 0 0 c.map.ensures.items (ltb-true e 64 q) j
        ∙ and_comm (bit (at c.args.shown e) j) (not (eqb j c.args.i))
    go false q =
        let long : length c.args.shown ≡ 64 = search rules in
        let made : length c.map.result ≡ 64 = search rules in
        let past = ltb-false e 64 q in
        bit_at_past c.map.result e j 64 made past ∙ sym (ap (λ b. not (eqb j c.args.i) && b) (bit_at_past c.args.shown e j 64 long past) ∙ and-false (not (eqb j c.args.i)))
