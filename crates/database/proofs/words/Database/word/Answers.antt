-- A row of zeros stands for that of no word.
use Rattle.std.proofs.Common.{◌≡◌, ℕ, ◌<◌, ◌≤◌, Bool, true, false, ltb, [], length, get_or, replicate, sym, refl, ap, ◌∙◌, rules, ltb-false, ltb-true}
use lib.ListN.{get_or-eq_default}
use Rattle.messages.specs.Values.{at}
use Rattle.messages.proofs.Zeros.{at_zeros}
use Rattle.database.proofs.Tables.{same_entry}
use Rattle.database.proofs.words.Database.word.Goals as goal

pub returns-clause-is : goal.returns-clause-is
returns-clause-is c = same_entry (search rules) (search rules) (λ e. go e (ltb c.args.about 64) refl)
  where
    go : (e : ℕ) (b : Bool) → ltb c.args.about 64 ≡ b → at c.unwrap_or.result e ≡ at (get_or c.args.self.now.costs c.args.about []) e
    go e true q =
        let l : c.args.about < 64 = ltb-true c.args.about 64 q in
        let s : c.unwrap_or.result ≡ get_or c.args.self.now.costs c.args.about [] = search rules in
        ap (λ row. at row e) s
    go e false q =
        let l : 64 ≤ c.args.about = ltb-false c.args.about 64 q in
        let long : length c.args.self.now.costs ≡ 64 = search rules in
        let s : c.unwrap_or.result ≡ replicate 64 0 = search rules in
        ap (λ row. at row e) s ∙ at_zeros 64 e ∙ sym (ap (λ row. at row e) (get_or-eq_default c.args.self.now.costs [] (rw long l)))
