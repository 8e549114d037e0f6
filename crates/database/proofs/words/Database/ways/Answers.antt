-- Among no boxes, and where the call for ways is refused, all numbers stay "never" and "none".
use Rattle.std.proofs.Common.{◌≡◌, ℕ, zero, suc, ◌-◌, ◌<◌, ◌≤◌, refl, rules}
use Rattle.ways.specs.Table.{Found}
use Rattle.ways.specs.Refusals.{outcome_of}
use Rattle.database.specs.State.{NoWay, map_in}
use Rattle.database.proofs.Tables.{found_nothing, no_way}
use Rattle.database.proofs.words.Database.ways.Goals as goal

pub returns : goal.returns
returns c = record {
  found = λ few inside. go c.args.n refl few inside;
  none = λ h. refused (search rules);
  many = λ h. refused (search rules);
}
  where
    refused : 0 < outcome_of c.least_ways.result → NoWay record { far = c.least_ways.new.dist; next = c.least_ways.new.next }
    refused h = no_way _ _ (c.least_ways.ensures.refused h).0 (c.least_ways.ensures.refused h).1

    go : (n : ℕ) → c.args.n ≡ n → n ≤ 64 → c.args.me ≤ n - 1 → Found (map_in n c.args.self.now) c.args.me c.least_ways.new.dist c.least_ways.new.next
    go zero e few inside =
        found_nothing (map_in zero c.args.self.now) c.args.me _ _ refl (search rules) (search rules)
    go (suc n) e few inside =
        let v : outcome_of c.least_ways.result ≡ 0 = search rules in
        rw (← e) (c.least_ways.ensures.found v)
