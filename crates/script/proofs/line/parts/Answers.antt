use Rattle.std.proofs.Common.{◌≡◌, ◌+◌, sym, ap, ◌∙◌, rules}
use Rattle.std.specs.Prelude.{count_by}
use Rattle.script.proofs.Lines.{is_blank, parts_counted}
use Rattle.script.proofs.line.parts.Goals as goal

pub returns : goal.returns
returns c = let n : c.count.result ≡ count_by is_blank c.args.text.now = search rules in ap (λ k. k + 1) n ∙ sym (parts_counted c.args.text.now)
