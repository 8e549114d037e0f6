use Rattle.std.proofs.Common.{[], take, get_or, false, ap, sym, ◌∙◌, rules}
use Rattle.std.proofs.Output.{has_written_append, has_written_of_eq}
use Rattle.std.proofs.lemmas.List.{take_more, flat_map_more}
use Rattle.std.proofs.lemmas.Fmt.{hex_byte}
use Rattle.console.specs.Outputs.{hex_text, pair_of}
use Rattle.console.proofs.output.PairsDisplay.fmt.Goals as goal

pub loop-b-preserved : goal.loop-b-preserved
loop-b-preserved g c = λ p.
    has_written_of_eq _ _ _ _ _
    (flat_map_more pair_of [] (take c.loop-b.b-index c.args.self.now.0.now) (get_or c.args.self.now.0.now c.loop-b.b-index 0) ∙
    ap (λ t. hex_text t) (sym (take_more c.args.self.now.0.now c.loop-b.b-index 0 c.loop-b-test.true)))
    (has_written_append _ _ _ _ _ _ (c.loop-b.invariant p)
    (has_written_of_eq _ _ _ _ _ (hex_byte false (get_or c.args.self.now.0.now c.loop-b.b-index 0) (search rules)) (search rules)))
