use Rattle.std.proofs.Common.{◌≡◌, ◌∙◌, ap, sym, [], rules, unwrap_or, slice_get, get_or}
use Rattle.std.specs.List.{slice_split}
use Rattle.std.specs.Option.{option_map}
use Rattle.std.proofs.lemmas.Iterator.Consumers.{nth_from_yields_List}
use Rattle.std.proofs.lemmas.Iterator.Splits.{YieldsList-from_slice_split}
use Rattle.std.proofs.lemmas.Option.{unwrap_or-slice_get}
use Rattle.script.proofs.Lines.{is_blank, part_split, unwrapped}
use Rattle.script.proofs.line.part.Goals as goal

pub returns : goal.returns
returns c =
    let e : option_map (λ x. x.now) c.nth.result ≡ slice_get (slice_split is_blank c.args.text.now) c.from.result = nth_from_yields_List _ _ _ c.nth.ensures.ran (YieldsList-from_slice_split _ is_blank c.args.text.now c.split.ensures.rest c.split.ensures.done c.split.ensures.closure (λ x b q k. search rules)) in
    ap (λ x. x.now) c.unwrap_or.ensures ∙ unwrapped (λ x. x.now) c.nth.result _ ∙ ap (λ o. unwrap_or o []) e ∙ unwrap_or-slice_get (slice_split is_blank c.args.text.now) c.from.result [] ∙
    ap (λ k. get_or (slice_split is_blank c.args.text.now) k []) c.from.ensures ∙ sym (part_split c.args.skip c.args.text.now)
