-- All boxes are calm just where that is rest, of what is there and of every run that leads to it.
use Rattle.std.proofs.Common.{◌≡◌, length, sym, refl, ◌∙◌, arith, rules, tests}
use Rattle.std.proofs.lemmas.Iterator.{YieldsList-from_range}
use Rattle.std.proofs.lemmas.Iterator.Search.{all_from_yields_List}
use Rattle.model.specs.Promise.{all_below}
use Rattle.net.specs.Nets.{calm_at}
use Rattle.net.proofs.Alls.{all_listed}
use Rattle.net.proofs.Calm.{rest_sound, rest_complete}
use Rattle.net.proofs.Rests.{few_rest, left_rest, rest_after, rest_so}
use Rattle.net.proofs.rest.at_rest.Goals as goal

pub returns : goal.returns
returns c =
    let ss = c.args.boxes.now in
    let n = length ss in
    let is : c.all.result ≡ all_below n (calm_at ss) =
    all_from_yields_List (calm_at ss) _ _ c.all.result c.all.ensures.ran (YieldsList-from_range 0 n n refl (omega arith)) (λ a b q k. search (rules, tests)) ∙ all_listed n (calm_at ss) in
    let after = rest_after ss c.all.result (λ t. (rest_sound ss (sym is ∙ t)).1) (λ few num rest. is ∙ rest_complete ss num rest) in
    record {
      test = λ few. is;
      sound = λ t. rest_sound ss (sym is ∙ t);
      complete = λ few num rest. is ∙ rest_complete ss num rest;
      after = after;
      so = rest_so ss c.all.result after;
      few = few_rest ss;
      left_alone = left_rest ss;
    }
