-- What is shown stays so over each thing that a box does.
use Rattle.linkmodel.specs.Links.{hears_hello, rewired}
use Rattle.linkmodel.specs.Telling.{KeepsShown}
use Rattle.linkmodel.proofs.Staying.{keeps_self, keeps_hello, keeps_ticks, keeps_words, keeps_seens, keeps_falls}
use Rattle.netmodel.proofs.Moving.{EachThing}

-- all of them keep what is shown
pub all_keep_shown : EachThing KeepsShown
all_keep_shown = record {
  nothing = keeps_self;
  ticked = keeps_ticks;
  greeted = λ w h s. keeps_hello s (hears_hello w h s.links);
  told = keeps_words;
  seen = keeps_seens;
  rewired = λ c s. keeps_hello s (rewired c s.links);
  fell = keeps_falls;
}
