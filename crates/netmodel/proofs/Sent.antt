-- The words in the frames that a box sends over joined wires, as events: just these are then on their way.
use Rattle.std.proofs.Common.{◌≡◌, ℕ, ◌<◌, T, List, [], ◌∷◌, ◌++◌, Some, None, Option, sym, subst, append_assoc, ap₂, append-nil}
use Rattle.model.specs.Words.{Word, Ev, Sends, world}
use Rattle.model.specs.Promise.{by_rule}
use Rattle.model.specs.Box.{Box, sendings}
use Rattle.model.proofs.Sizes.{world_n}
use Rattle.model.proofs.Rows.{Like, like_sends}
use Rattle.model.proofs.BoxCode.{one_more}
use Rattle.model.proofs.WordsByRule.{rule_join}
use Rattle.linkmodel.specs.Station.{Item, Frame, Greets, Tells, Shows, Out, told_word}
use Rattle.linkmodel.specs.Calls.{abouts}
use Rattle.linkmodel.proofs.Fitting.{Every}
use Rattle.netmodel.specs.Net.{Plug, sent_over, sent_by}
use Rattle.netmodel.specs.Standing.{told_words, on_way, words_in}
use Rattle.netmodel.proofs.Others.{Away, away_none, away_join, away_sends}
use Rattle.std.proofs.lemmas.List.Concat.{flat_map-append}

-- by these events a box that stays as it is sends just these words
pub record Sending (n a : ℕ) (b : Box) (fs es : List Ev) (ws : List Word) : Type 0 where
  pub stays : Like n a (world n (fs ++ es)) b
  pub away : Away n a fs es ws []
  pub rule : T (by_rule n fs es)

-- a word that box b has of a box that there is
abbrev pub Had : ℕ → Box → Item → Type 0
Had n b x = (x.about < n) × (x.entry ≡ b.word x.about)

-- what is said over a wire that is joined to this
abbrev pub Said : ℕ → Box → Option Plug → Frame → Type 0
Said n b None f = Unit {0}
Said n b (Some p) (Greets h) = Unit {0}
Said n b (Some p) (Tells q) = (p.at < n) × (0 < b.cost p.at) × Every (Had n b) q.items
Said n b (Some p) (Shows q) = Unit {0}

-- the events of one frame, and of all that go out
abbrev pub saying_over : ℕ → Option Plug → Frame → List Ev
saying_over a None f = []
saying_over a (Some p) (Greets h) = []
saying_over a (Some p) (Tells q) = sendings a p.at (abouts q.items)
saying_over a (Some p) (Shows q) = []

unfoldable pub saying_all : ℕ → (ℕ → Option Plug) → List Out → List Ev
saying_all a j [] = []
saying_all a j (x ∷ xs) = saying_all a j xs ++ saying_over a (j x.on) x.frame

-- a box that sends stays as it is
module _ (n a : ℕ) (b : Box) (l : a < n) where
  none : (es : List Ev) → Like n a (world n es) b → Sending n a b [] es []
  unfolding by_rule
  none es k = record { stays = k; away = away_none n a es; rule = tt }

  join : (fs gs es : List Ev) (vs ws : List Word) → Sending n a b fs es vs → Sending n a b gs (fs ++ es) ws → Sending n a b (gs ++ fs) es (ws ++ vs)
  join fs gs es vs ws p q = record {
    stays = subst (λ (z : List Ev). Like n a (world n z) b) (sym (append_assoc gs fs es)) q.stays;
    away = away_join n a fs gs es vs ws [] p.away q.away;
    rule = rule_join n gs fs es q.rule p.rule;
  }

  one : (es : List Ev) (e : ℕ) (x : Item) → e < n → 0 < b.cost e → Had n b x → Like n a (world n es) b → Sending n a b (Sends a e x.about ∷ []) es (told_word a e x ∷ [])
  unfolding by_rule
  one es e x le o h k = record {
    stays = one_more n a es (Sends a e x.about) b (like_sends n a l (world n es) (world_n n es) b a e x.about k);
    away = subst (λ (w : Word). Away n a (Sends a e x.about ∷ []) es (w ∷ []) []) (ap₂ {C = Word} (λ (c : ℕ) (y : _). record { from = c; to = e; about = x.about; entry = y }) k.self (sym h.1)) (away_sends n a es b e x.about l le h.0 o k);
    rule = tt;
  }

  items : (es : List Ev) (e : ℕ) (xs : List Item) → e < n → 0 < b.cost e → Every (Had n b) xs → Like n a (world n es) b → Sending n a b (sendings a e (abouts xs)) es (told_words a e xs)
  unfolding sendings abouts told_words
  items es e [] le o h k = none es k
  items es e (x ∷ xs) le o h k =
      let p = one es e x le o h.0 k in
      join (Sends a e x.about ∷ []) (sendings a e (abouts xs)) es (told_word a e x ∷ []) (told_words a e xs) p (items (Sends a e x.about ∷ es) e xs le o h.1 p.stays)

  frame : (es : List Ev) (w : ℕ) (f : Frame) (o : Option Plug) → Said n b o f → Like n a (world n es) b → Sending n a b (saying_over a o f) es (on_way (sent_over a w f o))
  frame es w f None h k = none es k
  frame es w (Greets g) (Some p) h k = none es k
  frame es w (Tells q) (Some p) h k = subst (Sending n a b (sendings a p.at (abouts q.items)) es) (sym (append-nil (told_words a p.at q.items))) (items es p.at q.items h.0 h.1 h.2 k)
  frame es w (Shows q) (Some p) h k = none es k

  -- all that goes out
  pub all_sent : (j : ℕ → Option Plug) (es : List Ev) (out : List Out) → Every (λ (o : Out). Said n b (j o.on) o.frame) out → Like n a (world n es) b → Sending n a b (saying_all a j out) es (on_way (sent_by a j out))
  unfolding saying_all sent_by
  all_sent j es [] h k = none es k
  all_sent j es (o ∷ os) h k =
      let p = frame es o.on o.frame (j o.on) h.0 k in
      subst (Sending n a b (saying_all a j os ++ saying_over a (j o.on) o.frame) es) (sym (flat_map-append words_in (sent_by a j os) (sent_over a o.on o.frame (j o.on))))
      (join (saying_over a (j o.on) o.frame) (saying_all a j os) es (on_way (sent_over a o.on o.frame (j o.on))) (on_way (sent_by a j os)) p (all_sent j (saying_over a (j o.on) o.frame ++ es) os h.1 p.stays))
