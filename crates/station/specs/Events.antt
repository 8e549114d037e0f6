-- Which events of the model each call is. Assumes nothing.
use Rattle.std.specs.Prelude.{◌≡◌, ℕ, false, T, List, ◌++◌, Some, ◌==◌}
use Rattle.model.specs.Box.{Stands, sendings, tellings}
use Rattle.model.specs.Boxes.{words_out, words_to}
use Rattle.model.specs.Words.{Ev, is_in, world}
use Rattle.linkmodel.specs.Calls.{abouts, are_sent, expired, none_stuck, saying, all_fresh}
use Rattle.linkmodel.specs.Links.{passes, relinks}
use Rattle.linkmodel.specs.Station.{Bundle, Station as Whole, news_for, takings, teller}

-- a box that stood after some events stands after these too
abbrev pub Did : Whole → List Ev → Whole → Type 0
Did s fs r = (es : List Ev) → Stands s.box es → Stands r.box (fs ++ es)

-- a tick: old roads close, and a word is said if one is owed, under a tag that was never drawn
abbrev pub TickDid : ℕ → Whole → Whole → Type 0
TickDid t s r =
    (es : List Ev) → is_in t (world s.box.n es).drawn ≡ false → Stands s.box es →
    Stands r.box ((saying t (expired s) ++ relinks s.links (passes s.links) s.box.n) ++ es)

-- the words that it then tells are sent, and just these are then on their way beside the earlier ones
abbrev pub TellsDid : Whole → Type 0
TellsDid r =
    (es : List Ev) → Stands r.box es →
    Stands r.box (tellings r.box r.box.n ++ es) × ((world r.box.n (tellings r.box r.box.n ++ es)).flight ≡ words_out r.box r.box.n ++ (world r.box.n es).flight)

-- a packet of words: each of them comes, wherever it is among all words sent, if the tags are new and the box need say no count that it cannot
abbrev pub WordsDid : ℕ → Bundle → List ℕ → Whole → Whole → Type 0
WordsDid w p ts s r =
    (es : List Ev) (ks : List ℕ) (e : ℕ) → teller w s.links ≡ Some e → are_sent ks e s.box.me p.items (world s.box.n es).flight →
    T (all_fresh ts (world s.box.n es).drawn) → T (none_stuck (p.drawn == s.links.last e) e p.items ts s.box) → Stands s.box es → Stands r.box (takings ks ts ++ es)

-- and the newer words that are answered are sent, and just these are then on their way beside the earlier ones
abbrev pub AnswersDid : ℕ → Bundle → Whole → Type 0
AnswersDid w p r =
    (es : List Ev) (e : ℕ) → teller w r.links ≡ Some e → Stands r.box es →
    Stands r.box (sendings r.box.me e (abouts (news_for p.items r.box)) ++ es)
    × ((world r.box.n (sendings r.box.me e (abouts (news_for p.items r.box)) ++ es)).flight ≡ words_to r.box e (abouts (news_for p.items r.box)) ++ (world r.box.n es).flight)
