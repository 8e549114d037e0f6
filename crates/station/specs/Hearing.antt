-- What a packet of words leaves, and what is answered. Assumes nothing.
use Rattle.std.specs.Prelude.{◌≡◌, ℕ, zero, suc, ◌<◌, ◌≤◌, Bool, cond, List, [], ◌∷◌, ◌++◌, length, Some, None, Option, ◌==◌, slice_index_or}
use Rattle.messages.specs.Values.{ids_of}
use Rattle.messages.specs.Packets.{Seens}
use Rattle.messages.specs.declared.values.Word.{Word}
use Rattle.messages.specs.Packets.{Words}
use Rattle.model.specs.Box.{Box}
use Rattle.router.specs.State.{outcome_of}
use Rattle.router.specs.declared.answers.Outcome.{Outcome}
use Rattle.linkmodel.specs.Links.{Links}
use Rattle.linkmodel.specs.Station.{Bundle, Out, Shows, Sight, Station as Whole, answers, heard_words, is_stuck, marks_item, takes_item, teller, told_word, wire_to}
use Rattle.station.specs.Packets.{no_id, packet_refusal, seens_of, sights_in}
use Rattle.station.specs.Ticking.{item_of, packet_on}
use Rattle.station.specs.declared.answers.Refusal.{Refusal}

abbrev pub words_refusal : ℕ → Words → Whole → Option Refusal
words_refusal w p s = packet_refusal s.box.n (teller w s.links) p.count (ids_of p.items)

-- what a packet of words leaves
abbrev pub words_from : Option ℕ → Bundle → List ℕ → Whole → Whole
words_from None p ts s = s
words_from (Some e) p ts s = heard_words e p ts s

-- what became of one of them; nothing if the box would have to say a count that it cannot
abbrev pub outcome_if : ℕ → Word → Box → Option Outcome
outcome_if e x b = cond (is_stuck (told_word e b.me (item_of x)) b) None (Some (outcome_of e x b))

-- and of each of the first k, one after the other
unfoldable pub outcomes_in : Bool → ℕ → ℕ → List Word → List ℕ → Box → List (Option Outcome)
outcomes_in fits e zero xs ts b = []
outcomes_in fits e (suc k) [] ts b = []
outcomes_in fits e (suc k) (x ∷ xs) [] b = []
outcomes_in fits e (suc k) (x ∷ xs) (t ∷ ts) b = outcome_if e x b ∷ outcomes_in fits e k xs ts (marks_item fits e (item_of x) (takes_item e (item_of x) t b))

abbrev pub outcomes_from : Option ℕ → Words → List ℕ → Whole → List (Option Outcome)
outcomes_from None p ts s = []
outcomes_from (Some e) p ts s = outcomes_in (p.drawn == s.links.last e) e p.count p.items ts s.box

-- a packet of just these seens, of the box that drew d; those past its count are all zeros
pub record Showing (p : Seens) (d : ℕ) (xs : List Sight) : Type 0 where
  pub drawn : p.drawn ≡ d
  pub count : p.count ≡ length xs
  pub items : sights_in p.count p.items ≡ xs
  pub rest : (k : ℕ) → length xs ≤ k → k < 4 → slice_index_or p.items k no_id ≡ no_id

-- the frames of an answer
abbrev pub shown_on : ℕ → Seens → List Out
shown_on w p = cond (p.count == 0) [] (record { on = w; frame = Shows (seens_of p) } ∷ [])

abbrev pub answer_on : ℕ → Seens → Words → List Out
answer_on w p q = shown_on w p ++ packet_on w q

abbrev pub answers_from : Option ℕ → Bundle → Whole → List Out
answers_from None p s = []
answers_from (Some e) p s = answers e p s

-- over which wire: the lowest open one to who told
abbrev pub wire_back : Option ℕ → Links → ℕ
wire_back None s = 8
wire_back (Some e) s = wire_to e s
