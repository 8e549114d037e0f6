-- What goes out at a tick, by wire. Assumes nothing.
use Rattle.std.specs.Prelude.{◌≡◌, ℕ, zero, suc, ◌%◌, ◌<◌, ◌≤◌, Bool, cond, ◌&&◌, List, [], ◌∷◌, ◌++◌, length, replicate, Some, None, Option, ◌==◌, nat_lt, slice_index_or}
use Rattle.hello.specs.State.{greeting_of, tick_refusal}
use Rattle.messages.specs.Values.{entry_of}
use Rattle.messages.specs.declared.values.Hello.{Hello}
use Rattle.messages.specs.declared.values.Word.{Word}
use Rattle.messages.specs.Packets.{Words}
use Rattle.model.specs.Box.{Box, must_say, tells}
use Rattle.linkmodel.specs.Links.{Links, road_cost, who_on}
use Rattle.linkmodel.specs.Station.{Bundle, Greets, Item, Out, Station as Whole, Tells, can_say, items_of, tells_every, wire_to}
use Rattle.station.specs.Packets.{first_in, no_id}
use Rattle.station.specs.State.{by_wires}
use Rattle.station.specs.declared.answers.Refusal.{Refusal}

-- no word, and a packet of none
abbrev pub no_word : Word
no_word = record { id = no_id; costs = replicate 64 0 }

abbrev pub no_words : Words
no_words = record { drawn = 0; count = 0; items = no_word ∷ no_word ∷ no_word ∷ no_word ∷ [] }

abbrev pub item_of : Word → Item
item_of x = record { about = x.id.about; entry = entry_of x }

-- the first k of these
abbrev pub words_in : ℕ → List Word → List Item
words_in k xs = first_in item_of k xs

abbrev pub bundle_of : Words → Bundle
bundle_of p = record { drawn = p.drawn; items = words_in p.count p.items }

-- a packet of just these, of the box that drew d; those past its count are all zeros
pub record Carries (p : Words) (d : ℕ) (xs : List Item) : Type 0 where
  pub drawn : p.drawn ≡ d
  pub count : p.count ≡ length xs
  pub items : words_in p.count p.items ≡ xs
  pub rest : (k : ℕ) → length xs ≤ k → k < 4 → slice_index_or p.items k no_word ≡ no_word

-- telling goes out at this tick
abbrev pub is_telling : Links → Bool
is_telling s = s.tick % tells_every == 0

-- what it tells over wire w whom it heard there: nothing unless that is the lowest open wire to that box
abbrev pub told_to : Option ℕ → ℕ → Whole → List Item
told_to None w s = []
told_to (Some e) w s = cond (wire_to e s.links == w) (items_of (tells e s.box) s.box) []

abbrev pub told_on : ℕ → Whole → List Item
told_on w s = cond (is_telling s.links) (told_to (who_on (s.links.wire w)) w s) []

-- it must say a word, and can
abbrev pub says_word : Box → Bool
says_word b = must_say b && can_say (b.word b.me).number

abbrev pub ticking_refusal : Whole → Option Refusal
ticking_refusal s = by_wires (tick_refusal s.links)

-- the frames of hellos on the wires below k
abbrev pub greeting_on : ℕ → Option Hello → List Out
greeting_on w None = []
greeting_on w (Some h) = record { on = w; frame = Greets (greeting_of h) } ∷ []

unfoldable pub greetings_in : List (Option Hello) → ℕ → List Out
greetings_in hs zero = []
greetings_in hs (suc k) = greetings_in hs k ++ greeting_on k (slice_index_or hs k None)

-- and of words, for each box below k those on the lowest open wire to it
abbrev pub packet_on : ℕ → Words → List Out
packet_on w p = cond (p.count == 0) [] (record { on = w; frame = Tells (bundle_of p) } ∷ [])

unfoldable pub tellings_in : List Words → Links → ℕ → List Out
tellings_in ps s zero = []
tellings_in ps s (suc k) = tellings_in ps s k ++ cond (nat_lt 0 (road_cost k s)) (packet_on (wire_to k s) (slice_index_or ps (wire_to k s) no_words)) []

-- all that goes out
abbrev pub goes_out : List (Option Hello) → List Words → Whole → List Out
goes_out hs ps s = greetings_in hs 8 ++ tellings_in ps s.links s.links.n
