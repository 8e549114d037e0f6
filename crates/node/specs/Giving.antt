-- What a box gives out at each call, as the bytes of parcels one after the other. Assumes nothing.
use Rattle.std.specs.Prelude.{◌≡◌, ℕ, Bool, cond, List, [], ◌++◌, length, Some, None, Option, nat_lt, slice_index_or}
use Rattle.std.specs.List.{flat_map}
use Rattle.messages.specs.Packets.{Words}
use Rattle.frames.specs.declared.values.Entry.{Entry}
use Rattle.frames.specs.declared.values.Entry.TheVariants.{Began as BeganEntry, Refused as RefusedEntry, Said as SaidEntry, Taken as TakenEntry}
use Rattle.linkmodel.specs.Links.{Links, road_cost}
use Rattle.linkmodel.specs.Station.{Item, Out, Station as Whole, tick_out, ticks, wire_to}
use Rattle.linkmodel.specs.Calls.{expired}
use Rattle.outbox.specs.Parcels.{UsesAtMost, contents}
use Rattle.outbox.specs.declared.state.Outbox.{Outbox}
use Rattle.station.specs.State.{refusal_number}
use Rattle.station.specs.Ticking.{item_of, no_words, packet_on, says_word, ticking_refusal, words_in}
use Rattle.station.specs.declared.answers.Refusal.{Refusal as Reason}
use Rattle.node.specs.Book.{Began, Note, Refused, Said, Taken, book_bytes}
use Rattle.node.specs.Wires.{out_bytes}

-- these bytes were put in behind the others, as at most k parcels
pub record Added (k : ℕ) (bytes : List ℕ) (old new : Outbox) : Type 0 where
  pub holds : contents new ≡ contents old ++ bytes
  pub used : UsesAtMost k old new

-- the word that a box has of itself
abbrev pub own_item : Whole → Item
own_item s = record { about = s.box.me; entry = s.box.word s.box.me }

-- what an entry of the journal notes
abbrev pub noted : Entry → Note
noted (BeganEntry n me) = Began n me
noted (SaidEntry word) = Said (item_of word)
noted (TakenEntry word) = Taken (item_of word)
noted (RefusedEntry number) = Refused number

-- one line of the journal
abbrev pub note_of : Whole → Note → List ℕ
note_of s x = book_bytes s.links.tick x

-- a line for the word that it has of itself, if it said one
abbrev pub said_gives : Bool → Whole → List ℕ
said_gives said s = cond said (note_of s (Said (own_item s))) []

-- a tick: a line if a word was said, then hellos and words; s is the box after it
abbrev pub tick_gives : Bool → Whole → List ℕ
tick_gives said s = said_gives said s ++ flat_map out_bytes (tick_out s)

-- the words for box k, of these for each wire: those on the lowest open wire to it
abbrev pub told_over : List Words → ℕ → Links → List Out
told_over ps k s = cond (nat_lt 0 (road_cost k s)) (packet_on (wire_to k s) (slice_index_or ps (wire_to k s) no_words)) []

-- a packet holds as many words as its count says
abbrev pub Full : Words → Type 0
Full p = p.count ≡ length (words_in p.count p.items)

-- one thing where something is refused, another where it isn't
abbrev pub if_refused : {A : Type 0} → Option Reason → (Reason → A) → A → A
if_refused None f x = x
if_refused (Some r) f x = f r

-- a line that it was refused, for which number
abbrev pub refused_gives : Whole → Reason → List ℕ
refused_gives s r = note_of s (Refused (refusal_number r))

-- a tick: what it leaves, and what is given; where no tick is left to count it is refused
abbrev pub tick_leaves : ℕ → Whole → Whole
tick_leaves t s = if_refused (ticking_refusal s) (λ r. s) (ticks t s)

abbrev pub tick_all_gives : ℕ → Whole → List ℕ
tick_all_gives t s = if_refused (ticking_refusal s) (refused_gives s) (tick_gives (says_word (expired s)) (ticks t s))
