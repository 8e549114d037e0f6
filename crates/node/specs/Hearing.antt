-- What comes over a wire: what it leaves, and what is given out. Assumes nothing.
use Rattle.std.specs.Prelude.{◌≡◌, ◌^◌, ◌<◌, ◌≤◌, ℕ, zero, suc, List, [], ◌∷◌, ◌++◌, length, take, Some, None, Ok, Err, Option, Result, slice_index, slice_index_or}
use Rattle.std.specs.List.{flat_map}
use Rattle.octets.specs.declared.Fault.{Fault}
use Rattle.messages.specs.Packets.{Seens}
use Rattle.messages.specs.declared.values.Word.{Word}
use Rattle.messages.specs.Packets.{Words}
use Rattle.hello.specs.State.{greeting_of}
use Rattle.router.specs.declared.answers.Outcome.{Outcome}
use Rattle.router.specs.declared.answers.Outcome.TheVariants.{Taken as WasTaken, Said as WasSaid, Same, Older}
use Rattle.linkmodel.specs.Links.{hears_hello, relinks}
use Rattle.linkmodel.specs.Station.{Item, Station as Whole, heard_hello, teller}
use Rattle.outbox.specs.declared.reading.Port.{Port}
use Rattle.packets.specs.declared.error_quota.Quota.{Quota}
use Rattle.octets.specs.Faults.{fault_number}
use Rattle.octets.specs.declared.Fault.TheVariants.{Count, Form, Range}
use Rattle.frames.specs.Reading.{Told, a_hello, a_packet, some_seen, some_words}
use Rattle.station.specs.Events.{AnswersDid, Did, WordsDid}
use Rattle.station.specs.Hearing.{answers_from, outcomes_from, words_from, words_refusal}
use Rattle.station.specs.Packets.{seens_from, seens_of, seens_refusal, sights_in}
use Rattle.station.specs.State.{hello_refusal, refusal_number}
use Rattle.station.specs.Ticking.{bundle_of, item_of, no_word}
use Rattle.station.specs.declared.answers.Refusal.{Refusal as Reason}
use Rattle.node.specs.Book.{Note, Refused, Said, Taken}
use Rattle.node.specs.Giving.{if_refused, note_of}
use Rattle.node.specs.Passing.{Passed, passed}
use Rattle.node.specs.Refusals.{number_of}
use Rattle.node.specs.declared.refusals.Refusal.TheVariants.{NoRoad}
use Rattle.node.specs.Wires.{out_bytes}

-- a word that a box says above one that it was told, with its roads as they are
abbrev pub said_above : Item → ℕ → Whole → Item
said_above x t s = record { about = s.box.me; entry = record { number = suc x.entry.number; tag = t; road = s.box.cost } }

-- the line for a word that came, by what became of it
abbrev pub note_for : Option Outcome → Item → ℕ → Whole → List Note
note_for None x t s = []
note_for (Some WasTaken) x t s = Taken x ∷ []
note_for (Some WasSaid) x t s = Said (said_above x t s) ∷ []
note_for (Some Same) x t s = []
note_for (Some Older) x t s = []

-- and for each of the first k words of a packet
unfoldable pub notes_for : List (Option Outcome) → List Word → List ℕ → Whole → ℕ → List Note
notes_for os xs ts s zero = []
notes_for os xs ts s (suc k) = notes_for os xs ts s k ++ note_for (slice_index_or os k None) (item_of (slice_index_or xs k no_word)) (slice_index ts k) s

-- what is left of the box, what is given out, the errors made by then, what is left of the frame, and where that goes
pub record Handled : Type 0 where
  pub whole : Whole
  pub gives : List ℕ
  pub errors : Quota
  pub frame : List ℕ
  pub goes : Option Port

-- nothing happens, and nothing goes out
abbrev pub untouched : List ℕ → Whole → Quota → List ℕ → Handled
untouched gives s q f = record { whole = s; gives = gives; errors = q; frame = f; goes = None }

-- refused: a line, and nothing else
abbrev pub refused_by : ℕ → Whole → Quota → List ℕ → Handled
refused_by k s q f = untouched (note_of s (Refused k)) s q f

abbrev pub handled : Whole → List ℕ → Quota → List ℕ → Handled
handled r gives q f = record { whole = r; gives = gives; errors = q; frame = f; goes = None }

abbrev pub unless_refused : Option Reason → Handled → Whole → Quota → List ℕ → Handled
unless_refused o h s q f = if_refused o (λ e. refused_by (refusal_number e) s q f) h

-- a packet of words: a line for each that was taken or made the box say one, then the answers
abbrev pub words_leave : ℕ → Words → List ℕ → Whole → Whole
words_leave w p ts s = words_from (teller w s.links) (bundle_of p) (take p.count ts) s

abbrev pub words_give : ℕ → Words → List ℕ → Whole → List ℕ
words_give w p ts s =
    flat_map (note_of s) (notes_for (outcomes_from (teller w s.links) p ts s) p.items ts s p.count)
    ++ flat_map out_bytes (answers_from (teller w s.links) (bundle_of p) (words_leave w p ts s))

abbrev pub passed_as : Passed → Whole → Handled
passed_as p s = record { whole = s; gives = p.gives; errors = p.errors; frame = p.frame; goes = p.goes }

-- the number for a frame that is read as a fault: that a count is one that nobody says matters only over an open road, since of what is read whole the lowest number wins
abbrev pub unread : Fault → Option ℕ → ℕ
unread Form from = fault_number Form
unread Range from = fault_number Range
unread Count (Some e) = fault_number Count
unread Count None = number_of NoRoad

-- a frame on wire w, by what it is read as
abbrev pub by_frame : ℕ → Result Told Fault → List ℕ → Whole → Quota → List ℕ → Handled
by_frame w (Err e) ts s q f = refused_by (unread e (teller w s.links)) s q f
by_frame w (Ok (a_hello h)) ts s q f = unless_refused (hello_refusal w (greeting_of h) s) (handled (heard_hello w (greeting_of h) s) [] q f) s q f
by_frame w (Ok (some_words p)) ts s q f = unless_refused (words_refusal w p s) (handled (words_leave w p ts s) (words_give w p ts s) q f) s q f
by_frame w (Ok (some_seen p)) ts s q f = unless_refused (seens_refusal w p s) (handled (seens_from (teller w s.links) (seens_of p) s) [] q f) s q f
by_frame w (Ok (a_packet p)) ts s q f = passed_as (passed s q f) s

-- at most four words, each of a count below 2 ^ 63
abbrev pub Counted : Words → Type 0
Counted p = (p.count ≤ 4) × ((i : ℕ) → i < p.count → (slice_index_or p.items i no_word).id.count < 2 ^ 63)

-- a packet holds as many seens as its count says
abbrev pub FullSeens : Seens → Type 0
FullSeens p = p.count ≡ length (sights_in p.count p.items)

-- the events of the model that a frame is, if it isn't refused: roads that open and close; the coming of each word, and the sending of the answers; nothing for seens and packets
abbrev pub FrameDid : ℕ → Told → List ℕ → Whole → Whole → Type 0
FrameDid w (a_hello h) ts s r = hello_refusal w (greeting_of h) s ≡ None → Did s (relinks s.links (hears_hello w (greeting_of h) s.links) s.box.n) r
FrameDid w (some_words p) ts s r = words_refusal w p s ≡ None → WordsDid w (bundle_of p) (take p.count ts) s r × AnswersDid w (bundle_of p) r
FrameDid w (some_seen p) ts s r = seens_refusal w p s ≡ None → Did s [] r
FrameDid w (a_packet p) ts s r = Did s [] r
