-- What a list of bytes is read as: a value, or the fault of the first group of bytes that is wrong.
-- Assumes nothing.
use Rattle.std.specs.Prelude.{ℕ, cond, ◌&&◌, List, [], drop, Ok, Err, Result, ◌==◌, nat_le}
use Rattle.octets.specs.declared.Fault.{Fault}
use Rattle.octets.specs.declared.Fault.TheVariants.{Form, Range, Count}
use Rattle.octets.specs.Reads.{Read, ◌>>=◌, ◌>>◌, give, unless, byte, number, below, positive, many, end}
use Rattle.messages.specs.declared.values.Hello.{Hello}
use Rattle.messages.specs.declared.values.Settings.{Settings}
use Rattle.messages.specs.declared.values.Word.{Word}
use Rattle.frames.specs.declared.values.Entry.{Entry}
use Rattle.frames.specs.declared.values.Entry.TheVariants.{Began, Said, Taken, Refused}
use Rattle.frames.specs.declared.values.Frame.{Frame}
use Rattle.frames.specs.declared.values.Frame.TheVariants.{Hello as OfHello, Words as OfWords, Seen as OfSeen, Packet as OfPacket}
use Rattle.frames.specs.declared.values.Line.{Line}
use Rattle.messages.specs.Packets.{Seens}
use Rattle.messages.specs.Packets.{Words}
use Rattle.wordframes.specs.Reading.{low_word, seens_in, word_in, words_in}

-- the value alone
abbrev pub value_in : {A : Type 0} → Result (A × List ℕ) Fault → Result A Fault
value_in (Ok t) = Ok t.0
value_in (Err e) = Err e

-- a hello, after its kind: the drawn number is never 0, the number heard may be
abbrev pub hello_in : ℕ → Read Hello
hello_in n = do
  from ← below n
  drawn ← positive 8
  heard ← number 8
  give (record { from = from; drawn = drawn; heard = heard })

abbrev pub wires_in : Read (List ℕ)
wires_in = many 8 (number 2)

-- how many boxes there are: 1 to 64
abbrev pub boxes_in : Read ℕ
boxes_in = do
  boxes ← byte
  unless Range (nat_le 1 boxes && nat_le boxes 64)
  give boxes

-- settings, all of the bytes
abbrev pub settings_in : Read Settings
settings_in = do
  kind ← byte
  unless Form (kind == 6)
  boxes ← boxes_in
  me ← below boxes
  costs ← wires_in
  end
  give (record { boxes = boxes; me = me; costs = costs })

-- what a frame holds, with a packet's bytes as a list
pub data Told : Type 0 where
  a_hello : Hello → Told
  some_words : Words → Told
  some_seen : Seens → Told
  a_packet : List ℕ → Told

abbrev pub told_by : Frame → Told
told_by (OfHello h) = a_hello h
told_by (OfWords w) = some_words w
told_by (OfSeen s) = some_seen s
told_by (OfPacket bytes) = a_packet bytes.now

abbrev pub answer_by : Result Frame Fault → Result Told Fault
answer_by (Ok f) = Ok (told_by f)
answer_by (Err e) = Err e

abbrev pub wrong : {A : Type 0} → Fault → Read A
wrong e bytes = Err e

-- all that is left
abbrev pub packet_in : Read Told
packet_in bytes = Ok (a_packet bytes, [])

-- a frame, after its kind and to the end; settings and journal lines are no frames
abbrev pub frame_of : ℕ → ℕ → Read Told
frame_of n kind =
    cond (kind == 1) (do
      h ← hello_in n
      end
      give (a_hello h))
    (cond (kind == 2) (do
      w ← words_in n
      give (some_words w))
    (cond (kind == 3) (do
      s ← seens_in n
      give (some_seen s))
    (cond (kind == 4) packet_in (wrong Form))))

-- what the bytes on a wire say, where there are n boxes
abbrev pub frame_in : ℕ → List ℕ → Result Told Fault
frame_in n bytes = value_in ((do
  kind ← byte
  frame_of n kind) bytes)

-- a word whose count is not too large
abbrev pub counted_in : ℕ → Read Word
counted_in n = do
  w ← word_in n
  unless Count (low_word w)
  give w

-- how many boxes there are, and which this is
abbrev pub began_in : Read Entry
began_in = do
  boxes ← boxes_in
  me ← below boxes
  give (Began boxes me)

-- what a journal line says, after the byte that says which kind of entry it is; where the box began or fell the line brings its own number of boxes
abbrev pub entry_in : ℕ → ℕ → Read Entry
entry_in n kind =
    cond (kind == 0) began_in
    (cond (kind == 1) (do
      w ← counted_in n
      give (Said w))
    (cond (kind == 2) (do
      w ← counted_in n
      give (Taken w))
    (cond (kind == 3) (do
      number ← byte
      give (Refused number))
    (wrong Form))))

-- one journal line at the front; others may follow
abbrev pub line_in : ℕ → Read Line
line_in n = do
  kind ← byte
  unless Form (kind == 5)
  tick ← number 4
  what ← byte
  entry ← entry_in n what
  give (record { tick = tick; what = entry })

-- an answer with how long it was, as the answer with what is left
abbrev pub and_after : Result (Line × ℕ) Fault → List ℕ → Result (Line × List ℕ) Fault
and_after (Ok t) bytes = Ok (t.0, drop t.1 bytes)
and_after (Err e) bytes = Err e
