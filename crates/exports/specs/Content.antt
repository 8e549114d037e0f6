-- What a frame holds, as rows of numbers.
-- Assumes nothing.
use Rattle.std.specs.Prelude.{ℕ, cond, ◌&&◌, List, [], ◌∷◌, ◌++◌, length, get_or, replicate, Ok, Err, Result, ◌==◌, nat_le, slice_index_or}
use Rattle.octets.specs.declared.Fault.{Fault}
use Rattle.messages.specs.declared.values.Hello.{Hello}
use Rattle.messages.specs.declared.values.WordId.{WordId}
use Rattle.messages.specs.declared.values.Word.{Word}
use Rattle.wordframes.specs.Reading.{blank_id, blank_word}
use Rattle.frames.specs.Reading.{Told, a_hello, some_words, some_seen, a_packet, frame_in}

-- 16 numbers: the kind, the box, the drawn number and the number heard
abbrev pub hello_numbers : Hello → List ℕ
hello_numbers h = 1 ∷ h.from ∷ h.drawn ∷ h.heard ∷ replicate 12 0

-- the box, the count and the tag of one word
abbrev pub id_numbers : WordId → List ℕ
id_numbers i = i.about ∷ i.count ∷ i.tag ∷ []

-- the kind, how many, the drawn number, 0, and the numbers of each of four
abbrev pub four_numbers : ℕ → ℕ → ℕ → List WordId → List ℕ
four_numbers kind count drawn ids =
    kind ∷ count ∷ drawn ∷ 0
    ∷ (id_numbers (slice_index_or ids 0 blank_id) ++ (id_numbers (slice_index_or ids 1 blank_id) ++ (id_numbers (slice_index_or ids 2 blank_id) ++ id_numbers (slice_index_or ids 3 blank_id))))

-- the numbers of the words
abbrev pub ids_of : List Word → List WordId
ids_of items = (get_or items 0 blank_word).id ∷ (get_or items 1 blank_word).id ∷ (get_or items 2 blank_word).id ∷ (get_or items 3 blank_word).id ∷ []

-- of a packet, its kind and how long it is
abbrev pub numbers_of : Told → List ℕ
numbers_of (a_hello h) = hello_numbers h
numbers_of (some_words w) = four_numbers 2 w.count w.drawn (ids_of w.items)
numbers_of (some_seen s) = four_numbers 3 s.count s.drawn s.items
numbers_of (a_packet bytes) = 4 ∷ length bytes ∷ replicate 14 0

-- nothing changes after a fault
abbrev pub numbers_or : List ℕ → Result Told Fault → List ℕ
numbers_or before (Ok t) = numbers_of t
numbers_or before (Err e) = before

abbrev pub numbers_left : ℕ → List ℕ → List ℕ → List ℕ
numbers_left n bytes before = cond (nat_le n 64 && length before == 16) (numbers_or before (frame_in n bytes)) before

-- the costs that one of the words has to each box; nothing changes where there are no words
abbrev pub costs_in : ℕ → List ℕ → Told → List ℕ
costs_in which before (some_words w) = (get_or w.items which blank_word).costs
costs_in which before (a_hello h) = before
costs_in which before (some_seen s) = before
costs_in which before (a_packet bytes) = before

abbrev pub costs_or : ℕ → List ℕ → Result Told Fault → List ℕ
costs_or which before (Ok t) = costs_in which before t
costs_or which before (Err e) = before

abbrev pub costs_left : ℕ → List ℕ → ℕ → List ℕ → List ℕ
costs_left n bytes which before = cond (nat_le n 64 && (length before == 64 && nat_le which 3)) (costs_or which before (frame_in n bytes)) before
