-- Which values are in range, where there are n boxes: those that a frame, settings or a journal line can hold. Assumes nothing.
use Rattle.std.specs.Prelude.{◌≡◌, ℕ, ◌-◌, ◌^◌, ◌<◌, ◌≤◌, length, drop, replicate, ◌≢◌, slice_index, slice_index_or}
use Rattle.messages.specs.declared.values.Word.{Word}
use Rattle.messages.specs.declared.values.WordId.{WordId}
use Rattle.messages.specs.Packets.{Seens}
use Rattle.messages.specs.Packets.{Words}
use Rattle.wordframes.specs.Reading.{blank_id, blank_word}
use Rattle.wordframes.specs.Writing.{roads_to}

pub record IdInRange (n : ℕ) (i : WordId) : Type 0 where
  pub box : i.about < n
  pub some_count : 0 < i.count
  pub count : i.count < 2 ^ 63
  pub tag : i.tag < 2 ^ 64

-- at most 8 roads, none to itself or past the boxes there are
pub record WordInRange (n : ℕ) (w : Word) : Type 0 where
  pub id : IdInRange n w.id
  pub boxes : length w.costs ≡ 64
  pub few : length (roads_to w.costs 64) ≤ 8
  pub below : (i : ℕ) → (slice_index w.costs i ≢ 0) → i < n
  pub other : (i : ℕ) → (slice_index w.costs i ≢ 0) → i ≢ w.id.about
  pub costs : (i : ℕ) → slice_index w.costs i < 2 ^ 16

pub record WordsInRange (n : ℕ) (w : Words) : Type 0 where
  pub some_drawn : 0 < w.drawn
  pub drawn : w.drawn < 2 ^ 64
  pub some : 1 ≤ w.count
  pub few : w.count ≤ 4
  pub four : length w.items ≡ 4
  pub each : (i : ℕ) → i < w.count → WordInRange n (slice_index_or w.items i blank_word)
  pub blank : drop w.count w.items ≡ replicate (4 - w.count) blank_word

pub record SeensInRange (n : ℕ) (s : Seens) : Type 0 where
  pub some_drawn : 0 < s.drawn
  pub drawn : s.drawn < 2 ^ 64
  pub some : 1 ≤ s.count
  pub few : s.count ≤ 4
  pub four : length s.items ≡ 4
  pub each : (i : ℕ) → i < s.count → IdInRange n (slice_index_or s.items i blank_id)
  pub blank : drop s.count s.items ≡ replicate (4 - s.count) blank_id
