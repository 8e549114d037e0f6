-- The words below k are set, and the others are blank.
use Rattle.std.proofs.Common.{◌≡◌, ℕ, ◌<◌, ◌≤◌, length, get_or}
use Rattle.station.specs.State.{station_of}
use Rattle.station.specs.Ticking.{item_of, no_word}
use Rattle.station.proofs.state.Station.telling_to.Given as goal

abbrev pub invariant-loop-k : goal.invariant-loop-k
invariant-loop-k l =
    (length l.items ≡ 4)
    × ((j : ℕ) → j < l.k → item_of (get_or l.items j no_word) ≡ record { about = get_or l.abouts j 0; entry = (station_of l.self).box.word (get_or l.abouts j 0) })
    × ((j : ℕ) → l.k ≤ j → j < 4 → get_or l.items j no_word ≡ no_word)
