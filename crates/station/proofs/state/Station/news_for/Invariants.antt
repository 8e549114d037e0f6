-- Those before this one are answered.
use Rattle.std.proofs.Common.{◌≡◌, ◌≤◌, length, drop}
use Rattle.station.specs.Packets.{is_out}
use Rattle.station.specs.State.{station_of}
use Rattle.station.specs.Ticking.{item_of, no_word}
use Rattle.station.proofs.AnsweringWords.{PutTo, news_left}
use Rattle.station.proofs.Scans.{NonePass}
use Rattle.station.proofs.state.Station.news_for.Given as goal

abbrev pub invariant-loop-word : goal.invariant-loop-word
invariant-loop-word l =
    PutTo item_of no_word (news_left 0 l.told (station_of l.self).box) (news_left l.word-index l.told (station_of l.self).box) l.word-index l.news.count l.news.items
    × NonePass (λ x. is_out (station_of l.self).box.n x.id) (drop l.word-index l.told) × (length l.told ≤ 4) × (l.news.drawn ≡ (station_of l.self).links.drawn)
