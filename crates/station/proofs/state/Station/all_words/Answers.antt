-- Each packet is that of its wire.
use Rattle.std.proofs.Common.{ℕ, rules}
use Rattle.messages.proofs.Arrays.{made_at}
use Rattle.messages.specs.Packets.{Words}
use Rattle.station.specs.State.{station_of}
use Rattle.station.specs.Ticking.{Carries, no_words, told_on}
use Rattle.station.proofs.state.Station.all_words.Goals as goal

pub returns : goal.returns
returns c w h =
    made_at _ (λ (i : ℕ) (p : Words). Carries p (station_of c.args.self.now).links.drawn (told_on i (station_of c.args.self.now))) _ (λ i y q k. search rules) _ _ w no_words c.from_fn.ensures.items h
