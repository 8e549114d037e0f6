use Rattle.std.proofs.Common.{◌≡◌, Ok, sym, rules}
use Rattle.messages.specs.declared.values.Settings.{Settings}
use Rattle.frames.specs.Reading.{settings_in, value_in}
use Rattle.frames.proofs.Whole.{settings_only}
use Rattle.frames.proofs.settings_bytes.read_settings.Goals as goal

pub returns : goal.returns
returns c =
    let s : Settings = record { boxes = c.in_ok-boxes.boxes; me = c.in_ok-me.me; costs = c.in_ok-costs.costs } in
    let h : Ok s ≡ value_in (settings_in c.args.bytes.now) = search rules in
    record { reads = h; only = settings_only c.args.bytes.now s c.in_ok-kind.ensures.fits (sym h) }
