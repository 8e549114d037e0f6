use Rattle.frames.specs.Reading.{some_seen}
use Rattle.frames.proofs.Lines.{wrote_again}
use Rattle.frames.proofs.frame_bytes.write_seens.Goals as goal

pub returns : goal.returns
returns c = record { wrote = c.put_seens.ensures; again = wrote_again (some_seen c.args.seens) c.args.out.now c.put_seens.new.out c.put_seens.result c.put_seens.ensures }
