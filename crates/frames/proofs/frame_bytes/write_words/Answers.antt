use Rattle.frames.specs.Reading.{some_words}
use Rattle.frames.proofs.Lines.{wrote_again}
use Rattle.frames.proofs.frame_bytes.write_words.Goals as goal

pub returns : goal.returns
returns c = record { wrote = c.put_words.ensures; again = wrote_again (some_words c.args.words) c.args.out.now c.put_words.new.out c.put_words.result c.put_words.ensures }
