use Rattle.std.proofs.Common.{Ok, sym, ap, ◌∙◌}
use Rattle.frames.specs.Writing.{bytes_of_line}
use Rattle.frames.proofs.Lines.{front_of, line_only}
use Rattle.frames.proofs.line_bytes.read_line.Goals as goal

pub overflow_sub-result : goal.overflow_sub-result
overflow_sub-result c =
    let i = line_only c.args.n c.requires c.args.bytes.now _ _ c.in_ok-line.ensures.fits c.in_ok-line.ensures.reads in
    (front_of (bytes_of_line c.in_ok-line.line) _ c.args.bytes.now i.is).0

pub returns : goal.returns
returns c =
    let i = line_only c.args.n c.requires c.args.bytes.now _ _ c.in_ok-line.ensures.fits c.in_ok-line.ensures.reads in
    let f = front_of (bytes_of_line c.in_ok-line.line) _ c.args.bytes.now i.is in
    record {
      reads = c.in_ok-line.ensures.reads ∙ ap (λ z. Ok (c.in_ok-line.line, z)) (sym f.2);
      only = (f.1, i.good);
      long = f.3;
    }
