use Rattle.std.proofs.Common.{◌≡◌, Ok, rules}
use Rattle.frames.specs.Reading.{a_hello, answer_by, frame_in, some_seen}
use Rattle.frames.proofs.Whole.{frame_only, answer_only}
use Rattle.frames.proofs.frame_bytes.read_frame.Goals as goal

pub returns-in_ok-end-in-1 : goal.returns-in_ok-end-in-1
returns-in_ok-end-in-1 c =
    let h : frame_in c.args.n c.args.bytes.now ≡ Ok (a_hello c.in_ok-hello-in-1.hello) = search rules in
    record { reads = h; only = frame_only c.args.n c.requires c.args.bytes.now (a_hello c.in_ok-hello-in-1.hello) c.in_ok-kind.ensures.fits h }

pub returns-in-2 : goal.returns-in-2
returns-in-2 c =
    let h : frame_in c.args.n c.args.bytes.now ≡ answer_by c.words_frame.result = search rules in
    record { reads = h; only = answer_only c.args.n c.requires c.args.bytes.now c.words_frame.result c.in_ok-kind.ensures.fits h }

pub returns-in_ok-seens-in-3 : goal.returns-in_ok-seens-in-3
returns-in_ok-seens-in-3 c =
    let h : frame_in c.args.n c.args.bytes.now ≡ Ok (some_seen c.in_ok-seens-in-3.seens) = search rules in
    record { reads = h; only = frame_only c.args.n c.requires c.args.bytes.now (some_seen c.in_ok-seens-in-3.seens) c.in_ok-kind.ensures.fits h }
