use Rattle.std.proofs.Common.{◌≡◌, [], ◌++◌, Ok, Result, sym, refl, ap, ◌∙◌, subst}
use Rattle.std.proofs.lemmas.Result.{err_from_is_err_and}
use Rattle.octets.specs.declared.Fault.{Fault}
use Rattle.checksum.specs.Refused.{body_of}
use Rattle.frames.specs.Reading.{Told, a_hello, a_packet, frame_in, some_seen, some_words, told_by}
use Rattle.frames.specs.declared.values.Frame.{Frame}
use Rattle.hello.specs.State.{greeting_of}
use Rattle.linkmodel.specs.Links.{Links}
use Rattle.linkmodel.specs.Station.{heard_hello, teller}
use Rattle.outbox.specs.Parcels.{contents}
use Rattle.station.specs.Hearing.{words_refusal}
use Rattle.station.specs.Packets.{seens_from, seens_of, seens_refusal}
use Rattle.station.specs.State.{hello_refusal}
use Rattle.node.specs.Hearing.{by_frame, handled, words_give, words_leave}
use Rattle.node.specs.Handled.{HandledBy}
use Rattle.node.specs.Passing.{passed}
use Rattle.node.specs.State.{whole_of}
use Rattle.node.proofs.Heard.{did_reading, empty_lem, fits_long, heard_lem, no_reason, not_heard, passed_by_lem, read_lem}
use Rattle.node.proofs.state.Node.hears.Goals as goal
use Rattle.node.proofs.state.Node.hears.Goals.{After-boxes}

boxes_of : (c : After-boxes) → c.boxes.result ≡ (whole_of c.args.self.now).links.n
boxes_of c = c.boxes.ensures ∙ ap (λ (l : Links). l.n) c.links.ensures

pub overflow_sub-end : goal.overflow_sub-end
overflow_sub-end c = fits_long c.args.frame.now (c.if-not-sum_fits.ensures.fits.0 refl)

pub returns-in_err-words-in-Ok-Words-clause-read : goal.returns-in_err-words-in-Ok-Words-clause-read
returns-in_err-words-in-Ok-Words-clause-read c f =
    let p = err_from_is_err_and c.from_residual-in_err-words-in-Ok-Words.result c.from_residual-in_err-words-in-Ok-Words.ensures.1 in
    let s = whole_of c.args.self.now in
    let w = c.in-Ok-Words.words in
    let x : frame_in s.links.n (body_of c.args.frame.now) ≡ Ok (some_words w) = read_lem (body_of c.args.frame.now) (boxes_of (goal.at.returns-in_err-words-in-Ok-Words-clause-read c).After-boxes) (c.in-Ok-Words.ensures.reads ∙ ap (λ (y : Frame). Ok (told_by y)) c.in-Ok-Words.field-0-is) in
    rw (p.1, p.2)
    (record {
      refused = not_heard c.args.wire c.args.tags s c.args.self.now.quota c.args.frame.now _ (some_words w) (words_refusal c.args.wire w s) (handled (words_leave c.args.wire w c.args.tags s) (words_give c.args.wire w c.args.tags s) c.args.self.now.quota c.args.frame.now) c.in_err-words-in-Ok-Words.field-0.0 x refl c.in_err-words-in-Ok-Words.ensures.heard.0;
      node = c.in_err-words-in-Ok-Words.ensures.heard.1;
      out = c.in_err-words-in-Ok-Words.ensures.gives;
      frame = refl;
    })

pub returns-in_err-words-in-Ok-Words-clause-so : goal.returns-in_err-words-in-Ok-Words-clause-so
returns-in_err-words-in-Ok-Words-clause-so c f t h =
    let s = whole_of c.args.self.now in
    let w = c.in-Ok-Words.words in
    let x : frame_in s.links.n (body_of c.args.frame.now) ≡ Ok (some_words w) = read_lem (body_of c.args.frame.now) (boxes_of (goal.at.returns-in_err-words-in-Ok-Words-clause-so c).After-boxes) (c.in-Ok-Words.ensures.reads ∙ ap (λ (y : Frame). Ok (told_by y)) c.in-Ok-Words.field-0-is) in
    did_reading c.args.wire _ (some_words w) t c.args.tags s (whole_of c.words.new.self) x h (λ e. absurd (no_reason (words_refusal c.args.wire w s) c.in_err-words-in-Ok-Words.field-0.0 c.in_err-words-in-Ok-Words.ensures.heard.0 e))

pub returns-in_err-seens-in-Ok-Seen-clause-read : goal.returns-in_err-seens-in-Ok-Seen-clause-read
returns-in_err-seens-in-Ok-Seen-clause-read c f =
    let p = err_from_is_err_and c.from_residual-in_err-seens-in-Ok-Seen.result c.from_residual-in_err-seens-in-Ok-Seen.ensures.1 in
    let s = whole_of c.args.self.now in
    let w = c.in-Ok-Seen.seens in
    let x : frame_in s.links.n (body_of c.args.frame.now) ≡ Ok (some_seen w) = read_lem (body_of c.args.frame.now) (boxes_of (goal.at.returns-in_err-seens-in-Ok-Seen-clause-read c).After-boxes) (c.in-Ok-Seen.ensures.reads ∙ ap (λ (y : Frame). Ok (told_by y)) c.in-Ok-Seen.field-0-is) in
    rw (p.1, p.2)
    (record {
      refused = not_heard c.args.wire c.args.tags s c.args.self.now.quota c.args.frame.now _ (some_seen w) (seens_refusal c.args.wire w s) (handled (seens_from (teller c.args.wire s.links) (seens_of w) s) [] c.args.self.now.quota c.args.frame.now) c.in_err-seens-in-Ok-Seen.field-0.0 x refl c.in_err-seens-in-Ok-Seen.ensures.0;
      node = c.in_err-seens-in-Ok-Seen.ensures.1;
      out = refl;
      frame = refl;
    })

pub returns-in-Ok-Packet-clause-read : goal.returns-in-Ok-Packet-clause-read
returns-in-Ok-Packet-clause-read c f =
    let s = whole_of c.args.self.now in
    let x : frame_in s.links.n (body_of c.args.frame.now) ≡ Ok (a_packet _) = read_lem (body_of c.args.frame.now) (boxes_of (goal.at.returns-in-Ok-Packet-clause-read c).After-boxes) (c.in-Ok-Packet.ensures.reads ∙ ap (λ (y : Frame). Ok (told_by y)) c.in-Ok-Packet.field-0-is) in
    subst (λ (y : Result Told Fault). HandledBy (by_frame c.args.wire y c.args.tags s c.args.self.now.quota c.args.frame.now) c.pass.new.self (contents c.pass.new.out) c.pass.new.frame c.pass.result) (sym x)
    (passed_by_lem (passed s c.args.self.now.quota c.args.frame.now) c.args.self.now c.pass.new.self (contents c.args.out.now) (contents c.pass.new.out) c.pass.new.frame c.pass.result (empty_lem c.args.out.now c.requires) c.pass.ensures)

pub returns-in_ok-hello-in-Ok-Hello-clause-read : goal.returns-in_ok-hello-in-Ok-Hello-clause-read
returns-in_ok-hello-in-Ok-Hello-clause-read c f =
    let s = whole_of c.args.self.now in
    let q = c.args.self.now.quota in
    let g = c.args.frame.now in
    let x : frame_in s.links.n (body_of g) ≡ Ok (a_hello c.in-Ok-Hello.hello) = read_lem (body_of c.args.frame.now) (boxes_of (goal.at.returns-in_ok-hello-in-Ok-Hello-clause-read c).After-boxes) (c.in-Ok-Hello.ensures.reads ∙ ap (λ (y : Frame). Ok (told_by y)) c.in-Ok-Hello.field-0-is) in
    let t = c.in_ok-hello-in-Ok-Hello.ensures in
    heard_lem c.args.wire c.args.tags s q g _ _ (a_hello c.in-Ok-Hello.hello) (hello_refusal c.args.wire (greeting_of c.in-Ok-Hello.hello) s) (handled (heard_hello c.args.wire (greeting_of c.in-Ok-Hello.hello) s) [] q g) _ x refl t.0
    (record { whole = t.1; gives = empty_lem c.args.out.now c.requires; errors = t.2; left = refl; port = refl })

pub returns-in_ok-words-in-Ok-Words-clause-read : goal.returns-in_ok-words-in-Ok-Words-clause-read
returns-in_ok-words-in-Ok-Words-clause-read c f =
    let s = whole_of c.args.self.now in
    let q = c.args.self.now.quota in
    let g = c.args.frame.now in
    let x : frame_in s.links.n (body_of g) ≡ Ok (some_words c.in-Ok-Words.words) = read_lem (body_of c.args.frame.now) (boxes_of (goal.at.returns-in_ok-words-in-Ok-Words-clause-read c).After-boxes) (c.in-Ok-Words.ensures.reads ∙ ap (λ (y : Frame). Ok (told_by y)) c.in-Ok-Words.field-0-is) in
    let t = c.in_ok-words-in-Ok-Words.ensures.heard in
    heard_lem c.args.wire c.args.tags s q g _ _ (some_words c.in-Ok-Words.words) (words_refusal c.args.wire c.in-Ok-Words.words s) (handled (words_leave c.args.wire c.in-Ok-Words.words c.args.tags s) (words_give c.args.wire c.in-Ok-Words.words c.args.tags s) q g) _ x refl t.0
    (record { whole = t.1; gives = c.in_ok-words-in-Ok-Words.ensures.gives ∙ ap (λ z. z ++ words_give c.args.wire c.in-Ok-Words.words c.args.tags s) (empty_lem c.args.out.now c.requires); errors = t.2; left = refl; port = refl })

pub returns-in_ok-seens-in-Ok-Seen-clause-read : goal.returns-in_ok-seens-in-Ok-Seen-clause-read
returns-in_ok-seens-in-Ok-Seen-clause-read c f =
    let s = whole_of c.args.self.now in
    let q = c.args.self.now.quota in
    let g = c.args.frame.now in
    let x : frame_in s.links.n (body_of g) ≡ Ok (some_seen c.in-Ok-Seen.seens) = read_lem (body_of c.args.frame.now) (boxes_of (goal.at.returns-in_ok-seens-in-Ok-Seen-clause-read c).After-boxes) (c.in-Ok-Seen.ensures.reads ∙ ap (λ (y : Frame). Ok (told_by y)) c.in-Ok-Seen.field-0-is) in
    let t = c.in_ok-seens-in-Ok-Seen.ensures in
    heard_lem c.args.wire c.args.tags s q g _ _ (some_seen c.in-Ok-Seen.seens) (seens_refusal c.args.wire c.in-Ok-Seen.seens s) (handled (seens_from (teller c.args.wire s.links) (seens_of c.in-Ok-Seen.seens) s) [] q g) _ x refl t.0
    (record { whole = t.1; gives = empty_lem c.args.out.now c.requires; errors = t.2; left = refl; port = refl })
