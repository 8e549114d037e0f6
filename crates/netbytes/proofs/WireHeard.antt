-- What the running box does with the bytes of a frame that fits is what the model does with the frame, also on a wire without a cost, where both do nothing.
use Rattle.std.proofs.Common.{◌≡◌, ℕ, zero, suc, ◌<◌, ◌≤◌, Bool, true, false, cond, ◌&&◌, eqb, ltb, List, [], length, None, Ok, Option, sym, refl, ap, ◌∙◌, subst, arith}
use Rattle.std.specs.List.{flat_map}
use Rattle.checksum.specs.Crc.{SumFits}
use Rattle.checksum.specs.Refused.{body_of}
use Rattle.frames.specs.Reading.{Told, frame_in}
use Rattle.linkmodel.specs.Calls.{Joined}
use Rattle.linkmodel.specs.Links.{Links, Wire, greeted, hello_refusal, who_on, wires}
use Rattle.linkmodel.specs.Station.{Frame, Greets, Out, Shows, Tells, Station as Whole, open_to, relink_as, teller}
use Rattle.netmodel.specs.Fits.{FrameFits}
use Rattle.node.specs.Handled.{HandledBy}
use Rattle.node.specs.Hearing.{by_frame, untouched}
use Rattle.node.specs.State.{whole_of}
use Rattle.node.specs.Wires.{out_bytes}
use Rattle.node.specs.declared.state.Node.{Node}
use Rattle.outbox.specs.declared.reading.Port.{Port}
use Rattle.packets.specs.declared.error_quota.Quota.{Quota}
use Rattle.station.specs.Hearing.{answers_from, words_from}
use Rattle.station.specs.Packets.{seens_from}
use Rattle.netbytes.specs.Arriving.{Gives, HandledAs, ShownOpen, after_frame, sent_after, wire_bytes}
use Rattle.netbytes.proofs.Arrived.{frames_arrive}
use Rattle.netbytes.proofs.GreetsAs.{same_links}

-- on a wire without a cost nobody is known
nobody_there : (w : ℕ) (s : Whole) → Joined s → s.links.cost w ≡ 0 → teller w s.links ≡ None
nobody_there w s j c = ap (λ (x : Wire). open_to (who_on x) s.links) (j.sound.silent w c)

-- so what comes changes nothing
dropped_so : (f : Frame) (w : ℕ) (us : List ℕ) (s : Whole) → Joined s → ShownOpen s → s.links.cost w ≡ 0 → s ≡ after_frame w f us s
dropped_so (Greets h) w us s j o c = sym (ap (λ (l : Links). relink_as l s) (kept (ltb w wires)) ∙ same_links s j o)
  where
    kept : (b : Bool) → cond (b && (ltb 0 (s.links.cost w) && eqb (hello_refusal w h s.links) 0)) (greeted w h s.links) s.links ≡ s.links
    kept false = refl
    kept true = ap (λ (z : ℕ). cond (ltb 0 z && eqb (hello_refusal w h s.links) 0) (greeted w h s.links) s.links) c
dropped_so (Tells p) w us s j o c = ap (λ (q : Option ℕ). words_from q p us s) (sym (nobody_there w s j c))
dropped_so (Shows p) w us s j o c = ap (λ (q : Option ℕ). seens_from q p s) (sym (nobody_there w s j c))

-- and nothing is answered
unanswered : (f : Frame) (w : ℕ) (s : Whole) → Joined s → s.links.cost w ≡ 0 → sent_after w f s ≡ []
unanswered (Greets h) w s j c = refl
unanswered (Tells p) w s j c = ap (λ (q : Option ℕ). answers_from q p s) (nobody_there w s j c)
unanswered (Shows p) w s j c = refl

-- a frame came over a wire: what the box is then, what it gave out, and that no packet goes on
pub record HeardAs (w : ℕ) (f : Frame) (us : List ℕ) (s r : Whole) (given : List ℕ) (goes : Option Port) : Type 0 where
  pub whole : r ≡ after_frame w f us s
  pub gives : Gives s (sent_after w f (after_frame w f us s)) given
  pub goes_nowhere : goes ≡ None

pub wire_heard : (f : Frame) (w : ℕ) (us : List ℕ) (s : Whole) (q : Quota) (frame : List ℕ) (after : Node) (given left : List ℕ) (goes : Option Port) → Joined s → ShownOpen s → s.links.n ≤ 64 → FrameFits s.links.n f → length us ≡ 4 → frame ≡ wire_bytes f →
    (s.links.cost w ≡ 0 → HandledBy (untouched [] s q frame) after given left goes) → (0 < s.links.cost w → SumFits frame → HandledBy (by_frame w (frame_in s.links.n (body_of frame)) us s q frame) after given left goes) →
    HeardAs w f us s (whole_of after) given goes
wire_heard f w us s q frame after given left goes j o few k long same dropped read = go (s.links.cost w) refl
  where
    fits : SumFits frame
    fits = subst SumFits (sym same) (frames_arrive f w us s q j o few k long).0

    told : (t : Told) × (frame_in s.links.n (body_of (wire_bytes f)) ≡ Ok t) × HandledAs w f us s q (by_frame w (Ok t) us s q (wire_bytes f))
    told = (frames_arrive f w us s q j o few k long).1

    heard : HandledAs w f us s q (by_frame w (frame_in s.links.n (body_of frame)) us s q frame)
    heard =
        subst (λ z. HandledAs w f us s q (by_frame w (frame_in s.links.n (body_of z)) us s q z)) (sym same)
        (subst (λ z. HandledAs w f us s q (by_frame w z us s q (wire_bytes f))) (sym told.1) told.2)

    go : (c : ℕ) → s.links.cost w ≡ c → HeardAs w f us s (whole_of after) given goes
    go zero e =
        let h = dropped e in
        record {
          whole = h.whole ∙ dropped_so f w us s j o e;
          gives = record { notes = []; is = h.gives ∙ sym (ap (λ (os : List Out). flat_map out_bytes os) (ap (sent_after w f) (sym (dropped_so f w us s j o e)) ∙ unanswered f w s j e)) };
          goes_nowhere = h.port;
        }
    go (suc c) e =
        let h = read (omega arith) fits in
        record { whole = h.whole ∙ heard.whole; gives = record { notes = heard.gives.notes; is = h.gives ∙ heard.gives.is }; goes_nowhere = h.port ∙ heard.goes }
