-- Bytes that come to a box of a net: those of a frame that was sent take its run on, and those of no frame leave it where it is.
use Rattle.std.proofs.Common.{◌≡◌, ℕ, ◌+◌, ◌^◌, ◌<◌, zero, suc, Bool, true, false, cond, List, [], ◌∷◌, length, Some, None, Ok, Err, Option, Result, sym, refl, ap, ◌∙◌, subst, ap₂, arith, inl, inr}
use Rattle.model.proofs.Tests.{true_not_false}
use Rattle.checksum.specs.Refused.{body_of}
use Rattle.frames.specs.Reading.{Told, a_hello, a_packet, frame_in, some_seen, some_words}
use Rattle.linkmodel.specs.Station.{Frame, Greets, Shows, Tells, Station as Whole}
use Rattle.netmodel.specs.Fits.{FrameFits}
use Rattle.netmodel.specs.Net.{Arrives, Move, Plug, Sent, is_there, net, sent_nth}
use Rattle.model.specs.Flood.{row}
use Rattle.linkmodel.specs.Calls.{Joined}
use Rattle.octets.specs.declared.Fault.{Fault}
use Rattle.packets.specs.declared.error_quota.Quota.{Quota}
use Rattle.node.specs.Hearing.{by_frame}
use Rattle.netbytes.specs.Arriving.{ShownOpen, wire_bytes}
use Rattle.netbytes.specs.Playing.{PlaysAt, Posts}
use Rattle.netbytes.proofs.Comes.{TaggedBy}
use Rattle.netbytes.proofs.Fresh.{four}
use Rattle.netbytes.proofs.Reached.{NewTags, count_of, four_tags, no_tags, plays_arrival, plays_loss, reached}
use Rattle.netbytes.proofs.WireHeard.{HeardAs, wire_heard}
use Rattle.node.specs.State.{whole_of}
use Rattle.node.specs.declared.state.Node.{Node}
use Rattle.outbox.specs.declared.reading.Port.{Port}
use Rattle.ground.specs.Wires.{drawn_of, laid_of, next_number, plug_at, plug_of}
use Rattle.ground.specs.declared.ends.End.{End}
use Rattle.ground.specs.declared.ends.Plug.{Plug as Across}
use Rattle.ground.specs.declared.state.Ground.{Ground}
use Rattle.net.specs.Plays.{DrewFor, GoesOn, Heard, IsNoNews, IsSent, NoNews, Plays, drawn_after, is_words, next_four, tags_drawn, tags_of, whole_at}
use Rattle.net.proofs.Wholes.{over, sent_over, stays_so, was_whole}

-- the next four numbers, while there are four
four_is : (d : ℕ) → d + 4 < 2 ^ 64 → next_four d ≡ four d
four_is d l = go (next_number d) (d + 1) (next_number (next_number d)) (d + 2) (next_number (next_number (next_number d))) (d + 3) (next_number (next_number (next_number (next_number d)))) (d + 4) (omega arith) (omega arith) (omega arith) (omega arith)
  where
    go : (a b c e f g h i : ℕ) → a ≡ b → c ≡ e → f ≡ g → h ≡ i → ◌≡◌ {A = List ℕ} (a ∷ c ∷ f ∷ h ∷ []) (b ∷ e ∷ g ∷ i ∷ [])
    go a b c e f g h i p q r s = cc

last_is : (d : ℕ) → d + 4 < 2 ^ 64 → next_number (next_number (next_number (next_number d))) ≡ d + 4
last_is d l = omega arith

-- the tags of a frame that fits are new, and enough
tags_new : (n : ℕ) (f : Frame) (bytes : List ℕ) (d : ℕ) → bytes ≡ wire_bytes f → d + 4 < 2 ^ 64 → FrameFits n f → NewTags d (drawn_after bytes d) (tags_drawn bytes d) × TaggedBy f (tags_drawn bytes d) (tags_of bytes d)
tags_new n (Greets h) bytes d q l k = (none (ap is_words q), tt)
  where
    none : is_words bytes ≡ false → NewTags d (drawn_after bytes d) (tags_drawn bytes d)
    none e = subst (λ (b : Bool). NewTags d (cond b (next_number (next_number (next_number (next_number d)))) d) (cond b (next_four d) [])) (sym e) (no_tags d d (omega arith))
tags_new n (Tells p) bytes d q l k = go (is_words bytes) (ap is_words q)
  where
    go : (b : Bool) → b ≡ true → NewTags d (cond b (next_number (next_number (next_number (next_number d)))) d) (cond b (next_four d) []) × TaggedBy (Tells p) (cond b (next_four d) []) (cond b (next_four d) (0 ∷ 0 ∷ 0 ∷ 0 ∷ []))
    go true e = (
      subst (λ (c : ℕ). NewTags d c (next_four d)) (sym (last_is d l)) (subst (λ (ts : List ℕ). NewTags d (d + 4) ts) (sym (four_is d l)) (four_tags d l)),
      (refl, k.1.1),
    )
    go false e = true_not_false false e refl
tags_new n (Shows p) bytes d q l k = (none (ap is_words q), tt)
  where
    none : is_words bytes ≡ false → NewTags d (drawn_after bytes d) (tags_drawn bytes d)
    none e = subst (λ (b : Bool). NewTags d (cond b (next_number (next_number (next_number (next_number d)))) d) (cond b (next_four d) [])) (sym e) (no_tags d d (omega arith))

tags_long : (bytes : List ℕ) (d : ℕ) → length (tags_of bytes d) ≡ 4
tags_long bytes d = go (is_words bytes)
  where
    go : (b : Bool) → length (cond b (next_four d) (0 ∷ 0 ∷ 0 ∷ 0 ∷ [])) ≡ 4
    go true = refl
    go false = refl

-- the wire of a frame that was sent is there just where that of its bytes is
same_there : (f : Sent) (from : End) (plug : Across) (bytes : List ℕ) (g : Ground) → IsSent f from plug bytes → is_there (plug_at g f.by f.on) f.over ≡ is_there (plug_at g from.at from.wire) (plug_of plug)
same_there f from plug bytes g s = ap₂ (λ (a w : ℕ). is_there (plug_at g a w) f.over) s.by s.on ∙ ap (λ (p : Plug). is_there (plug_at g from.at from.wire) p) s.across

-- they come where there is no such wire, or no such box
pub lost_so : (boxes : List Node) (g : Ground) (from : End) (plug : Across) (bytes ts given : List ℕ) → (is_there (plug_at g from.at from.wire) (plug_of plug) ≡ true → plug.end.at < length boxes → ⊥) → given ≡ [] →
    (first : ℕ → ℕ) (ms : List Move) (k : ℕ) (f : Sent) → Plays first ms boxes g → sent_nth k (net (length boxes) first ms).sent ≡ Some f → IsSent f from plug bytes → (a : ℕ) → GoesOn first (Arrives k ts) ms a boxes g given
lost_so boxes g from plug bytes ts given away none first ms k f p nth s a = go (is_there (plug_at g f.by f.on) f.over) refl
  where
    go : (b : Bool) → is_there (plug_at g f.by f.on) f.over ≡ b → GoesOn first (Arrives k ts) ms a boxes g given
    go true e =
        absurd (away (sym (same_there f from plug bytes g s) ∙ e) (subst (λ (q : Plug). q.at < length boxes) s.across (reached (length boxes) first ms (whole_at boxes) (plug_at g) (laid_of g) (drawn_of g) k f p nth e).box))
    go false e =
        let o = plays_loss (length boxes) first ms (whole_at boxes) (plug_at g) (laid_of g) (drawn_of g) k a f ts p nth e in
        (o.0, subst (λ (z : List ℕ). Posts (length boxes) first (Arrives k ts) ms a z) (sym none) o.1)

-- they come to a box over a wire that is there
pub arrives_so : (old new : List Node) (g h : Ground) (from : End) (plug : Across) (bytes left given : List ℕ) (goes : Option Port) → Heard plug.end.at plug.end.wire (tags_of bytes (drawn_of g)) old new given bytes left goes → DrewFor bytes g h →
    is_there (plug_at g from.at from.wire) (plug_of plug) ≡ true →
    (first : ℕ → ℕ) (ms : List Move) (k : ℕ) (f : Sent) → Plays first ms old g → sent_nth k (net (length old) first ms).sent ≡ Some f → IsSent f from plug bytes → drawn_of g + 4 < 2 ^ 64 →
    GoesOn first (Arrives k (tags_drawn bytes (drawn_of g))) ms plug.end.at new h given × (goes ≡ None)
arrives_so old new g h from plug bytes left given goes t w there first ms k f p nth s few =
    let n = length old in
    let d = drawn_of g in
    let us = tags_of bytes d in
    let ts = tags_drawn bytes d in
    let e : is_there (plug_at g f.by f.on) f.over ≡ true = same_there f from plug bytes g s ∙ there in
    let r = reached n first ms (whole_at old) (plug_at g) (laid_of g) d k f p nth e in
    let ea : f.over.at ≡ plug.end.at = ap (λ (q : Plug). q.at) s.across in
    let ew : f.over.on ≡ plug.end.wire = ap (λ (q : Plug). q.on) s.across in
    let la : plug.end.at < n = subst (λ (a : ℕ). a < n) ea r.box in
    let same : whole_of t.before ≡ whole_at old f.over.at = was_whole plug.end.at old new t.before t.after la t.becomes ∙ ap (whole_at old) (sym ea) in
    let count : (whole_of t.before).links.n ≡ n = ap (λ (x : Whole). x.links.n) same ∙ r.count in
    let heard =
    wire_heard f.frame plug.end.wire us (whole_of t.before) t.before.quota bytes t.after given left goes (subst Joined (sym same) r.joined) (subst ShownOpen (sym same) r.shown) (omega (arith, count, r.few))
    (subst (λ (m : ℕ). FrameFits m f.frame) (sym count) r.fits) (tags_long bytes d) s.is t.dropped t.read in
    let as_sent : HeardAs f.over.on f.frame us (whole_at old f.over.at) (whole_of t.after) given goes =
    subst (λ (v : ℕ). HeardAs v f.frame us (whole_at old f.over.at) (whole_of t.after) given goes) (sym ew) (subst (λ (x : Whole). HeardAs plug.end.wire f.frame us x (whole_of t.after) given goes) same heard) in
    let new_tags = tags_new n f.frame bytes d s.is few r.fits in
    let o = plays_arrival n first ms (whole_at old) (plug_at g) (laid_of g) d (drawn_after bytes d) k f ts us (whole_of t.after) given goes p nth e r.box new_tags.0 new_tags.1 as_sent in (
      (
        over first (Arrives k ts ∷ ms) plug.end.at old new g h t.before t.after (drawn_after bytes d) la t.becomes w.stays w.drawn
            (subst (λ (a : ℕ). PlaysAt n first (Arrives k ts ∷ ms) (row a (whole_of t.after) (whole_at old)) (plug_at g) (laid_of g) (drawn_after bytes d)) ea o.0),
        sent_over first (Arrives k ts) ms plug.end.at plug.end.at old new t.before t.after given t.becomes (subst (λ (a : ℕ). Posts n first (Arrives k ts) ms a given) ea o.1),
      ),
      heard.goes_nowhere,
    )

-- what is read as no frame of boxes leaves the box as it stands
read_kept : (w : ℕ) (r : Result Told Fault) (us : List ℕ) (s : Whole) (q : Quota) (bytes : List ℕ) → IsNoNews r → (by_frame w r us s q bytes).whole ≡ s
read_kept w (Err e) us s q bytes k = refl
read_kept w (Ok (a_packet p)) us s q bytes k = refl
read_kept w (Ok (a_hello h)) us s q bytes k = absurd k
read_kept w (Ok (some_words p)) us s q bytes k = absurd k
read_kept w (Ok (some_seen p)) us s q bytes k = absurd k

heard_kept : (a w : ℕ) (us : List ℕ) (old new : List Node) (given bytes left : List ℕ) (goes : Option Port) (t : Heard a w us old new given bytes left goes) → NoNews (whole_of t.before).links.n bytes → whole_of t.after ≡ whole_of t.before
heard_kept a w us old new given bytes left goes t k = go ((whole_of t.before).links.cost w) refl
  where
    -- by what the wire costs
    go : (c : ℕ) → (whole_of t.before).links.cost w ≡ c → whole_of t.after ≡ whole_of t.before
    go zero e = (t.dropped e).whole
    go (suc c) e = elim k [
      | inl unfit ↦ (t.unfit (omega (arith, e)) unfit).whole
      | inr fits ↦ (t.read (omega (arith, e)) fits.0).whole ∙ read_kept w (frame_in (whole_of t.before).links.n (body_of bytes)) us (whole_of t.before) t.before.quota bytes fits.1
    ]

-- and the run where it is
pub no_news_so : (old new : List Node) (g h : Ground) (a w : ℕ) (us bytes left given : List ℕ) (goes : Option Port) → Heard a w us old new given bytes left goes → a < length old → DrewFor bytes g h →
    (first : ℕ → ℕ) (ms : List Move) → Plays first ms old g → NoNews (length old) bytes → Plays first ms new h
no_news_so old new g h a w us bytes left given goes t la d first ms p k =
    let same = was_whole a old new t.before t.after la t.becomes in
    let count : length old ≡ (whole_of t.before).links.n = sym (ap (λ (x : Whole). x.links.n) same ∙ count_of (length old) first ms (whole_at old) (plug_at g) (laid_of g) (drawn_of g) a p la) in
    stays_so first ms a old new g h t.before t.after la t.becomes (heard_kept a w us old new given bytes left goes t (subst (λ (n : ℕ). NoNews n bytes) count k)) d.stays d.rises p
