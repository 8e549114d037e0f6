-- What a refused packet gives, put together.
use Rattle.std.proofs.Common.{◌≡◌, ℕ, Bool, true, false, cond, eqb, List, ◌++◌, Some, Ok, Err, Result, sym, refl, ap, ◌∙◌, append-nil, arith}
use Rattle.linkmodel.specs.Station.{Station as Whole}
use Rattle.outbox.specs.Parcels.{parcel_bytes}
use Rattle.outbox.specs.declared.reading.Port.{Port}
use Rattle.outbox.specs.declared.reading.Port.TheVariants.{House, Wire}
use Rattle.packets.specs.Errands.{errand_of}
use Rattle.packets.specs.declared.values.Errand.{Errand}
use Rattle.packets.specs.declared.values.Errand.TheVariants.{Echo}
use Rattle.packets.specs.declared.values.Refusal.{Refusal as PacketRefusal}
use Rattle.packets.specs.Errors.{error_of, is_error}
use Rattle.packets.specs.Packet.{box_from, echoed}
use Rattle.packets.specs.Quotas.{granted}
use Rattle.packets.specs.declared.error_quota.Quota.{Quota}
use Rattle.packets.specs.declared.values.Trouble.{Trouble}
use Rattle.node.specs.declared.refusals.Refusal.{Refusal}
use Rattle.node.specs.declared.refusals.Refusal.TheVariants.{Unanswered}
use Rattle.node.specs.declared.state.Node.{Node}
use Rattle.node.specs.Handled.{PassedBy}
use Rattle.node.specs.Book.{Refused}
use Rattle.node.specs.Giving.{note_of}
use Rattle.node.specs.Passing.{Answered, Passed, answered_at, back_by, back_to, by_errand, by_grant, echo_by, framed, over_way, packet_in, passed, refused_as, refused_with, sent_to, trouble_of, troubled, way_to}
use Rattle.node.specs.Refusals.{number_of, trouble_for}

at_port : (b : Bool) (w : Result ℕ Refusal) (k : ℕ) (t : Trouble) (s : Whole) (q : Quota) (p : List ℕ) →
    ◌≡◌ {A = Answered} (record { gives = cond b (note_of s (Refused k) ++ parcel_bytes 8 (error_of s.links.me t p)) (back_by w k t s p); errors = q }) (answered_at (cond b (Ok House) (over_way w)) k t s q p)
at_port true w k t s q p = refl
at_port false (Err r) k t s q p = refl
at_port false (Ok w) k t s q p = refl

-- one more error may be made
pub error_made : (k : ℕ) (t : Trouble) (s : Whole) (q left : Quota) (p : List ℕ) (x : Result Port Refusal) → false ≡ is_error p → (left, true) ≡ granted q s.links.tick → x ≡ back_to p s → troubled k t s q p ≡ answered_at x k t s left p
error_made k t s q left p x e g r =
    ap (λ b. cond b (record { gives = note_of s (Refused 10); errors = q }) (by_grant (granted q s.links.tick) k t s p)) (sym e)
    ∙ (ap (λ (y : Quota × Bool). by_grant y k t s p) (sym g)
    ∙ (at_port (eqb (box_from p) s.links.me) (way_to (box_from p) s) k t s left p ∙ ap (λ (y : Result Port Refusal). answered_at y k t s left p) (sym r)))

-- a refusal for which an error is made, by where that goes
pub refused_lem : (r : Refusal) (t : Trouble) (s : Whole) (q left : Quota) (p : List ℕ) (x : Result Port Refusal) → Some t ≡ trouble_for r → ((k : ℕ) (y : Trouble) → troubled k y s q p ≡ answered_at x k y s left p) → refused_as r s q p ≡ answered_at x (number_of r) t s left p
refused_lem r t s q left p x e h = ap (λ o. refused_with o (number_of r) s q p) (sym e) ∙ h (number_of r) t

none_back : (b : Bool) (w : Result ℕ Refusal) (r : Refusal) (s : Whole) (q : Quota) (f sent : List ℕ) → Err r ≡ cond b (Ok House) (over_way w) → cond b (sent_to House sent q) (echo_by w s q f) ≡ trouble_of (refused_as r s q (packet_in f)) f
none_back true w r s q f sent e = let z : ◌≡◌ {A = ℕ} 0 1 = cc in absurd (omega arith)
none_back false (Err x) r s q f sent e = let z : r ≡ Unanswered = cc in ap (λ (y : Refusal). trouble_of (refused_as y s q (packet_in f)) f) (sym z)
none_back false (Ok w) r s q f sent e = let z : ◌≡◌ {A = ℕ} 0 1 = cc in absurd (omega arith)

-- an echo that goes nowhere
pub echo_none : (r : Refusal) (s : Whole) (q : Quota) (f : List ℕ) → Ok Echo ≡ errand_of s.links.n s.links.me (packet_in f) → Err r ≡ back_to (packet_in f) s → passed s q f ≡ trouble_of (refused_as r s q (packet_in f)) f
echo_none r s q f e h =
    ap (λ (x : Result Errand PacketRefusal). by_errand x s q f) (sym e)
    ∙ none_back (eqb (box_from (packet_in f)) s.links.me) (way_to (box_from (packet_in f)) s) r s q f (framed (echoed (packet_in f))) h

some_back : (b : Bool) (w : Result ℕ Refusal) (port : Port) (s : Whole) (q : Quota) (f : List ℕ) → Ok port ≡ cond b (Ok House) (over_way w) → cond b (sent_to House (framed (echoed (packet_in f))) q) (echo_by w s q f) ≡ sent_to port (framed (echoed (packet_in f))) q
some_back true w port s q f e = let z : port ≡ House = cc in ap (λ (y : Port). sent_to y (framed (echoed (packet_in f))) q) (sym z)
some_back false (Err x) port s q f e = let z : ◌≡◌ {A = ℕ} 0 1 = cc in absurd (omega arith)
some_back false (Ok w) port s q f e = let z : port ≡ Wire w = cc in ap (λ (y : Port). sent_to y (framed (echoed (packet_in f))) q) (sym z)

-- an echo that goes back
pub echo_sent : (port : Port) (s : Whole) (q : Quota) (f left : List ℕ) → Ok Echo ≡ errand_of s.links.n s.links.me (packet_in f) → Ok port ≡ back_to (packet_in f) s → left ≡ framed (echoed (packet_in f)) → passed s q f ≡ sent_to port left q
echo_sent port s q f left e h l =
    ap (λ (x : Result Errand PacketRefusal). by_errand x s q f) (sym e)
    ∙ (some_back (eqb (box_from (packet_in f)) s.links.me) (way_to (box_from (packet_in f)) s) port s q f h ∙ ap (λ (y : List ℕ). sent_to port y q) (sym l))

-- a frame that goes out
pub sent_lem : (p : Passed) (port : Port) (left old : List ℕ) (node : Node) → p ≡ sent_to port left node.quota → PassedBy p node node old old left (Some port)
sent_lem p port left old node e =
    record {
      gives = sym (append-nil old) ∙ ap (λ (x : Passed). old ++ x.gives) (sym e);
      errors = ap (λ (x : Passed). x.errors) (sym e);
      stays = refl;
      left = ap (λ (x : Passed). x.frame) (sym e);
      port = ap (λ (x : Passed). x.goes) (sym e);
    }
