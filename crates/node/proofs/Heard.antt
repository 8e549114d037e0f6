-- What came over a wire, put together.
use Rattle.std.proofs.Common.{◌≡◌, ℕ, zero, suc, ◌≤◌, List, [], ◌++◌, length, get_or, take, Some, None, Ok, Option, Result, sym, refl, ap, ◌∙◌, subst, ap₂, append_assoc, arith, length-append}
use Rattle.std.specs.List.{flat_map}
use Rattle.octets.specs.declared.Fault.{Fault}
use Rattle.checksum.specs.Crc.{SumFits, sum_bytes}
use Rattle.messages.specs.declared.values.Word.{Word}
use Rattle.router.specs.declared.answers.Outcome.{Outcome}
use Rattle.linkmodel.specs.Station.{Bundle, Out, Station as Whole}
use Rattle.outbox.specs.Parcels.{contents}
use Rattle.outbox.specs.declared.reading.Port.{Port}
use Rattle.outbox.specs.declared.state.Outbox.{Outbox}
use Rattle.packets.specs.declared.error_quota.Quota.{Quota}
use Rattle.frames.specs.Reading.{Told, frame_in}
use Rattle.station.specs.Events.{Did}
use Rattle.station.specs.Hearing.{answers_from}
use Rattle.station.specs.State.{station_of}
use Rattle.station.specs.Ticking.{item_of, no_word}
use Rattle.station.specs.declared.answers.Refusal.{Refusal as Reason}
use Rattle.station.specs.declared.state.Station.{Station}
use Rattle.node.specs.declared.refusals.Refusal.{Refusal}
use Rattle.node.specs.declared.state.Node.{Node}
use Rattle.node.specs.Giving.{note_of}
use Rattle.node.specs.Handled.{HandledBy, PassedBy, RefusedAs}
use Rattle.node.specs.Hearing.{FrameDid, Handled, by_frame, note_for, notes_for, passed_as, refused_by, unless_refused}
use Rattle.node.specs.Passing.{Passed}
use Rattle.node.specs.Refusals.{number_of}
use Rattle.node.specs.State.{whole_of}
use Rattle.node.specs.Wires.{out_bytes}

-- lines by the same outcomes
notes_same : (os us : List (Option Outcome)) (xs : List Word) (ts : List ℕ) (s : Whole) → ((j : ℕ) → get_or os j None ≡ get_or us j None) → (k : ℕ) → notes_for os xs ts s k ≡ notes_for us xs ts s k
unfolding notes_for
notes_same os us xs ts s e zero = refl
notes_same os us xs ts s e (suc k) = ap₂ (λ a b. a ++ note_for b (item_of (get_or xs k no_word)) (get_or ts k 0) s) (notes_same os us xs ts s e k) (e k)

pub words_given : (a noted told : List ℕ) (os us : List (Option Outcome)) (xs : List Word) (ts : List ℕ) (s r q : Whole) (k : ℕ) (outs : List Out) (e : Option ℕ) (p : Bundle) →
    noted ≡ a ++ flat_map (note_of s) (notes_for os xs ts s k) → told ≡ noted ++ flat_map out_bytes outs → ((j : ℕ) → get_or os j None ≡ get_or us j None) → outs ≡ answers_from e p r → r ≡ q →
    told ≡ a ++ (flat_map (note_of s) (notes_for us xs ts s k) ++ flat_map out_bytes (answers_from e p q))
words_given a noted told os us xs ts s r q k outs e p n t same out is =
    t
    ∙ (ap (λ z. z ++ flat_map out_bytes outs) n
    ∙ (append_assoc a (flat_map (note_of s) (notes_for os xs ts s k)) (flat_map out_bytes outs)
    ∙ ap₂ (λ x y. a ++ (flat_map (note_of s) x ++ flat_map out_bytes y)) (notes_same os us xs ts s same k) (out ∙ ap (λ (z : Whole). answers_from e p z) is)))

-- a frame with a sum has room for it
pub fits_long : (f : List ℕ) → SumFits f → 4 ≤ length f
unfolding sum_bytes
fits_long f h = omega (arith, ap length h.1, length-append h.0 (sum_bytes h.0))

-- nothing is in an outbox that was cleared
pub empty_lem : (o : Outbox) → o.used ≡ 0 → contents o ≡ []
empty_lem o e = ap (λ k. take k o.bytes) e

-- what a frame was read as, by a number of boxes that is the box's
pub read_lem : {n m : ℕ} {x : Result Told Fault} (bytes : List ℕ) → n ≡ m → frame_in n bytes ≡ x → frame_in m bytes ≡ x
read_lem bytes e h = ap (λ k. frame_in k bytes) (sym e) ∙ h

-- a frame that isn't refused
pub heard_lem : (w : ℕ) (ts : List ℕ) (s : Whole) (q : Quota) (f new : List ℕ) (x : Result Told Fault) (t : Told) (o : Option Reason) (h : Handled) (after : Node) →
    x ≡ Ok t → by_frame w (Ok t) ts s q f ≡ unless_refused o h s q f → o ≡ None → HandledBy h after new f None → HandledBy (by_frame w x ts s q f) after new f None
heard_lem w ts s q f new x t o h after e b n k =
    subst (λ y. HandledBy (by_frame w y ts s q f) after new f None) (sym e)
    (subst (λ y. HandledBy y after new f None) (sym b) (subst (λ y. HandledBy (unless_refused y h s q f) after new f None) (sym n) k))

-- and one that is
refused_same : (o : Option Reason) (r : Refusal) (h : Handled) (s : Whole) (q : Quota) (f : List ℕ) → RefusedAs o r → unless_refused o h s q f ≡ refused_by (number_of r) s q f
refused_same None r h s q f a = absurd a
refused_same (Some e) r h s q f a = ap (λ k. refused_by k s q f) (sym a)

pub not_heard : (w : ℕ) (ts : List ℕ) (s : Whole) (q : Quota) (f : List ℕ) (x : Result Told Fault) (t : Told) (o : Option Reason) (h : Handled) (r : Refusal) →
    x ≡ Ok t → by_frame w (Ok t) ts s q f ≡ unless_refused o h s q f → RefusedAs o r → by_frame w x ts s q f ≡ refused_by (number_of r) s q f
not_heard w ts s q f x t o h r e b a = ap (λ y. by_frame w y ts s q f) e ∙ (b ∙ refused_same o r h s q f a)

pub no_reason : (o : Option Reason) (r : Refusal) → RefusedAs o r → o ≡ None → ⊥
no_reason None r a e = a
no_reason (Some x) r a e = cc

pub passed_by_lem : (p : Passed) (before after : Node) (old new frame : List ℕ) (goes : Option Port) → old ≡ [] → PassedBy p before after old new frame goes → HandledBy (passed_as p (whole_of before)) after new frame goes
passed_by_lem p before after old new frame goes e h =
    record { whole = ap (λ (x : Station). station_of x) h.stays; gives = h.gives ∙ ap (λ z. z ++ p.gives) e; errors = h.errors; left = h.left; port = h.port }

-- what was read is one thing only
pub did_reading : (w : ℕ) (x : Result Told Fault) (t u : Told) (ts : List ℕ) (s r : Whole) → x ≡ Ok t → x ≡ Ok u → FrameDid w t ts s r → FrameDid w u ts s r
did_reading w x t u ts s r et eu d = subst (λ y. FrameDid w y ts s r) (ok_same t u (sym et ∙ eu)) d
  where
    ok_same : (a b : Told) → ◌≡◌ {A = Result Told Fault} (Ok a) (Ok b) → a ≡ b
    ok_same a b e = cc

-- a box that stays as it was does nothing
pub still : (s r : Whole) → s ≡ r → Did s [] r
still s r e = subst (λ x. Did s [] x) e (λ es h. h)
