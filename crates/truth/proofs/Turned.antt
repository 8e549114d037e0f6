-- The journal after a box was switched on, got other settings, fell or ticked.
use Rattle.std.proofs.Common.{◌≡◌, ℕ, suc, ◌^◌, ◌<◌, ◌≤◌, Bool, true, false, cond, List, [], ◌++◌, length, Some, None, Ok, Err, Option, Result, sym, refl, ap, ◌∙◌, subst, arith, length-append, length-take, ltb-true}
use Rattle.std.specs.List.{flat_map}
use Rattle.octets.specs.declared.Fault.{Fault}
use Rattle.octets.specs.Faults.{fault_number}
use Rattle.node.specs.Hearing.{unread}
use Rattle.messages.specs.Values.{at}
use Rattle.messages.specs.declared.values.Settings.{Settings}
use Rattle.model.specs.Box.{must_say, own_word, says_now}
use Rattle.model.specs.Words.{Entry, unsaid}
use Rattle.linkmodel.specs.Calls.{Joined, expired}
use Rattle.linkmodel.specs.Links.{passes}
use Rattle.linkmodel.specs.Station.{Station as Whole, falls, has_costs, can_say, station, tick_out, ticks}
use Rattle.linkmodel.proofs.Bools.{and_right}
use Rattle.linkmodel.proofs.Wires.{row_at}
use Rattle.journal.specs.Replay.{replay, replayed, whole}
use Rattle.station.specs.State.{begin_refusal, falls_refusal, refusal_number, rewire_refusal}
use Rattle.station.specs.Ticking.{says_word, ticking_refusal}
use Rattle.station.specs.declared.answers.Refusal.{Refusal as Reason}
use Rattle.station.specs.declared.answers.Refusal.TheVariants.{CountSpent, NoRoad, OtherBox, OutOfRange}
use Rattle.octets.specs.declared.Fault.TheVariants.{Form, Range, Count}
use Rattle.station.proofs.Had.{joined_had}
use Rattle.node.specs.State.{whole_of}
use Rattle.node.specs.declared.refusals.Refusal.{Refusal}
use Rattle.node.specs.declared.state.Node.{Node}
use Rattle.node.specs.Book.{Began, Said, line_bytes}
use Rattle.node.specs.Giving.{if_refused, note_of, own_item, refused_gives, tick_all_gives, tick_gives, tick_leaves}
use Rattle.node.specs.Turns.{BegunBy, began_gives, begun_by, fall_gives, fall_leaves, settings_give, settings_leave}
use Rattle.node.specs.Wires.{out_bytes}
use Rattle.outbox.specs.Parcels.{contents}
use Rattle.outbox.specs.declared.state.Outbox.{Outbox}
use Rattle.truth.specs.Book.{book_in}
use Rattle.truth.specs.Truth.{Begins, Keeps, Tells, known_in}
use Rattle.truth.proofs.Booked.{Booked, booked_all, booked_none, booked_outs}
use Rattle.truth.proofs.Lines.{Readable, booked_note, just_note, just_refused, line_kept, note_kept, nothing_kept, after_note, with_item}
use Rattle.truth.proofs.Outs.{over_tick}
use Rattle.truth.proofs.Owns.{own_readable}

pub reason_low : (r : Reason) → refusal_number r < 2 ^ 8
reason_low OutOfRange = omega arith
reason_low NoRoad = omega arith
reason_low OtherBox = omega arith
reason_low CountSpent = omega arith

pub fault_low : (e : Fault) → fault_number e < 2 ^ 8
fault_low Form = omega arith
fault_low Range = omega arith
fault_low Count = omega arith

-- and so is that of a frame that is read as one
pub unread_low : (e : Fault) (from : Option ℕ) → unread e from < 2 ^ 8
unread_low Form from = fault_low Form
unread_low Range from = fault_low Range
unread_low Count (Some e) = fault_low Count
unread_low Count None = omega arith

-- a box that was just switched on has no word, and didn't tick
abbrev Blank : Whole → Type 0
Blank r = (r.box.word ≡ (λ i. unsaid)) × (r.links.tick ≡ 0)

blank : (o p : Option Reason) (c : ℕ → ℕ) (n me d : ℕ) (r : Whole) → if_refused o (λ e. Err (refusal_number e)) (if_refused p (λ e. Err (refusal_number e)) (Ok (has_costs c (station n me d)))) ≡ Ok r → Blank r
blank None None c n me d r e = let z : has_costs c (station n me d) ≡ r = cc in subst Blank z (refl, refl)
blank None (Some p) c n me d r e = absurd cc
blank (Some o) p c n me d r e = absurd cc

begun_blank : (x : Result Settings Fault) (d : ℕ) (r : Whole) → begun_by x d ≡ Ok r → Blank r
begun_blank (Err f) d r e = absurd cc
begun_blank (Ok x) d r e = blank (begin_refusal x.boxes x.me d) (rewire_refusal x (station x.boxes x.me d)) (at x.costs) x.boxes x.me d r e

known_begun : (r : Whole) (n me : ℕ) → n ≡ r.box.n → me ≡ r.box.me → r.box.word ≡ (λ i. unsaid) → record { n = n; me = me; word = λ i. unsaid } ≡ known_in r
known_begun r n me a b w = rw (a, b) (ap (λ (f : ℕ → Entry). record { n = r.box.n; me = r.box.me; word = f }) (sym w))

begun_kept : (r : Whole) → Joined r → r.links.n ≤ 64 → r.links.me < r.links.n → Blank r → Tells (book_in (began_gives r)) r
unfolding replayed
begun_kept r j few me b until l =
    ap (replay until) (booked_all (began_gives r) (line_bytes r.links.tick (Began r.links.n r.links.me)) (booked_note 0 r.links.tick (Began r.links.n r.links.me) (omega arith, few, me)))
    ∙ (line_kept until [] (record { n = 0; me = 0; word = λ i. unsaid }) r.links.tick (Began r.links.n r.links.me) (omega (arith, b.1)) (omega arith, few, me) (omega (arith, b.1)) refl
    ∙ ap whole (known_begun r r.links.n r.links.me j.count j.number b.0))

pub begins_so : (x : Result Settings Fault) (d : ℕ) (result : Result Node Refusal) (given : List ℕ) → BegunBy (begun_by x d) result given → Begins result given
begins_so x d result given h = go (begun_by x d) refl result h
  where
    go : (b : Result Whole ℕ) → begun_by x d ≡ b → (r : Result Node Refusal) → BegunBy b r given → Begins r given
    go (Ok s) e (Ok node) h =
        let n = node.station.links in
        let b : Blank s = begun_blank x d s e in
        subst (λ z. Tells (book_in z) (whole_of node)) (sym (h.2 ∙ ap began_gives (sym h.0)))
        (begun_kept (whole_of node) (joined_had (whole_of node) node.station.joined) n.few n.inside (subst Blank (sym h.0) b))
    go (Ok s) e (Err r) h = absurd h
    go (Err k) e (Ok node) h = absurd h
    go (Err k) e (Err r) h = h.1

pub settings_kept : (x : Result Settings Fault) (s r : Whole) (given : List ℕ) → r ≡ settings_leave x s → given ≡ settings_give x s → s.links.tick < 2 ^ 32 → Keeps s r given
settings_kept (Err e) s r given l g low = subst (λ z. Keeps s z given) (sym l) (subst (λ z. Keeps s s z) (sym g) (just_refused s (fault_number e) low (fault_low e)))
settings_kept (Ok x) s r given l g low = go (rewire_refusal x s) l g
  where
    go : (o : Option Reason) → r ≡ if_refused o (λ e. s) (has_costs (at x.costs) s) → given ≡ if_refused o (refused_gives s) [] → Keeps s r given
    go None l g = subst (λ z. Keeps s z given) (sym l) (subst (λ z. Keeps s (has_costs (at x.costs) s) z) (sym g) (nothing_kept s (has_costs (at x.costs) s) [] (omega arith) low booked_none refl))
    go (Some e) l g = subst (λ z. Keeps s z given) (sym l) (subst (λ z. Keeps s s z) (sym g) (just_refused s (refusal_number e) low (reason_low e)))

pub fall_kept : (d : ℕ) (s r : Whole) (given : List ℕ) → r ≡ fall_leaves d s → given ≡ fall_gives d s → Joined s → s.links.n ≤ 64 → s.links.me < s.links.n → s.links.tick < 2 ^ 32 → Keeps s r given
fall_kept d s r given l g j few me low = go (falls_refusal d) l g
  where
    go : (o : Option Reason) → r ≡ if_refused o (λ e. s) (falls d s) → given ≡ if_refused o (refused_gives s) (began_gives (falls d s)) → Keeps s r given
    go None l g =
        subst (λ z. Keeps s z given) (sym l)
        (subst (λ z. Keeps s (falls d s) z) (sym g)
        (just_note s (falls d s) (Began s.links.n s.links.me) (omega arith) low (omega arith, few, me) (known_begun (falls d s) s.links.n s.links.me j.count j.number refl)))
    go (Some e) l g = subst (λ z. Keeps s z given) (sym l) (subst (λ z. Keeps s s z) (sym g) (just_refused s (refusal_number e) low (reason_low e)))

-- the box after a tick at which it said a word
abbrev spoken : ℕ → Whole → Whole
spoken t s = record { links = passes s.links; box = says_now t (expired s) }

spoken_kept : (s r : Whole) (t : ℕ) (more : List ℕ) → r ≡ spoken t s → Joined r → r.box.n ≤ 64 → ((e : ℕ) → r.box.cost e < 2 ^ 16) → r.box.me < r.box.n → r.links.tick < 2 ^ 32 → t < 2 ^ 64 →
    suc (s.box.word s.box.me).number < 2 ^ 63 → Booked more [] → Keeps s r (note_of r (Said (own_item r)) ++ more)
spoken_kept s r t more e j few fits me low tag count b =
    note_kept s r (Said (own_item r)) more (omega (arith, ap (λ (x : Whole). x.links.tick) e)) low readable b known
  where
    said : r.box.word r.box.me ≡ record { number = suc (s.box.word s.box.me).number; tag = t; road = r.box.cost }
    said = subst (λ (x : Whole). x.box.word x.box.me ≡ record { number = suc (s.box.word s.box.me).number; tag = t; road = x.box.cost }) (sym e)
        (row_at s.box.me (own_word (s.box.word s.box.me).number t (expired s)) s.box.word)

    readable : Readable s.box.n (own_item r)
    readable =
        subst (λ (k : ℕ). Readable k (own_item r)) (ap (λ (x : Whole). x.box.n) e)
        (subst (λ (x : Entry). Readable r.box.n (record { about = r.box.me; entry = x })) (sym said)
        (own_readable r (suc (s.box.word s.box.me).number) t j few fits me (omega arith) count tag))

    known : after_note (Said (own_item r)) (known_in s) ≡ known_in r
    known =
        subst (λ (x : Whole). after_note (Said (own_item x)) (known_in s) ≡ known_in x) (sym e)
        (ap (λ (y : Entry). with_item (record { about = s.box.me; entry = y }) (known_in s)) (row_at s.box.me (own_word (s.box.word s.box.me).number t (expired s)) s.box.word))

pub tick_kept : (s r : Whole) (t : ℕ) (given : List ℕ) → r ≡ tick_leaves t s → given ≡ tick_all_gives t s → Joined r → r.box.n ≤ 64 → ((e : ℕ) → r.box.cost e < 2 ^ 16) → r.box.me < r.box.n →
    s.links.tick < 2 ^ 32 → r.links.tick < 2 ^ 32 → t < 2 ^ 64 → length given ≤ 2 ^ 16 → Keeps s r given
tick_kept s r t given l g j few fits me old low tag size = go (ticking_refusal s) l g
  where
    outs : List ℕ
    outs = flat_map out_bytes (tick_out r)

    said : (b : Bool) → says_word (expired s) ≡ b → r ≡ record { links = passes s.links; box = cond b (says_now t (expired s)) (expired s) } → given ≡ tick_gives b r → Keeps s r given
    said true e l g =
        subst (λ z. Keeps s r z) (sym g)
        (spoken_kept s r t outs l j few fits me low tag (ltb-true (suc (s.box.word s.box.me).number) (2 ^ 63) (and_right (must_say (expired s)) (can_say (s.box.word s.box.me).number) e))
        (booked_outs (tick_out r) (over_tick r) (omega (arith, size, ap length g, length-append (note_of r (Said (own_item r))) outs))))
    said false e l g =
        subst (λ z. Keeps s r z) (sym g)
        (nothing_kept s r outs (omega (arith, ap (λ (x : Whole). x.links.tick) l)) low (booked_outs (tick_out r) (over_tick r) (omega (arith, size, ap length g))) (subst (λ (x : Whole). known_in s ≡ known_in x) (sym l) refl))

    go : (o : Option Reason) → r ≡ if_refused o (λ e. s) (ticks t s) → given ≡ if_refused o (refused_gives s) (tick_gives (says_word (expired s)) (ticks t s)) → Keeps s r given
    go None l g = said (says_word (expired s)) refl l (g ∙ ap (λ (x : Whole). tick_gives (says_word (expired s)) x) (sym l))
    go (Some e) l g = subst (λ z. Keeps s z given) (sym l) (subst (λ z. Keeps s s z) (sym g) (just_refused s (refusal_number e) old (reason_low e)))

-- no more is in an outbox than it has room for
pub contents_short : (o : Outbox) → length (contents o) ≤ 2 ^ 16
contents_short o = omega (arith, length-take o.used o.bytes, o.within)
