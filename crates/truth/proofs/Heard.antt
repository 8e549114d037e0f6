-- The journal after a frame.
use Rattle.std.proofs.Common.{◌≡◌, ℕ, zero, suc, ◌-◌, ◌^◌, ◌<◌, ◌≤◌, Bool, true, false, cond, eqb, ◌⊎◌, inl, inr, List, [], ◌∷◌, ◌++◌, length, get_or, take, drop, Some, None, Ok, Err, Option, Result, sym, refl, ap, subst, ap₂, arith, length-append, eqb-true}
use borrow.Author.Tests.{eqb-false}
use Rattle.std.specs.List.{flat_map}
use Rattle.octets.specs.declared.Fault.{Fault}
use Rattle.octets.specs.Writes.{Bytes}
use Rattle.checksum.specs.Crc.{SumFits, sum_bytes}
use Rattle.checksum.specs.Refused.{body_of}
use Rattle.checksum.proofs.Sum.{fits_from, fits_to}
use Rattle.messages.specs.Packets.{Words}
use Rattle.wordframes.specs.Ranges.{WordsInRange}
use Rattle.frames.specs.Ranges.{InRange}
use Rattle.frames.specs.Reading.{Told, a_hello, a_packet, frame_in, some_seen, some_words}
use Rattle.frames.proofs.Whole.{frame_only}
use Rattle.hello.specs.State.{greeting_of}
use Rattle.model.specs.Box.{Box, sees}
use Rattle.model.proofs.Tests.{of_cond}
use Rattle.linkmodel.specs.Hellos.{accepts}
use Rattle.linkmodel.specs.Links.{Hello, Links, greeted}
use Rattle.linkmodel.specs.Calls.{Joined}
use Rattle.linkmodel.specs.Station.{Seens as Sights, Sight, Station as Whole, heard_hello, sees_all, teller}
use Rattle.outbox.specs.declared.reading.Port.{Port}
use Rattle.packets.specs.declared.error_quota.Quota.{Quota}
use Rattle.station.specs.Hearing.{answers_from, outcomes_from, words_from, words_refusal}
use Rattle.station.specs.Packets.{seens_from, seens_of, seens_refusal}
use Rattle.station.specs.State.{hello_refusal, refusal_number}
use Rattle.station.specs.Ticking.{bundle_of}
use Rattle.station.specs.declared.answers.Refusal.{Refusal as Reason}
use Rattle.node.specs.Book.{Note}
use Rattle.node.specs.Giving.{note_of}
use Rattle.node.specs.Handled.{HandledBy}
use Rattle.node.specs.Hearing.{Handled, by_frame, handled, notes_for, refused_by, unless_refused, unread, untouched, words_give, words_leave}
use Rattle.node.specs.State.{whole_of}
use Rattle.node.specs.Wires.{out_bytes}
use Rattle.node.specs.declared.state.Node.{Node}
use Rattle.truth.specs.Truth.{Keeps, known_in}
use Rattle.truth.proofs.Booked.{booked_none, booked_outs}
use Rattle.truth.proofs.Lines.{just_refused, nothing_kept, notes_kept}
use Rattle.truth.proofs.Outs.{over_answers}
use Rattle.truth.proofs.Passes.{none_kept, passed_kept}
use Rattle.truth.proofs.Turned.{unread_low, reason_low}
use Rattle.truth.proofs.Worded.{all_words, known_by, notes_none}

-- two lists are the same or not
same_or_not : (xs ys : List ℕ) → (xs ≡ ys) ⊎ (xs ≡ ys → ⊥)
same_or_not [] [] = inl refl
same_or_not [] (y ∷ ys) = inr (λ e. omega (arith, ap length e))
same_or_not (x ∷ xs) [] = inr (λ e. omega (arith, ap length e))
same_or_not (x ∷ xs) (y ∷ ys) = go (eqb x y) refl (same_or_not xs ys)
  where
    go : (b : Bool) → eqb x y ≡ b → (xs ≡ ys) ⊎ (xs ≡ ys → ⊥) → (x ∷ xs ≡ y ∷ ys) ⊎ (x ∷ xs ≡ y ∷ ys → ⊥)
    go true e (inl s) = inl (ap₂ (λ a b. a ∷ b) (eqb-true x y e) s)
    go true e (inr n) = inr (λ z. n (ap (drop 1) z))
    go false e s = inr (λ z. eqb-false x y e (ap (λ l. get_or l 0 0) z))

-- a sum fits or not
fits_or_not : (f : List ℕ) → SumFits f ⊎ (SumFits f → ⊥)
fits_or_not f = go (same_or_not (drop (length f - 4) f) (sum_bytes (body_of f)))
  where
    go : (drop (length f - 4) f ≡ sum_bytes (body_of f)) ⊎ (drop (length f - 4) f ≡ sum_bytes (body_of f) → ⊥) → SumFits f ⊎ (SumFits f → ⊥)
    go (inl e) = inl (fits_from f e)
    go (inr n) = inr (λ h. n (fits_to f h))

bytes_take : (k : ℕ) (xs : List ℕ) → ((i : ℕ) → get_or xs i 0 < 2 ^ 8) → Bytes (take k xs)
bytes_take zero xs h = tt
bytes_take (suc k) [] h = tt
bytes_take (suc k) (x ∷ xs) h = (h 0, bytes_take k xs (λ i. h (suc i)))

sees_known : (e : ℕ) (xs : List Sight) (b : Box) → known_by b ≡ known_by (sees_all e xs b)
unfolding sees_all
sees_known e [] b = refl
sees_known e (x ∷ xs) b = sees_known e xs (sees e x.about x.number x.tag b)

-- no tick passes
hello_ticks : (w : ℕ) (h : Hello) (s : Whole) → (heard_hello w h s).links.tick ≡ s.links.tick
hello_ticks w h s = of_cond (λ (x : Links). x.tick ≡ s.links.tick) (accepts w h s.links) (greeted w h s.links) s.links (λ _. refl) (λ _. refl)

seens_ticks : (from : Option ℕ) (p : Sights) (s : Whole) → (seens_from from p s).links.tick ≡ s.links.tick
seens_ticks None p s = refl
seens_ticks (Some e) p s = refl

seens_known : (from : Option ℕ) (p : Sights) (s : Whole) → known_in s ≡ known_in (seens_from from p s)
seens_known None p s = refl
seens_known (Some e) p s = go (eqb p.drawn (s.links.last e))
  where
    go : (b : Bool) → known_by s.box ≡ known_by (cond b (sees_all e p.items s.box) s.box)
    go true = sees_known e p.items s.box
    go false = refl

module _ (s : Whole) (low : s.links.tick < 2 ^ 32) where
  unless_kept : (o : Option Reason) (h : Handled) (q : Quota) (f : List ℕ) → (length h.gives ≤ 2 ^ 16 → Keeps s h.whole h.gives) → length (unless_refused o h s q f).gives ≤ 2 ^ 16 →
      Keeps s (unless_refused o h s q f).whole (unless_refused o h s q f).gives
  unless_kept None h q f k size = k size
  unless_kept (Some e) h q f k size = just_refused s (refusal_number e) low (reason_low e)

  module _ (j : Joined s) (few : s.box.n ≤ 64) (fits_two : (e : ℕ) → s.box.cost e < 2 ^ 16) (inside : s.box.me < s.box.n) (ts : List ℕ) (four : length ts ≡ 4) (tags : (i : ℕ) → get_or ts i 0 < 2 ^ 64) where
    words_kept : (p : Words) → WordsInRange s.box.n p → (from : Option ℕ) →
        length (flat_map (note_of s) (notes_for (outcomes_from from p ts s) p.items ts s p.count) ++ flat_map out_bytes (answers_from from (bundle_of p) (words_from from (bundle_of p) (take p.count ts) s))) ≤ 2 ^ 16 →
        Keeps s (words_from from (bundle_of p) (take p.count ts) s) (flat_map (note_of s) (notes_for (outcomes_from from p ts s) p.items ts s p.count) ++ flat_map out_bytes (answers_from from (bundle_of p) (words_from from (bundle_of p) (take p.count ts) s)))
    words_kept p r None size = subst (λ (xs : List Note). Keeps s s (flat_map (note_of s) xs ++ [])) (sym (notes_none p.items ts s p.count)) (none_kept s low)
    words_kept p r (Some e) size =
        let notes = notes_for (outcomes_from (Some e) p ts s) p.items ts s p.count in
        let after = words_from (Some e) (bundle_of p) (take p.count ts) s in
        let outs = answers_from (Some e) (bundle_of p) after in
        let m = all_words s j few fits_two inside (eqb p.drawn (s.links.last e)) e p.count p.items ts s.box refl refl refl (omega (arith, r.few, r.four)) (omega (arith, r.few, four)) r.each tags in
        notes_kept s after notes (flat_map out_bytes outs) (omega arith) low m.writable
        (booked_outs outs (over_answers (Some e) (bundle_of p) after) (omega (arith, size, length-append (flat_map (note_of s) notes) (flat_map out_bytes outs)))) m.known

    frame_kept : (w : ℕ) (x : Result Told Fault) (q : Quota) (f : List ℕ) → ((t : Told) → x ≡ Ok t → InRange s.links.n t) → length (by_frame w x ts s q f).gives ≤ 2 ^ 16 → Keeps s (by_frame w x ts s q f).whole (by_frame w x ts s q f).gives
    frame_kept w (Err e) q f r size = just_refused s (unread e (teller w s.links)) low (unread_low e (teller w s.links))
    frame_kept w (Ok (a_hello h)) q f r size =
        let after = heard_hello w (greeting_of h) s in
        let t : after.links.tick ≡ s.links.tick = hello_ticks w (greeting_of h) s in
        unless_kept (hello_refusal w (greeting_of h) s) (handled after [] q f) q f (λ _. nothing_kept s after [] (subst (λ x. s.links.tick ≤ x) (sym t) (omega arith)) (subst (λ x. x < 2 ^ 32) (sym t) low) booked_none refl) size
    frame_kept w (Ok (some_words p)) q f r size =
        unless_kept (words_refusal w p s) (handled (words_leave w p ts s) (words_give w p ts s) q f) q f
        (words_kept p (subst (λ (k : ℕ). WordsInRange k p) j.count (r (some_words p) refl)) (teller w s.links)) size
    frame_kept w (Ok (some_seen p)) q f r size =
        let after = seens_from (teller w s.links) (seens_of p) s in
        let t : after.links.tick ≡ s.links.tick = seens_ticks (teller w s.links) (seens_of p) s in
        unless_kept (seens_refusal w p s) (handled after [] q f) q f (λ _. nothing_kept s after [] (subst (λ x. s.links.tick ≤ x) (sym t) (omega arith)) (subst (λ x. x < 2 ^ 32) (sym t) low) booked_none (seens_known (teller w s.links) (seens_of p) s)) size
    frame_kept w (Ok (a_packet p)) q f r size = passed_kept s low q f

    handled_kept : (h : Handled) (after : Node) (given left : List ℕ) (goes : Option Port) → HandledBy h after given left goes → length given ≤ 2 ^ 16 → (length h.gives ≤ 2 ^ 16 → Keeps s h.whole h.gives) → Keeps s (whole_of after) given
    handled_kept h after given left goes d size k =
        subst (λ (r : Whole). Keeps s r given) (sym d.whole) (subst (λ (z : List ℕ). Keeps s h.whole z) (sym d.gives) (k (omega (arith, size, ap length d.gives))))

    pub wire_kept : (w : ℕ) (f : List ℕ) (q : Quota) (after : Node) (given left : List ℕ) (goes : Option Port) → ((i : ℕ) → get_or f i 0 < 2 ^ 8) →
        (s.links.cost w ≡ 0 → HandledBy (untouched [] s q f) after given left goes) →
        (0 < s.links.cost w → (SumFits f → ⊥) → HandledBy (refused_by 1 s q f) after given left goes) →
        (0 < s.links.cost w → SumFits f → HandledBy (by_frame w (frame_in s.links.n (body_of f)) ts s q f) after given left goes) →
        length given ≤ 2 ^ 16 → Keeps s (whole_of after) given
    wire_kept w f q after given left goes bytes dropped unfit read size = go (eqb (s.links.cost w) 0) refl (fits_or_not f)
      where
        go : (b : Bool) → eqb (s.links.cost w) 0 ≡ b → SumFits f ⊎ (SumFits f → ⊥) → Keeps s (whole_of after) given
        go true e c = handled_kept (untouched [] s q f) after given left goes (dropped (eqb-true (s.links.cost w) 0 e)) size (λ _. none_kept s low)
        go false e (inl c) =
            let x = frame_in s.links.n (body_of f) in
            let n : s.links.n ≤ 64 = omega (arith, few, j.count) in
            handled_kept (by_frame w x ts s q f) after given left goes (read (omega (arith, eqb-false (s.links.cost w) 0 e)) c) size
            (frame_kept w x q f (λ t i. (frame_only s.links.n n (body_of f) t (bytes_take (length f - 4) f bytes) i).1))
        go false e (inr c) = handled_kept (refused_by 1 s q f) after given left goes (unfit (omega (arith, eqb-false (s.links.cost w) 0 e)) c) size (λ _. just_refused s 1 low (omega arith))
