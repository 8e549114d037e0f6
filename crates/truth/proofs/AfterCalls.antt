-- The journal tells the truth after any calls.
use Rattle.std.proofs.Common.{ℕ, ◌<◌, List, [], ◌∷◌, ◌++◌, sym, ap, subst, append_assoc, append-nil, arith}
use Rattle.journal.specs.Replay.{Known, Replayed}
use Rattle.linkmodel.specs.Station.{Station as Whole}
use Rattle.truth.specs.Book.{book_in}
use Rattle.truth.specs.Runs.{Call, Run, StaysRecalled, StaysTrue, book_of, left_by}
use Rattle.truth.specs.Truth.{Recalls, Tells, known_in}

pub stays_true : StaysTrue
unfolding Run left_by book_of
stays_true s [] book r h = subst (λ z. Tells z s) (sym (append-nil book)) h
stays_true s (c ∷ cs) book r h = subst (λ z. Tells z (left_by c.leaves cs)) (append_assoc book (book_in c.given) (book_of cs)) (stays_true c.leaves cs (book ++ book_in c.given) r.1 (r.0.tells book h))

-- what is recalled of an earlier tick
recalled : (s : Whole) (cs : List Call) (book : List ℕ) (until : ℕ) (k : Known) → until < s.links.tick → Run s cs → Tells book s → Recalls until book k → Recalls until (book ++ book_of cs) k
unfolding Run book_of
recalled s [] book until k l r h c = subst (λ z. Recalls until z k) (sym (append-nil book)) c
recalled s (d ∷ cs) book until k l r h c =
    let m : until < d.leaves.links.tick = omega (arith, l, r.0.ticks) in
    subst (λ z. Recalls until z k) (append_assoc book (book_in d.given) (book_of cs))
    (recalled d.leaves cs (book ++ book_in d.given) until k m r.1 (r.0.tells book h) (r.0.recalls until book k m h c))

pub stays_recalled : StaysRecalled
unfolding Run book_of
stays_recalled s c cs book r h l =
    let w = h s.links.tick (omega arith) in
    let now : Recalls s.links.tick book (known_in s) = (ap (λ (z : Replayed). z.known) w, ap (λ (z : Replayed). z.fault) w) in
    subst (λ z. Recalls s.links.tick z (known_in s)) (append_assoc book (book_in c.given) (book_of cs))
    (recalled c.leaves cs (book ++ book_in c.given) s.links.tick (known_in s) l r.1 (r.0.tells book h) (r.0.recalls s.links.tick book (known_in s) l h now))
