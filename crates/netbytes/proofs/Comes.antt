-- What the coming of a frame leaves of a net: of the box at its wire's other end what is defined for that frame, and nothing of any box if the wire is gone.
use Rattle.std.proofs.Common.{◌≡◌, ℕ, ◌≤◌, true, false, ◌&&◌, leb, List, [], length, Some, None, Option, sym, refl, subst, inl, inr, le-leb}
use Rattle.model.specs.Words.{is_in}
use Rattle.model.proofs.Tests.{of_cond, true_not_false}
use Rattle.linkmodel.proofs.Bools.{and_both}
use Rattle.linkmodel.specs.Station.{Frame, Greets, Tells, Shows, Out, Station as Whole, answers, heard_hello, heard_seens, heard_words, teller}
use Rattle.linkmodel.specs.Calls.{all_fresh}
use Rattle.netmodel.specs.Net.{Net, Sent, Arrives, all_small, becomes, comes, is_there, meets, meets_seens, meets_words, move, sent_nth}
use Rattle.station.specs.Hearing.{answers_from, words_from}
use Rattle.station.specs.Packets.{seens_from}
use Rattle.netbytes.specs.Arriving.{after_frame, sent_after}
use Rattle.netbytes.proofs.Moved.{Moved, moved, passing, unmoved}

-- a frame of words comes with the tags that its box is given, enough of them; another frame with none
abbrev pub TaggedBy : Frame → List ℕ → List ℕ → Type 0
TaggedBy (Greets h) ts us = Unit {0}
TaggedBy (Tells p) ts us = (ts ≡ us) × (length p.items ≤ length ts)
TaggedBy (Shows p) ts us = Unit {0}

-- more tags were drawn than were used
more_tags : (x y : Net) (a : ℕ) (s : Whole) (outs : List Out) (ts : List ℕ) → Moved x y a s outs [] [] → Moved x y a s outs ts []
unfolding is_in
more_tags x y a s outs ts k = record {
  boxes = k.boxes;
  joined = k.joined;
  laid = k.laid;
  sent = k.sent;
  tags = λ t h. elim (k.tags t h) [ inl p ↦ true_not_false false p refl | inr p ↦ inr p ];
  drawn = k.drawn;
}

-- a frame comes to box a on wire w
meets_moved : (x : Net) (a w : ℕ) (f : Frame) (ts us : List ℕ) → TaggedBy f ts us →
    Moved x (meets a w f ts x) a (after_frame w f us (x.at a)) (sent_after w f (after_frame w f us (x.at a))) ts []
meets_moved x a w (Greets h) ts us k = more_tags x _ a (heard_hello w h (x.at a)) [] ts (moved x a (heard_hello w h (x.at a)) [] [])
meets_moved x a w (Tells p) ts us k =
    subst (λ (vs : List ℕ). Moved x (meets a w (Tells p) ts x) a (after_frame w (Tells p) vs (x.at a)) (sent_after w (Tells p) (after_frame w (Tells p) vs (x.at a))) ts []) k.0 (go (teller w (x.at a).links) refl)
  where
    out : (q r : Option ℕ) → r ≡ q → Moved x (meets_words a q p ts x) a (words_from q p ts (x.at a)) (answers_from q p (words_from q p ts (x.at a))) ts [] →
        Moved x (meets_words a q p ts x) a (words_from q p ts (x.at a)) (answers_from r p (words_from q p ts (x.at a))) ts []
    out q r e m = subst (λ (z : Option ℕ). Moved x (meets_words a q p ts x) a (words_from q p ts (x.at a)) (answers_from z p (words_from q p ts (x.at a))) ts []) (sym e) m

    go : (q : Option ℕ) → teller w (x.at a).links ≡ q → Moved x (meets_words a q p ts x) a (words_from q p ts (x.at a)) (answers_from (teller w (words_from q p ts (x.at a)).links) p (words_from q p ts (x.at a))) ts []
    go None e = out None (teller w (x.at a).links) e (more_tags x x a (x.at a) [] ts (unmoved x a))
    go (Some c) e =
        out (Some c) (teller w (x.at a).links) e
        (passing (λ (y : Net). Moved x y a (heard_words c p ts (x.at a)) (answers c p (heard_words c p ts (x.at a))) ts []) (leb (length p.items) (length ts))
        (becomes a (heard_words c p ts (x.at a)) (answers c p (heard_words c p ts (x.at a))) ts x) x (le-leb (length p.items) (length ts) k.1) (moved x a (heard_words c p ts (x.at a)) (answers c p (heard_words c p ts (x.at a))) ts))
meets_moved x a w (Shows p) ts us k = go (teller w (x.at a).links)
  where
    go : (q : Option ℕ) → Moved x (meets_seens a q p x) a (seens_from q p (x.at a)) [] ts []
    go None = more_tags x x a (x.at a) [] ts (unmoved x a)
    go (Some c) = more_tags x _ a (heard_seens c p (x.at a)) [] ts (moved x a (heard_seens c p (x.at a)) [] [])

-- the frame at a place comes, over a wire that is there
pub arrival_moved : (n : ℕ) (x : Net) (i : ℕ) (f : Sent) (ts us : List ℕ) → sent_nth i x.sent ≡ Some f → is_there (x.joined f.by f.on) f.over ≡ true → all_small ts ≡ true → all_fresh ts x.tags ≡ true → TaggedBy f.frame ts us →
    Moved x (move n (Arrives i ts) x) f.over.at (after_frame f.over.on f.frame us (x.at f.over.at)) (sent_after f.over.on f.frame (after_frame f.over.on f.frame us (x.at f.over.at))) ts []
arrival_moved n x i f ts us e t m r k =
    passing Q (all_small ts && all_fresh ts x.tags) (comes (sent_nth i x.sent) ts x) x (and_both (all_small ts) (all_fresh ts x.tags) m r)
    (subst (λ (o : Option Sent). Q (comes o ts x)) (sym e)
    (passing Q (is_there (x.joined f.by f.on) f.over) (meets f.over.at f.over.on f.frame ts x) x t (meets_moved x f.over.at f.over.on f.frame ts us k)))
  where
    Q : Net → Type 0
    Q y = Moved x y f.over.at (after_frame f.over.on f.frame us (x.at f.over.at)) (sent_after f.over.on f.frame (after_frame f.over.on f.frame us (x.at f.over.at))) ts []

-- or over one that is gone: nothing becomes of any box
pub lost_moved : (n : ℕ) (x : Net) (i : ℕ) (f : Sent) (ts : List ℕ) (a : ℕ) → sent_nth i x.sent ≡ Some f → is_there (x.joined f.by f.on) f.over ≡ false → Moved x (move n (Arrives i ts) x) a (x.at a) [] [] []
lost_moved n x i f ts a e t =
    of_cond Q (all_small ts && all_fresh ts x.tags) (comes (sent_nth i x.sent) ts x) x
    (λ _. subst (λ (o : Option Sent). Q (comes o ts x)) (sym e)
    (of_cond Q (is_there (x.joined f.by f.on) f.over) (meets f.over.at f.over.on f.frame ts x) x (λ z. true_not_false (is_there (x.joined f.by f.on) f.over) z t) (λ _. unmoved x a)))
    (λ _. unmoved x a)
  where
    Q : Net → Type 0
    Q y = Moved x y a (x.at a) [] [] []
