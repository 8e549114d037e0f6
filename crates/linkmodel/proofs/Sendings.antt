-- What a whole box sends leaves it as it is, and just these words are then on their way.
use Rattle.std.proofs.Common.{◌≡◌, ℕ, zero, suc, ◌+◌, ◌<◌, ◌≤◌, Bool, cond, not, ◌&&◌, T, ltb, List, [], ◌∷◌, ◌++◌, sym, refl, ap, ◌∙◌, subst, append_assoc, le_refl, arith, ltb-true, lt-ltb}
use Rattle.model.specs.Words.{Word, Ev, Sends, world}
use Rattle.model.specs.Code.{pick}
use Rattle.model.specs.Box.{Box, Stands, is_open, word_for, tells, sendings, tellings}
use Rattle.model.specs.Boxes.{words_to, words_out}
use Rattle.model.proofs.Tests.{of_cond, both_cond, left_t, right_t, t_true, both_t, true_t}
use Rattle.model.proofs.Sizes.{world_n}
use Rattle.model.proofs.Rows.{Like, like_of, stands_of, like_sends}
use Rattle.model.proofs.BoxCode.{one_more, sent_on}
use Rattle.linkmodel.specs.Calls.{Joined, TellsSo, AnswersSo, abouts, all_under}

-- by these events a box that stays as it is sends just these words
record Sent (b : Box) (es fs : List Ev) (ws : List Word) : Type 0 where
  stands : Stands b (fs ++ es)
  flight : (world b.n (fs ++ es)).flight ≡ ws ++ (world b.n es).flight

sent_none : (b : Box) (es : List Ev) → Stands b es → Sent b es [] []
sent_none b es st = record { stands = st; flight = refl }

-- first these, and then those
sent_then : (b : Box) (es fs gs : List Ev) (vs ws : List Word) → Sent b es fs vs → Sent b (fs ++ es) gs ws → Sent b es (gs ++ fs) (ws ++ vs)
sent_then b es fs gs vs ws p q = record {
  stands = subst (Stands b) (sym (append_assoc gs fs es)) q.stands;
  flight = ap (λ (l : List Ev). (world b.n l).flight) (append_assoc gs fs es) ∙ (q.flight ∙ (ap (λ (l : List Word). ws ++ l) p.flight ∙ sym (append_assoc ws vs (world b.n es).flight)));
}

sent_one : (b : Box) (es : List Ev) (e i : ℕ) → e < b.n → i < b.n → 0 < b.cost e → Stands b es → Sent b es (Sends b.me e i ∷ []) (word_for e i b ∷ [])
unfolding world
sent_one b es e i le li o st =
    let k : Like b.n b.me (world b.n es) b = like_of b.n b.me b es (refl, refl, st) in
    record {
      stands = (stands_of b.n b.me b (Sends b.me e i ∷ es) st.is_one (one_more b.n b.me es (Sends b.me e i) b (like_sends b.n b.me st.is_one (world b.n es) (world_n b.n es) b b.me e i k))).2;
      flight = sent_on b.n b.me (world b.n es) b e i (world_n b.n es) st.is_one le li k (subst (λ (c : ℕ). 0 < c) (sym (st.real e)) o);
    }

-- the words to one neighbour
sent_to_lem : (b : Box) (es : List Ev) (e : ℕ) (is : List ℕ) → e < b.n → T (all_under b.n is) → 0 < b.cost e → Stands b es → Sent b es (sendings b.me e is) (words_to b e is)
unfolding sendings words_to all_under
sent_to_lem b es e [] le u o st = sent_none b es st
sent_to_lem b es e (i ∷ is) le u o st =
    let p = sent_one b es e i le (ltb-true i b.n (t_true (ltb i b.n) (left_t (ltb i b.n) (all_under b.n is) u))) o st in
    sent_then b es (Sends b.me e i ∷ []) (sendings b.me e is) (word_for e i b ∷ []) (words_to b e is) p
    (sent_to_lem b (Sends b.me e i ∷ es) e is le (right_t (ltb i b.n) (all_under b.n is) u) o p.stands)

-- what is picked of the first n is below n
pick_under : (m k : ℕ) (f : ℕ → Bool) (i n : ℕ) → i + m ≤ n → T (all_under n (pick m k f i))
unfolding pick all_under
pick_under zero k f i n h = tt
pick_under (suc m) zero f i n h = tt
pick_under (suc m) (suc k) f i n h = of_cond (λ (l : List ℕ). T (all_under n l)) (f i) (i ∷ pick m k f (i + 1)) (pick m (suc k) f (i + 1))
    (λ _. both_t (ltb i n) (all_under n (pick m k f (i + 1))) (true_t (ltb i n) (lt-ltb i n (omega arith))) (pick_under m k f (i + 1) n (omega arith)))
    (λ _. pick_under m (suc k) f (i + 1) n (omega arith))

-- the words to all neighbours below k
sent_out : (b : Box) (es : List Ev) (k : ℕ) → k ≤ b.n → Stands b es → Sent b es (tellings b k) (words_out b k)
unfolding tellings words_out
sent_out b es zero m st = sent_none b es st
sent_out b es (suc k) m st =
    let p = sent_out b es k (omega arith) st in
    sent_then b es (tellings b k) (cond (is_open k b) (sendings b.me k (tells k b)) []) (words_out b k) (cond (is_open k b) (words_to b k (tells k b)) []) p
    (both_cond (λ (fs : List Ev) (ws : List Word). Sent b (tellings b k ++ es) fs ws) (is_open k b) (is_open k b) (sendings b.me k (tells k b)) [] (words_to b k (tells k b)) [] refl
    (λ o. sent_to_lem b (tellings b k ++ es) k (tells k b) m (pick_under b.n 4 (λ i. ltb 0 (b.word i).number && not (b.shown k i)) 0 b.n (omega arith)) (ltb-true 0 (b.cost k) o) p.stands)
    (λ _. sent_none b (tellings b k ++ es) p.stands))

pub tells_so_lem : TellsSo
tells_so_lem s es = ((λ j st. (j, (sent_out s.box es s.box.n (le_refl s.box.n) st).stands)), λ st. (sent_out s.box es s.box.n (le_refl s.box.n) st).flight)

pub answers_so_lem : AnswersSo
answers_so_lem s es e xs le o u = ((λ j st. (j, (all j st).stands)), λ j st. (all j st).flight)
  where
    all : Joined s → Stands s.box es → Sent s.box es (sendings s.box.me e (abouts xs)) (words_to s.box e (abouts xs))
    all j st = sent_to_lem s.box es e (abouts xs) le u (subst (λ (c : ℕ). 0 < c) (sym (j.roads e)) o) st
