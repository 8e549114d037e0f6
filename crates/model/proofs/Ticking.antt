-- At a tick a box that owes says a word, and then sends over each open road what it tells; just these words are then on their way.
use Rattle.std.proofs.Common.{◌≡◌, ℕ, zero, suc, ◌+◌, ◌<◌, ◌≤◌, Bool, true, cond, not, ◌&&◌, ltb, List, [], ◌∷◌, ◌++◌, sym, refl, ap, ◌∙◌, subst, append_assoc, le_refl, arith}
use Rattle.std.proofs.lemmas.Bool.{ltb-true}
use Rattle.model.specs.Words.{Word, World, Ev, Says, Sends, is_in, says, world}
use Rattle.model.specs.Code.{pick}
use Rattle.model.specs.Box.{Box, is_open, says_now, word_for, must_say, tells, ticked, tick_says, sendings, tellings}
use Rattle.model.specs.Boxes.{TickSo, words_to, words_out}
use Rattle.model.proofs.Tests.{of_cond, both_cond}
use Rattle.model.proofs.Sizes.{world_n}
use Rattle.model.proofs.Rows.{Like, like_of, stands_of, like_says, like_sends}
use Rattle.model.proofs.BoxCode.{one_more, sent_on}

-- by these events a box that stays as it is sends just these words
record Sent (n a : ℕ) (s : Box) (es fs : List Ev) (ws : List Word) : Type 0 where
  like : Like n a (world n (fs ++ es)) s
  flight : (world n (fs ++ es)).flight ≡ ws ++ (world n es).flight

sent_none : (n a : ℕ) (s : Box) (es : List Ev) → Like n a (world n es) s → Sent n a s es [] []
sent_none n a s es k = record { like = k; flight = refl }

-- first these, and then those
sent_then : (n a : ℕ) (s : Box) (es fs gs : List Ev) (vs ws : List Word) → Sent n a s es fs vs → Sent n a s (fs ++ es) gs ws → Sent n a s es (gs ++ fs) (ws ++ vs)
sent_then n a s es fs gs vs ws p q = record {
  like = subst (λ (l : List Ev). Like n a (world n l) s) (sym (append_assoc gs fs es)) q.like;
  flight = ap (λ (l : List Ev). (world n l).flight) (append_assoc gs fs es) ∙ (q.flight ∙ (ap (λ (l : List Word). ws ++ l) p.flight ∙ sym (append_assoc ws vs (world n es).flight)));
}

sent_one : (n a : ℕ) (s : Box) (es : List Ev) (e i : ℕ) → a < n → e < n → i < n → is_open e s ≡ true → Like n a (world n es) s → Sent n a s es (Sends a e i ∷ []) (word_for e i s ∷ [])
unfolding world
sent_one n a s es e i l le li o k = record {
  like = like_sends n a l (world n es) (world_n n es) s a e i k;
  flight = sent_on n a (world n es) s e i (world_n n es) l le li k (subst (λ c. 0 < c) (sym (k.real e)) (ltb-true 0 (s.cost e) o));
}

abbrev Below : ℕ → List ℕ → Type 0
Below n [] = Unit {0}
Below n (i ∷ is) = (i < n) × Below n is

pick_below : (m k : ℕ) (f : ℕ → Bool) (i n : ℕ) → i + m ≤ n → Below n (pick m k f i)
unfolding pick
pick_below zero k f i n h = tt
pick_below (suc m) zero f i n h = tt
pick_below (suc m) (suc k) f i n h = of_cond (Below n) (f i) (i ∷ pick m k f (i + 1)) (pick m (suc k) f (i + 1)) (λ _. (omega arith, pick_below m k f (i + 1) n (omega arith))) (λ _. pick_below m (suc k) f (i + 1) n (omega arith))

-- the words to one neighbour
sent_to_lem : (n a : ℕ) (s : Box) (es : List Ev) (e : ℕ) (is : List ℕ) → a < n → e < n → Below n is → is_open e s ≡ true → Like n a (world n es) s → Sent n a s es (sendings a e is) (words_to s e is)
unfolding sendings words_to
sent_to_lem n a s es e [] l le b o k = sent_none n a s es k
sent_to_lem n a s es e (i ∷ is) l le b o k =
    let p = sent_one n a s es e i l le b.0 o k in
    sent_then n a s es (Sends a e i ∷ []) (sendings a e is) (word_for e i s ∷ []) (words_to s e is) p (sent_to_lem n a s (Sends a e i ∷ es) e is l le b.1 o p.like)

-- the words to all neighbours below k
sent_out : (n a : ℕ) (s : Box) (es : List Ev) (k : ℕ) → a < n → k ≤ n → Like n a (world n es) s → Sent n a s es (tellings s k) (words_out s k)
unfolding tellings words_out
sent_out n a s es zero l m q = sent_none n a s es q
sent_out n a s es (suc k) l m q =
    let p = sent_out n a s es k l (omega arith) q in
    let rest : List Ev = tellings s k ++ es in
    sent_then n a s es (tellings s k) (cond (is_open k s) (sendings s.me k (tells k s)) []) (words_out s k) (cond (is_open k s) (words_to s k (tells k s)) []) p
    (both_cond (λ (fs : List Ev) (ws : List Word). Sent n a s rest fs ws) (is_open k s) (is_open k s) (sendings s.me k (tells k s)) [] (words_to s k (tells k s)) [] refl
    (λ o. subst (λ (b : ℕ). Sent n a s rest (sendings b k (tells k s)) (words_to s k (tells k s))) (sym q.self)
    (sent_to_lem n a s rest k (tells k s) l m (pick_below s.n 4 (λ i. ltb 0 (s.word i).number && not (s.shown k i)) 0 n (omega (arith, q.size))) o p.like))
    (λ _. sent_none n a s rest p.like))

-- what a box says sends nothing
says_flight : (n a t : ℕ) (es : List Ev) → (world n (Says a t ∷ es)).flight ≡ (world n es).flight
unfolding world
says_flight n a t es = of_cond (λ (u : World). u.flight ≡ (world n es).flight) (ltb a (world n es).n && not (is_in t (world n es).drawn)) (says a t (world n es)) (world n es) (λ _. refl) (λ _. refl)

pub tick_so_lem : TickSo
tick_so_lem s es t st f =
    let n = s.n in
    let a = s.me in
    let k : Like n a (world n es) s = like_of n a s es (refl, refl, st) in
    let said : Like n a (world n (tick_says t s ++ es)) (ticked t s) =
    both_cond (λ (fs : List Ev) (v : Box). Like n a (world n (fs ++ es)) v) (must_say s) (must_say s) (Says a t ∷ []) [] (says_now t s) s refl
    (λ _. one_more n a es (Says a t) (says_now t s) (like_says n a st.is_one (world n es) (world_n n es) s t f k)) (λ _. k) in
    let still : (world n (tick_says t s ++ es)).flight ≡ (world n es).flight =
    of_cond (λ (fs : List Ev). (world n (fs ++ es)).flight ≡ (world n es).flight) (must_say s) (Says a t ∷ []) [] (λ _. says_flight n a t es) (λ _. refl) in
    let out = sent_out n a (ticked t s) (tick_says t s ++ es) n st.is_one (le_refl n) said in
    ((stands_of n a (ticked t s) (tellings (ticked t s) n ++ (tick_says t s ++ es)) st.is_one out.like).2, out.flight ∙ ap (λ (l : List Word). words_out (ticked t s) n ++ l) still)
