-- A net that is left alone comes to rest: each window that doesn't end at rest brings something new, and there is only so much of that.
use Rattle.std.proofs.Common.{◌≡◌, ℕ, ◌+◌, ◌*◌, ◌<◌, ◌≤◌, cond, T, List, [], ◌∷◌, ◌++◌, length, sym, refl, ap, ◌∙◌, subst, append_assoc, arith}
use Rattle.model.specs.Words.{Entry, Word, Ev, world}
use Rattle.model.specs.Promise.{Even, by_rule, new_words}
use Rattle.model.specs.Settling.{at_rest}
use Rattle.model.specs.Spread.{joined}
use Rattle.model.proofs.Counts.{fails_le}
use Rattle.model.proofs.Resting.{rest_from, rest_test_lem}
use Rattle.model.proofs.WordsByRule.{rule_join, new_join}
use Rattle.model.proofs.Whole.{words_end_sooner}
use Rattle.model.proofs.Rows.{like_of}
use Rattle.linkmodel.proofs.Newer.{after_same}
use Rattle.netmodel.specs.Net.{Net, Move, net, Start}
use Rattle.netmodel.specs.Standing.{StandsFor, Stays, world_in}
use Rattle.netmodel.specs.Windows.{Window, moves_of, Windows, restless_windows, most_news, WindowsRest}
use Rattle.netmodel.proofs.Simulated.{simulates}
use Rattle.netmodel.proofs.Blanks.{no_tag}
use Rattle.netmodel.proofs.Moments.{AllAlike, Counted, counted_each, counts_early, counted_early}
use Rattle.netmodel.proofs.Going.{Gone, gone}
use Rattle.netmodel.proofs.Owed.{owes_none}
use Rattle.netmodel.proofs.Agreed.{Blank, Agreed, all_rounds}

-- who has no word of a box has no tag of it
blank_lem : (n : ℕ) (x : Net) (es : List Ev) → StandsFor n x es → Blank n x
blank_lem n x es s a i la z =
    let k : (world n es).knows a i ≡ (x.at a).box.word i = (like_of n a (x.at a).box es (s.boxes a la)).knows i in
    ap (λ (w : Entry). w.tag) (sym k) ∙ no_tag n es a i (ap (λ (w : Entry). w.number) k ∙ z)

-- both ends of each road still agree
even_on : (n : ℕ) (x y : Net) → Stays n x y → Even (world_in n x) → Even (world_in n y)
even_on n x y k v a e la le p = subst (λ (z : ℕ). 0 < z) (sym (k.roads e a le la)) (v a e la le (subst (λ (z : ℕ). 0 < z) (k.roads a e la le) p))

-- a window in which nothing changes ends at rest
window_rest : (n : ℕ) (first : ℕ → ℕ) → Start n first → (w : List (List Move)) (ms : List Move) → Window n first w ms → AllAlike n first (joined w) ms → Counted n first (joined w ++ ms) → Blank n (net n first ms) →
    Even (world_in n (net n first (joined w ++ ms))) → T (at_rest (world_in n (net n first (joined w ++ ms))))
window_rest n first st w ms h k c bl v = (rest_test_lem (world_in n z)).1 (rest_from (world_in n z) v
    (λ a la. owes_none n first st (joined w) ms k c a la (h.ticks a la))
    (λ a e i la le li p q. after_same ((z.at a).box.word i).number ((z.at a).box.word i).tag ((z.at e).box.word i).number ((z.at e).box.word i).tag (agreed.same a e la le (p, q) i li)))
  where
    z : Net
    z = net n first (joined w ++ ms)

    agreed : Agreed n z n
    agreed = subst (λ (m : ℕ). Agreed n z m) h.long (all_rounds n first st w ms k c h.known bl h.rounds (subst (λ (m : ℕ). m ≤ n) (sym h.long) (omega arith)))

-- the events of windows
record Counting (n : ℕ) (first : ℕ → ℕ) (ws : List (List (List Move))) (ms : List Move) (es : List Ev) : Type 0 where
  events : List Ev
  stands : StandsFor n (net n first (moves_of ws ++ ms)) (events ++ es)
  ruled : T (by_rule n events es)
  few : restless_windows n first ws ms ≤ new_words n events es
  even : Even (world_in n (net n first (moves_of ws ++ ms)))

module _ (n : ℕ) (first : ℕ → ℕ) (st : Start n first) (ms : List Move) (es : List Ev) where
  -- one window more
  one_window : (w : List (List Move)) (ws : List (List (List Move))) → Counted n first (joined w ++ (moves_of ws ++ ms)) → Window n first w (moves_of ws ++ ms) → Counting n first ws ms es → Counting n first (w ∷ ws) ms es
  unfolding moves_of restless_windows
  one_window w ws c h k = record {
    events = g.events ++ k.events;
    stands = subst (λ (l : List Move). StandsFor n (net n first l) ((g.events ++ k.events) ++ es)) (sym (append_assoc (joined w) (moves_of ws) ms))
        (subst (λ (l : List Ev). StandsFor n (net n first (joined w ++ q)) l) (sym (append_assoc g.events k.events es)) g.stands);
    ruled = rule_join n g.events k.events es g.ruled k.ruled;
    few = let u = new_join n g.events k.events es in let r = rests in let f = k.few in omega arith;
    even = subst (λ (l : List Move). Even (world_in n (net n first l))) (sym (append_assoc (joined w) (moves_of ws) ms)) even;
  }
    where
      q : List Move
      q = moves_of ws ++ ms

      g : Gone n first (joined w) q (k.events ++ es)
      g = gone n first st q (k.events ++ es) (joined w) c h.stays k.stands

      even : Even (world_in n (net n first (joined w ++ q)))
      even = even_on n (net n first q) (net n first (joined w ++ q)) (h.stays [] (joined w) refl) k.even

      rests : cond (at_rest (world_in n (net n first (joined w ++ q)))) 0 1 ≤ new_words n g.events (k.events ++ es)
      rests = fails_le (at_rest (world_in n (net n first (joined w ++ q)))) (new_words n g.events (k.events ++ es))
          (λ z. window_rest n first st w q h (g.quiet z) c (blank_lem n (net n first q) (k.events ++ es) k.stands) even)

  -- all windows
  all_windows : (ws : List (List (List Move))) → Counted n first (moves_of ws ++ ms) → Windows n first ws ms → StandsFor n (net n first ms) es → Even (world_in n (net n first ms)) → Counting n first ws ms es
  unfolding moves_of restless_windows Windows
  all_windows [] c h s v = record { events = []; stands = s; ruled = unfold by_rule in tt; few = omega arith; even = v }
  all_windows (w ∷ ws) c (h, hs) s v = one_window w ws counts h (all_windows ws (counts_early n first (joined w) (moves_of ws ++ ms) counts) hs s v)
    where
      counts : Counted n first (joined w ++ (moves_of ws ++ ms))
      counts = subst (λ (l : List Move). Counted n first l) (append_assoc (joined w) (moves_of ws) ms) c

-- of all windows only as many as there can be news end without rest
pub windows_rest : WindowsRest
windows_rest n first ms ws st c v h = go (simulates n first ms st (counted_early n first (moves_of ws) ms c))
  where
    go : (es : List Ev) × StandsFor n (net n first ms) es → restless_windows n first ws ms ≤ most_news n (net n first ms)
    go (es, s) =
        let k : Counting n first ws ms es = all_windows n first st ms es ws (counted_each n first (moves_of ws ++ ms) c) h s v in
        let b : new_words n k.events es ≤ most_news n (net n first ms) = subst (λ (l : List Word). new_words n k.events es ≤ 2 * n * (n * n + length l)) s.flight (words_end_sooner n es k.events k.ruled) in
        let f = k.few in
        omega arith
