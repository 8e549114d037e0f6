-- A stretch in which roads and boxes stay is a list of the model's events, by rule; if they bring nothing new, no word changes in it.
use Rattle.std.proofs.Common.{◌≡◌, ℕ, T, List, [], ◌∷◌, ◌++◌, sym, refl, ap, ◌∙◌, subst, append_assoc, arith}
use Rattle.model.specs.Words.{Ev}
use Rattle.model.specs.Promise.{by_rule, new_words}
use Rattle.model.proofs.WordsByRule.{rule_join, new_join}
use Rattle.netmodel.specs.Net.{Net, Move, net, Start, counts_at}
use Rattle.netmodel.specs.Standing.{StandsFor, Stays, AllStays}
use Rattle.netmodel.proofs.Steps.{Step, step_so}
use Rattle.netmodel.proofs.Moments.{Alike, AllAlike, Counted}

-- the events of a stretch
pub record Gone (n : ℕ) (first : ℕ → ℕ) (rs ms : List Move) (es : List Ev) : Type 0 where
  pub events : List Ev
  pub stands : StandsFor n (net n first (rs ++ ms)) (events ++ es)
  pub ruled : T (by_rule n events es)
  pub quiet : new_words n events es ≡ 0 → AllAlike n first rs ms

-- nothing changes in no move
alike_self : (n : ℕ) (x : Net) → Alike n x x
alike_self n x = record { roads = λ a e l m. refl; lasts = λ a e l m. refl; lives = λ a l. refl; words = λ a i l. refl }

-- roads and boxes stay from one moment to another
stays_between : (n : ℕ) (x y z : Net) → Stays n x y → Stays n x z → Stays n y z
stays_between n x y z p q = record {
  roads = λ a e l m. q.roads a e l m ∙ sym (p.roads a e l m);
  lasts = λ a e l m. q.lasts a e l m ∙ sym (p.lasts a e l m);
  lives = λ a l. q.lives a l ∙ sym (p.lives a l);
}

-- an empty stretch has one moment
no_moment : (later before : List Move) → [] ≡ later ++ before → [] ≡ before
no_moment [] before e = e
no_moment (m ∷ later) before e = absurd (let z : ◌≡◌ {A = ℕ} 0 1 = cc in omega arith)

module _ (n : ℕ) (first : ℕ → ℕ) (st : Start n first) (ms : List Move) (es : List Ev) where
  -- one move more
  gone_more : (m : Move) (rs : List Move) → T (counts_at m (net n first (rs ++ ms))) → AllStays n first (m ∷ rs) ms → Gone n first rs ms es → Gone n first (m ∷ rs) ms es
  gone_more m rs c h g = record {
    events = s.events ++ g.events;
    stands = subst (λ (l : List Ev). StandsFor n (net n first (m ∷ (rs ++ ms))) l) (sym (append_assoc s.events g.events es)) s.stands;
    ruled = rule_join n s.events g.events es (s.by_rule' here) g.ruled;
    quiet = λ z. quiet (let k = new_join n s.events g.events es in let u : new_words n g.events es ≡ 0 = omega arith in u) (let k = new_join n s.events g.events es in let u : new_words n s.events (g.events ++ es) ≡ 0 = omega arith in u);
  }
    where
      s : Step n first m (rs ++ ms) (g.events ++ es)
      s = step_so n first m (rs ++ ms) (g.events ++ es) st c g.stands

      here : Stays n (net n first (rs ++ ms)) (net n first (m ∷ (rs ++ ms)))
      here = stays_between n (net n first ms) (net n first (rs ++ ms)) (net n first (m ∷ (rs ++ ms))) (h (m ∷ []) rs refl) (h [] (m ∷ rs) refl)

      quiet : new_words n g.events es ≡ 0 → new_words n s.events (g.events ++ es) ≡ 0 → AllAlike n first (m ∷ rs) ms
      quiet y z [] before e = subst (λ (l : List Move). Alike n (net n first ms) (net n first (l ++ ms))) e
          (let k : Stays n (net n first ms) (net n first (m ∷ (rs ++ ms))) = h [] (m ∷ rs) refl in
          record { roads = k.roads; lasts = k.lasts; lives = k.lives; words = λ a i l. s.same here z a i l ∙ (g.quiet y [] rs refl).words a i l })
      quiet y z (r ∷ later) before e = g.quiet y later before cc

  -- all moves of a stretch
  pub gone : (rs : List Move) → Counted n first (rs ++ ms) → AllStays n first rs ms → StandsFor n (net n first ms) es → Gone n first rs ms es
  gone [] c h k = record { events = []; stands = k; ruled = unfold by_rule in tt; quiet = λ z later before e. subst (λ (l : List Move). Alike n (net n first ms) (net n first (l ++ ms))) (no_moment later before e) (alike_self n (net n first ms)) }
  gone (m ∷ rs) c h k = gone_more m rs (c [] m (rs ++ ms) refl) h (gone rs (λ later q before e. c (m ∷ later) q before (ap (λ (l : List Move). m ∷ l) e)) (λ later before e. h (m ∷ later) before (ap (λ (l : List Move). m ∷ l) e)) k)
