-- One move of a net is a list of the model's events.
use Rattle.std.proofs.Common.{◌≡◌, ℕ, ◌<◌, ◌^◌, Bool, not, ◌&&◌, ltb, T, List, [], ◌∷◌, ◌++◌, Some, None, Option, sym, refl, ◌∙◌, subst, ltb-true, true, false, suc}
use Rattle.model.specs.Words.{Ev, Falls as Fallen, is_in, world}
use Rattle.model.specs.Promise.{by_rule, new_words}
use Rattle.model.proofs.Tests.{of_cond, and_first, and_second, true_t, true_not_false}
use Rattle.model.proofs.Rows.{like_of}
use Rattle.linkmodel.proofs.Bools.{not-was}
use Rattle.linkmodel.specs.Links.{wires, passes, rewired, fell, relinks}
use Rattle.linkmodel.specs.Station.{has_costs, ticks, tick_out}
use Rattle.linkmodel.specs.Calls.{all_fresh}
use Rattle.linkmodel.proofs.Wires.{aged_open}
use Rattle.netmodel.specs.Net.{Plug, Net, Move, Ticks, Arrives, Rewires, Falls, Lays, Takes, net, Start, becomes, sent_nth, comes, all_small, is_fresh, small_costs, can_lay, plugged, unplugged, move, counts_at}
use Rattle.netmodel.specs.Standing.{StandsFor, Stays}
use Rattle.netmodel.proofs.Uttered.{tick_said}
use Rattle.netmodel.proofs.Unchanged.{nothing_new}
use Rattle.netmodel.proofs.Runs.{lawful}
use Rattle.netmodel.proofs.Doings.{said_at, costs_did, falls_did, ticks_did}
use Rattle.netmodel.proofs.Led.{Led, led_none, led_box, falls_at, led_falls}
use Rattle.netmodel.proofs.Arriving.{leads_to, arrives_led}

-- the events of a move; where roads and boxes stay they are by rule, and where they bring nothing new no word changes
pub record Step (n : ℕ) (first : ℕ → ℕ) (m : Move) (ms : List Move) (es : List Ev) : Type 0 where
  pub events : List Ev
  pub stands : StandsFor n (net n first (m ∷ ms)) (events ++ es)
  pub by_rule' : Stays n (net n first ms) (net n first (m ∷ ms)) → T (by_rule n events es)
  pub same : Stays n (net n first ms) (net n first (m ∷ ms)) → new_words n events es ≡ 0 → (a i : ℕ) → a < n → ((net n first (m ∷ ms)).at a).box.word i ≡ ((net n first ms).at a).box.word i

-- a tag that may be drawn was never
fresh_new : (t : ℕ) (old : List ℕ) → is_fresh t old ≡ true → is_in t old ≡ false
fresh_new t old h = not-was (is_in t old) (and_second (ltb t (2 ^ 64)) (not (is_in t old)) h)

module _ (n : ℕ) (first : ℕ → ℕ) (ms : List Move) (es : List Ev) (start : Start n first) (st : StandsFor n (net n first ms) es) where
  abbrev X : Net
  X = net n first ms

  ticks_led : (a t : ℕ) → a < n → is_fresh t X.tags ≡ true → Led n X (becomes a (ticks t (X.at a)) (tick_out (ticks t (X.at a))) (t ∷ []) X) es
  ticks_led a t l f =
      let s = X.at a in
      let j = st.joined a l in
      let k = st.boxes a l in
      let d = ticks_did n a s es j k t (fresh_here (is_in t (world n es).drawn) refl) in
      led_box n a X es (said_at n a s es j k t ++ relinks s.links (passes s.links) n) (ticks t s) (tick_out (ticks t s)) (t ∷ []) l st d
      (tick_said n (X.joined a) (ticks t s) (λ w g c u p e q. leads_to n first ms a start w g c u p (aged_open (suc s.links.tick) (s.links.wire w) g c u e).0 q) d.joined.roads d.like.size)
    where
      fresh_here : (b : Bool) → is_in t (world n es).drawn ≡ b → b ≡ false
      fresh_here true h = true_not_false (is_in t X.tags) (st.tags t h) (fresh_new t X.tags f)
      fresh_here false h = refl

  costs_led : (a : ℕ) (c : ℕ → ℕ) → a < n → Led n X (becomes a (has_costs c (X.at a)) [] [] X) es
  costs_led a c l = led_box n a X es (relinks (X.at a).links (rewired c (X.at a).links) n) (has_costs c (X.at a)) [] [] l st (costs_did n a (X.at a) es (st.joined a l) (st.boxes a l) c) tt

  falls_led : (a d : ℕ) → a < n → is_fresh d X.drawn ≡ true → Led n X (falls_at a d X) es
  falls_led a d l f = led_falls n a d X es (Fallen a ∷ relinks (X.at a).links (fell d (X.at a).links) n) l st
      (falls_did n a (X.at a) es (st.joined a l) (st.boxes a l) d (λ e. true_not_false (is_in (X.at a).links.drawn X.drawn) ((lawful n first ms).own a l) (subst (λ z. is_in z X.drawn ≡ false) e (fresh_new d X.drawn f))))

  laid_led : (a w e v : ℕ) → Led n X (plugged a w e v X) es
  laid_led a w e v = led_none n X (plugged a w e v X) es (record { joined = st.joined; boxes = st.boxes; flight = st.flight; tags = st.tags })

  taken_led : (a w : ℕ) (o : Option Plug) → Led n X (unplugged a w o X) es
  taken_led a w None = led_none n X X es st
  taken_led a w (Some p) = led_none n X (unplugged a w (Some p) X) es (record { joined = st.joined; boxes = st.boxes; flight = st.flight; tags = st.tags })

  -- each move
  move_led : (m : Move) → T (counts_at m X) → Led n X (move n m X) es
  move_led (Ticks a t) c = of_cond (λ (y : Net). Led n X y es) (ltb a n && is_fresh t X.tags) (becomes a (ticks t (X.at a)) (tick_out (ticks t (X.at a))) (t ∷ []) X) X
      (λ h. ticks_led a t (ltb-true a n (and_first (ltb a n) (is_fresh t X.tags) h)) (and_second (ltb a n) (is_fresh t X.tags) h)) (λ _. led_none n X X es st)
  move_led (Arrives k ts) c = of_cond (λ (y : Net). Led n X y es) (all_small ts && all_fresh ts X.tags) (comes (sent_nth k X.sent) ts X) X
      (λ h. arrives_led n first ms es start st k ts (true_t (all_fresh ts X.tags) (and_second (all_small ts) (all_fresh ts X.tags) h)) (sent_nth k X.sent) refl c) (λ _. led_none n X X es st)
  move_led (Rewires a c) k = of_cond (λ (y : Net). Led n X y es) (ltb a n && small_costs c wires) (becomes a (has_costs c (X.at a)) [] [] X) X
      (λ h. costs_led a c (ltb-true a n (and_first (ltb a n) (small_costs c wires) h))) (λ _. led_none n X X es st)
  move_led (Falls a d) c = of_cond (λ (y : Net). Led n X y es) (ltb a n && (ltb 0 d && is_fresh d X.drawn)) (falls_at a d X) X
      (λ h. falls_led a d (ltb-true a n (and_first (ltb a n) (ltb 0 d && is_fresh d X.drawn) h)) (and_second (ltb 0 d) (is_fresh d X.drawn) (and_second (ltb a n) (ltb 0 d && is_fresh d X.drawn) h)))
      (λ _. led_none n X X es st)
  move_led (Lays a w e v) c = of_cond (λ (y : Net). Led n X y es) (can_lay n a w e v X) (plugged a w e v X) X (λ _. laid_led a w e v) (λ _. led_none n X X es st)
  move_led (Takes a w) c = taken_led a w (X.joined a w)

pub step_so : (n : ℕ) (first : ℕ → ℕ) (m : Move) (ms : List Move) (es : List Ev) → Start n first → T (counts_at m (net n first ms)) → StandsFor n (net n first ms) es → Step n first m ms es
unfolding net
step_so n first m ms es start c st =
    let p = move_led n first ms es start st m c in
    record {
      events = p.events;
      stands = p.stands;
      by_rule' = p.rule;
      same = λ k h a i l. sym ((like_of n a ((move n m (net n first ms)).at a).box (p.events ++ es) (p.stands.boxes a l)).knows i)
          ∙ (nothing_new n p.events es (p.rule k) h a i ∙ (like_of n a ((net n first ms).at a).box es (st.boxes a l)).knows i);
    }
