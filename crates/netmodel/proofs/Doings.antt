-- What a hello, new costs, a fall and a tick do to a box as events of its own, before it sends anything; where roads and numbers stay they are by rule.
use Rattle.std.proofs.Common.{◌≡◌, ℕ, zero, suc, ◌<◌, Bool, true, false, cond, not, ◌&&◌, eqb, ltb, T, List, [], ◌∷◌, ◌++◌, sym, refl, ◌∙◌, subst, subst₂, arith, eq-eqb}
use Rattle.model.specs.Words.{Ev, Road, Says, Falls, is_in, world}
use Rattle.model.specs.Promise.{own_true, by_rule}
use Rattle.model.specs.Box.{Box, must_say, says_now}
use Rattle.model.specs.Boxes.{StandsAs}
use Rattle.model.proofs.Tests.{of_cond, cond-true, cond-false, and_first, both_t, true_t}
use Rattle.model.proofs.Sizes.{world_n}
use Rattle.model.proofs.Rows.{Like, like_of}
use Rattle.model.proofs.BoxCode.{like_owes}
use Rattle.model.proofs.WordsByRule.{rule_join}
use Rattle.linkmodel.specs.Links.{Links, Hello, road_cost, passes, hears_hello, rewired, fell, is_anew, road_events, relinks}
use Rattle.linkmodel.specs.Station.{Station, Seens, heard_seens, can_say, heard_hello, has_costs, falls, ticks}
use Rattle.linkmodel.specs.Calls.{Joined, Does, expired}
use Rattle.linkmodel.proofs.Joins.{hello_so_lem, costs_so_lem, falls_so_lem, ticks_so_lem}
use Rattle.linkmodel.proofs.Relinks.{relink_input}
use Rattle.linkmodel.proofs.Takings.{seens_so_lem}
use Rattle.netmodel.proofs.Tags.{none_in}
use Rattle.linkmodel.specs.Hellos.{Passes}
use Rattle.linkmodel.proofs.Hearers.{hears_me}
use Rattle.netmodel.proofs.Others.{Away, away_none, away_join, away_more, away_says, away_falls, away_relinks}

-- where neither the last number nor the road changes, there is no event
road_none : (before after : Links) (e : ℕ) → before.last e ≡ after.last e → road_cost e before ≡ road_cost e after → road_events before after e ≡ []
road_none before after e l c =
    cond-false (is_anew before after e && (ltb 0 (road_cost e before) && ltb 0 (road_cost e after))) (Road after.me e (road_cost e after) ∷ Road after.me e 0 ∷ [])
    (cond (eqb (road_cost e before) (road_cost e after)) [] (Road after.me e (road_cost e after) ∷ [])) (rw (eq-eqb (before.last e) (after.last e) l) refl)
    ∙ cond-true (eqb (road_cost e before) (road_cost e after)) [] (Road after.me e (road_cost e after) ∷ []) (eq-eqb (road_cost e before) (road_cost e after) c)

relinks_none : (before after : Links) (k : ℕ) → ((e : ℕ) → e < k → before.last e ≡ after.last e) → ((e : ℕ) → e < k → road_cost e before ≡ road_cost e after) → relinks before after k ≡ []
unfolding relinks
relinks_none before after zero l c = refl
relinks_none before after (suc k) l c = rw (road_none before after k (l k (omega arith)) (c k (omega arith)), relinks_none before after k (λ e h. l e (omega arith)) (λ e h. c e (omega arith))) refl

-- roads and numbers stay
pub record Keeps (n : ℕ) (s r : Station) : Type 0 where
  pub roads : (e : ℕ) → e < n → r.box.cost e ≡ s.box.cost e
  pub lasts : (e : ℕ) → e < n → r.links.last e ≡ s.links.last e
  pub life : r.links.drawn ≡ s.links.drawn

-- by these events box a, which was s, became r and sent nothing
pub record Did (n a : ℕ) (s r : Station) (fs es : List Ev) (ts : List ℕ) : Type 0 where
  pub joined : Joined r
  pub like : Like n a (world n (fs ++ es)) r.box
  pub away : Away n a fs es [] ts
  pub rule : Keeps n s r → T (by_rule n fs es)

-- what a box does by its own number of boxes and its own place
does_like : (n a : ℕ) (s r : Station) (es : List Ev) (fs : ℕ → ℕ → List Ev) → Does s es (fs s.box.n s.box.me) r → r.box.n ≡ s.box.n → r.box.me ≡ s.box.me → Joined s → StandsAs n a s.box es → Joined r × Like n a (world n (fs n a ++ es)) r.box
does_like n a s r es fs d rn rm j (q, m, st) =
    let w = d j st in
    (w.0, subst₂ (λ (k b : ℕ). Like k b (world k (fs k b ++ es)) r.box) q m (like_of s.box.n s.box.me r.box (fs s.box.n s.box.me ++ es) (rn, rm, w.1)))

module _ (n a : ℕ) (s : Station) (es : List Ev) (j : Joined s) (st : StandsAs n a s.box es) where
  my_links : s.links.me ≡ a
  my_links = j.number ∙ st.1

  -- links that change and keep whose they are
  relinks_away : (after : Links) → after.me ≡ s.links.me → Away n a (relinks s.links after n) es [] []
  relinks_away after m = subst (λ (b : ℕ). Away n b (relinks s.links after n) es [] []) (m ∙ my_links) (away_relinks n s.links after n es)

  relinks_kept : (r : Station) → Joined r → Keeps n s r → relinks s.links r.links n ≡ []
  relinks_kept r jr k = relinks_none s.links r.links n (λ e l. sym (k.lasts e l)) (λ e l. sym (j.roads e) ∙ (sym (k.roads e l) ∙ jr.roads e))

  relinks_rule : (r : Station) → Joined r → Keeps n s r → T (by_rule n (relinks s.links r.links n) es)
  unfolding by_rule
  relinks_rule r jr k = subst (λ (l : List Ev). T (by_rule n l es)) (sym (relinks_kept r jr k)) tt

  -- a hello
  pub hello_did : (w : ℕ) (h : Hello) → Did n a s (heard_hello w h s) (relinks s.links (hears_hello w h s.links) n) es []
  hello_did w h =
      let d = does_like n a s (heard_hello w h s) es (λ m b. relinks s.links (hears_hello w h s.links) m) (hello_so_lem s es w h) refl refl j st in
      record { joined = d.0; like = d.1; away = relinks_away (hears_hello w h s.links) (hears_me w h s.links); rule = relinks_rule (heard_hello w h s) d.0 }

  -- a packet of seens is no event
  pub seens_did : (e : ℕ) (p : Seens) → Did n a s (heard_seens e p s) [] es []
  unfolding by_rule
  seens_did e p =
      let c = seens_so_lem s es e p j st.2 in
      let d = does_like n a s (heard_seens e p s) es (λ m b. []) (seens_so_lem s es e p) (sym c.0.count ∙ j.count) (sym c.0.number ∙ j.number) j st in
      record { joined = d.0; like = d.1; away = away_none n a es; rule = λ _. tt }

  -- new costs
  pub costs_did : (c : ℕ → ℕ) → Did n a s (has_costs c s) (relinks s.links (rewired c s.links) n) es []
  costs_did c =
      let d = does_like n a s (has_costs c s) es (λ m b. relinks s.links (rewired c s.links) m) (costs_so_lem s es c) refl refl j st in
      record { joined = d.0; like = d.1; away = relinks_away (rewired c s.links) refl; rule = relinks_rule (has_costs c s) d.0 }

  -- a fall, at which a number is drawn that it didn't have
  pub falls_did : (d : ℕ) → (d ≡ s.links.drawn → ⊥) → Did n a s (falls d s) (Falls a ∷ relinks s.links (fell d s.links) n) es []
  falls_did d ne =
      let r = does_like n a s (falls d s) es (λ m b. Falls b ∷ relinks s.links (fell d s.links) m) (falls_so_lem s es d) refl refl j st in
      record {
        joined = r.0;
        like = r.1;
        away = away_join n a (relinks s.links (fell d s.links) n) (Falls a ∷ []) es [] [] [] (relinks_away (fell d s.links) refl) (away_falls n a (relinks s.links (fell d s.links) n ++ es));
        rule = λ k. absurd (ne k.life);
      }

  abbrev owes_at : Bool
  owes_at = must_say (expired s) && can_say ((expired s).word (expired s).me).number

  -- what is said at a tick
  abbrev pub said_at : ℕ → List Ev
  said_at t = cond owes_at (Says a t ∷ []) []

  expired_like : Like n a (world n (relinks s.links (passes s.links) n ++ es)) (expired s)
  expired_like =
      subst₂ (λ (k b : ℕ). Like k b (world k (relinks s.links (passes s.links) k ++ es)) (expired s)) st.0 st.1
      (like_of s.box.n s.box.me (expired s) (relinks s.links (passes s.links) s.box.n ++ es) (refl, refl, relink_input s.links Passes s.box es j.sound j.count j.number j.roads st.2))

  said_rule : (t : ℕ) → T (by_rule n (said_at t) (relinks s.links (passes s.links) n ++ es))
  unfolding by_rule
  said_rule t =
      let fs : List Ev = relinks s.links (passes s.links) n ++ es in
      of_cond (λ (l : List Ev). T (by_rule n l fs)) owes_at (Says a t ∷ []) []
      (λ h. both_t (not (own_true a (world n fs))) true
      (true_t (not (own_true a (world n fs))) (sym (like_owes n a (world n fs) (expired s) (world_n n fs) expired_like) ∙ and_first (must_say (expired s)) (can_say ((expired s).word (expired s).me).number) h)) tt)
      (λ _. tt)

  -- a tick
  pub ticks_did : (t : ℕ) → is_in t (world n es).drawn ≡ false → Did n a s (ticks t s) (said_at t ++ relinks s.links (passes s.links) n) es (t ∷ [])
  ticks_did t f =
      let fs : List Ev = relinks s.links (passes s.links) n in
      let d = does_like n a s (ticks t s) es (λ m b. cond owes_at (Says b t ∷ []) [] ++ relinks s.links (passes s.links) m)
      (ticks_so_lem s es t (subst (λ (m : ℕ). is_in t (world m es).drawn ≡ false) (sym st.0) f))
      (of_cond (λ (b : Box). b.n ≡ s.box.n) owes_at (says_now t (expired s)) (expired s) (λ _. refl) (λ _. refl))
      (of_cond (λ (b : Box). b.me ≡ s.box.me) owes_at (says_now t (expired s)) (expired s) (λ _. refl) (λ _. refl)) j st in
      record {
        joined = d.0;
        like = d.1;
        away = away_join n a fs (said_at t) es [] [] (t ∷ []) (away_more n a fs es [] [] (t ∷ []) (λ u h. none_in u (t ∷ []) h) (relinks_away (passes s.links) refl))
            (of_cond (λ (l : List Ev). Away n a l (fs ++ es) [] (t ∷ [])) owes_at (Says a t ∷ []) [] (λ _. away_says n a (fs ++ es) t) (λ _. away_more n a [] (fs ++ es) [] [] (t ∷ []) (λ u h. none_in u (t ∷ []) h) (away_none n a (fs ++ es))));
        rule = λ k. rule_join n (said_at t) fs es (said_rule t) (relinks_rule (ticks t s) d.0 k);
      }
