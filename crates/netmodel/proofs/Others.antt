-- What the events of one box leave: the other boxes as they were, and what is on its way and drawn.
use Rattle.std.proofs.Common.{◌≡◌, ℕ, zero, suc, ◌<◌, Bool, true, false, not, ◌&&◌, ◌||◌, eqb, ltb, cond, ◌⊎◌, List, [], ◌∷◌, ◌++◌, sym, refl, ap, ◌∙◌, subst, inl, inr, append_assoc, ne_eqb}
use Rattle.model.specs.Words.{Word, World, Ev, Road, Says, Sends, Comes, Falls, newer, unsaid, is_in, at2, own_entry, with_knows, says, told, comes, comes_nth, sends, world}
use Rattle.model.specs.Code.{nth_is, of_box}
use Rattle.model.specs.Box.{Box, word_for}
use Rattle.model.proofs.Tests.{of_cond, true_not_false}
use Rattle.model.proofs.Sizes.{world_n}
use Rattle.model.proofs.Events.{with_real, of_nth}
use Rattle.model.proofs.Rows.{Like, like_others, like_else}
use Rattle.model.proofs.BoxCode.{one_more, one_comes, sent_on}
use Rattle.linkmodel.specs.Links.{Links, road_cost, is_anew, road_events, relinks}

-- after these events of box a the others are as they were, just these words were sent, and of tags at most these were drawn
pub record Away (n a : ℕ) (fs es : List Ev) (ws : List Word) (ts : List ℕ) : Type 0 where
  pub others : (b : ℕ) (r : Box) → b < n → (b ≡ a → ⊥) → Like n b (world n es) r → Like n b (world n (fs ++ es)) r
  pub flight : (world n (fs ++ es)).flight ≡ ws ++ (world n es).flight
  pub drawn : (t : ℕ) → is_in t (world n (fs ++ es)).drawn ≡ true → (is_in t ts ≡ true) ⊎ (is_in t (world n es).drawn ≡ true)

-- no event
pub away_none : (n a : ℕ) (es : List Ev) → Away n a [] es [] []
away_none n a es = record { others = λ b r l h k. k; flight = refl; drawn = λ t h. inr h }

-- at most these tags were drawn
abbrev Drew : List ℕ → World → World → Type 0
Drew ts w u = (t : ℕ) → is_in t u.drawn ≡ true → (is_in t ts ≡ true) ⊎ (is_in t w.drawn ≡ true)

abbrev is_comes : Ev → Bool
is_comes (Road a e c) = false
is_comes (Says a t) = false
is_comes (Sends a e i) = false
is_comes (Comes i t) = true
is_comes (Falls a) = false

no_comes : (e : Ev) → is_comes e ≡ false → (i t : ℕ) → e ≡ Comes i t → ⊥
no_comes e f i t h = true_not_false (is_comes e) (ap is_comes h) f

-- a tag more
one_drawn : (u t : ℕ) (ts : List ℕ) → is_in u (t ∷ ts) ≡ true → (is_in u (t ∷ []) ≡ true) ⊎ (is_in u ts ≡ true)
unfolding is_in
one_drawn u t ts h = go (eqb t u) h
  where
    go : (b : Bool) → (b || is_in u ts) ≡ true → ((b || false) ≡ true) ⊎ (is_in u ts ≡ true)
    go true h = inl refl
    go false h = inr h

-- what comes draws its tag or none
comes_drawn : (x : Word) (t : ℕ) (w : World) → Drew (t ∷ []) w (comes x t w)
comes_drawn x t w =
    let said : World = with_knows (at2 x.to x.to (own_entry x.to x.entry.number t w) w.knows) (t ∷ []) w in
    let took : World = with_knows (at2 x.to x.about x.entry w.knows) [] w in
    of_cond (Drew (t ∷ []) w) (ltb 0 (w.real x.to x.from) && not (is_in t w.drawn)) (told x t w) w
    (λ _. of_cond (Drew (t ∷ []) w) (newer x.entry (w.knows x.to x.about)) (cond (eqb x.to x.about) said took) w
    (λ _. of_cond (Drew (t ∷ []) w) (eqb x.to x.about) said took (λ _ u h. one_drawn u t w.drawn h) (λ _ u h. inr h)) (λ _ u h. inr h))
    (λ _ u h. inr h)

nth_drawn : (k t : ℕ) (xs : List Word) (w : World) → Drew (t ∷ []) w (comes_nth k t xs w)
unfolding comes_nth
nth_drawn k t [] w = λ u h. inr h
nth_drawn zero t (x ∷ xs) w = comes_drawn x t w
nth_drawn (suc k) t (x ∷ xs) w = nth_drawn k t xs w

-- first fs, and then gs
pub away_join : (n a : ℕ) (fs gs es : List Ev) (vs ws : List Word) (ts : List ℕ) → Away n a fs es vs ts → Away n a gs (fs ++ es) ws ts → Away n a (gs ++ fs) es (ws ++ vs) ts
away_join n a fs gs es vs ws ts p q = record {
  others = λ b r l h k. subst (λ (z : List Ev). Like n b (world n z) r) (sym (append_assoc gs fs es)) (q.others b r l h (p.others b r l h k));
  flight = ap (λ (z : List Ev). (world n z).flight) (append_assoc gs fs es) ∙ (q.flight ∙ (ap (λ (z : List Word). ws ++ z) p.flight ∙ sym (append_assoc ws vs (world n es).flight)));
  drawn = λ t h. go t (q.drawn t (subst (λ (z : List Ev). is_in t (world n z).drawn ≡ true) (append_assoc gs fs es) h));
}
  where
    go : (t : ℕ) → (is_in t ts ≡ true) ⊎ (is_in t (world n (fs ++ es)).drawn ≡ true) → (is_in t ts ≡ true) ⊎ (is_in t (world n es).drawn ≡ true)
    go t (inl h) = inl h
    go t (inr h) = p.drawn t h

-- more tags than were drawn
pub away_more : (n a : ℕ) (fs es : List Ev) (ws : List Word) (ts us : List ℕ) → ((t : ℕ) → is_in t ts ≡ true → is_in t us ≡ true) → Away n a fs es ws ts → Away n a fs es ws us
away_more n a fs es ws ts us f p = record { others = p.others; flight = p.flight; drawn = λ t h. go t (p.drawn t h) }
  where
    go : (t : ℕ) → (is_in t ts ≡ true) ⊎ (is_in t (world n es).drawn ≡ true) → (is_in t us ≡ true) ⊎ (is_in t (world n es).drawn ≡ true)
    go t (inl h) = inl (f t h)
    go t (inr h) = inr h

-- an event of box a is none of another's
module _ (n a : ℕ) (es : List Ev) where
  quiet : (e : Ev) → ((b : ℕ) → (b ≡ a → ⊥) → of_box b e ≡ false) → ((i t : ℕ) → e ≡ Comes i t → ⊥) → (b : ℕ) (r : Box) → b < n → (b ≡ a → ⊥) → Like n b (world n es) r → Like n b (world n (e ∷ es)) r
  quiet e f h b r l ne k = one_more n b es e r (like_others n b l (world n es) (world_n n es) r e (f b ne) h k)

  -- a road, a fall, and a word that it says
  pub away_road : (e c : ℕ) → Away n a (Road a e c ∷ []) es [] []
  unfolding world
  away_road e c =
      let test = ltb a (world n es).n && (ltb e (world n es).n && not (eqb a e)) in
      record {
        others = quiet (Road a e c) (λ b ne. ne_eqb b a ne) (no_comes (Road a e c) refl);
        flight = of_cond (λ (u : World). u.flight ≡ (world n es).flight) test (with_real (at2 a e c (world n es).real) (world n es)) (world n es) (λ _. refl) (λ _. refl);
        drawn = of_cond (Drew [] (world n es)) test (with_real (at2 a e c (world n es).real) (world n es)) (world n es) (λ _ t h. inr h) (λ _ t h. inr h);
      }

  pub away_falls : Away n a (Falls a ∷ []) es [] []
  unfolding world
  away_falls =
      let gone : World = with_knows (λ p q. cond (eqb p a) unsaid ((world n es).knows p q)) [] (world n es) in
      record {
        others = quiet (Falls a) (λ b ne. ne_eqb b a ne) (no_comes (Falls a) refl);
        flight = of_cond (λ (u : World). u.flight ≡ (world n es).flight) (ltb a (world n es).n) gone (world n es) (λ _. refl) (λ _. refl);
        drawn = of_cond (Drew [] (world n es)) (ltb a (world n es).n) gone (world n es) (λ _ t h. inr h) (λ _ t h. inr h);
      }

  pub away_says : (t : ℕ) → Away n a (Says a t ∷ []) es [] (t ∷ [])
  unfolding world
  away_says t =
      let test = ltb a (world n es).n && not (is_in t (world n es).drawn) in
      record {
        others = quiet (Says a t) (λ b ne. ne_eqb b a ne) (no_comes (Says a t) refl);
        flight = of_cond (λ (u : World). u.flight ≡ (world n es).flight) test (says a t (world n es)) (world n es) (λ _. refl) (λ _. refl);
        drawn = of_cond (Drew (t ∷ []) (world n es)) test (says a t (world n es)) (world n es) (λ _ u h. one_drawn u t (world n es).drawn h) (λ _ u h. inr h);
      }

  -- what is sent over an open road
  pub away_sends : (s : Box) (e i : ℕ) → a < n → e < n → i < n → 0 < s.cost e → Like n a (world n es) s → Away n a (Sends a e i ∷ []) es (word_for e i s ∷ []) []
  unfolding world
  away_sends s e i l le li o k =
      let test = ltb a (world n es).n && (ltb e (world n es).n && (ltb i (world n es).n && ltb 0 ((world n es).real a e))) in
      record {
        others = quiet (Sends a e i) (λ b ne. ne_eqb b a ne) (no_comes (Sends a e i) refl);
        flight = sent_on n a (world n es) s e i (world_n n es) l le li k (subst (λ (c : ℕ). 0 < c) (sym (k.real e)) o);
        drawn = of_cond (Drew [] (world n es)) test (sends a e i (world n es)) (world n es) (λ _ t h. inr h) (λ _ t h. inr h);
      }

  -- a word comes to box a
  pub away_comes : (k t : ℕ) (x : Word) → nth_is k x (world n es).flight → x.to ≡ a → Away n a (Comes k t ∷ []) es [] (t ∷ [])
  unfolding world
  away_comes k t x h to = record {
    others = λ b r l ne q. one_comes n b es k t x r h (like_else n b l (world n es) (world_n n es) r x t (λ e. ne (sym e ∙ to)) q);
    flight = of_nth (λ (u : World). u.flight ≡ (world n es).flight) k t (world n es).flight (world n es) refl (λ _ _. refl);
    drawn = nth_drawn k t (world n es).flight (world n es);
  }

road_events_away : (n : ℕ) (before after : Links) (e : ℕ) (es : List Ev) → Away n after.me (road_events before after e) es [] []
road_events_away n before after e es =
    of_cond (λ (l : List Ev). Away n after.me l es [] []) (is_anew before after e && (ltb 0 (road_cost e before) && ltb 0 (road_cost e after)))
    (Road after.me e (road_cost e after) ∷ Road after.me e 0 ∷ []) (cond (eqb (road_cost e before) (road_cost e after)) [] (Road after.me e (road_cost e after) ∷ []))
    (λ _. away_join n after.me (Road after.me e 0 ∷ []) (Road after.me e (road_cost e after) ∷ []) es [] [] [] (away_road n after.me es e 0) (away_road n after.me (Road after.me e 0 ∷ es) e (road_cost e after)))
    (λ _. of_cond (λ (l : List Ev). Away n after.me l es [] []) (eqb (road_cost e before) (road_cost e after)) [] (Road after.me e (road_cost e after) ∷ [])
    (λ _. away_none n after.me es) (λ _. away_road n after.me es e (road_cost e after)))

-- the events of changed links
pub away_relinks : (n : ℕ) (before after : Links) (k : ℕ) (es : List Ev) → Away n after.me (relinks before after k) es [] []
unfolding relinks
away_relinks n before after zero es = away_none n after.me es
away_relinks n before after (suc k) es =
    away_join n after.me (relinks before after k) (road_events before after k) es [] [] [] (away_relinks n before after k es) (road_events_away n before after k (relinks before after k ++ es))
