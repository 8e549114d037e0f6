-- Along a road, in a round in which roads, boxes and words stay: the lowest word that wasn't shown isn't newer than what the neighbour has, and is shown in the end.
use Rattle.std.proofs.Common.{◌≡◌, ℕ, zero, suc, ◌<◌, ◌≤◌, Bool, true, false, not, ◌&&◌, ◌||◌, T, eqb, ltb, ◌⊎◌, List, [], ◌∷◌, ◌++◌, length, sym, refl, ap, ◌∙◌, subst, inl, inr, append_assoc, append-nil, arith, eqb-true, ltb-true, ltb-false, lt-ltb}
use Rattle.std.proofs.lemmas.Bool.{not_from_true}
use Rattle.std.proofs.lemmas.Bool.Decides.{nat_tests}
use Rattle.model.specs.Words.{Entry, newer, is_in}
use Rattle.model.specs.Code.{same_word}
use Rattle.model.specs.Box.{Box, tells}
use Rattle.model.proofs.Tests.{of_cond, cond-true}
use Rattle.linkmodel.proofs.Bools.{true_not_false, fails-left, fails-right}
use Rattle.linkmodel.specs.Station.{Station, Item, Sight, Shows, heard_seens, seens_for, items_of, takes_all}
use Rattle.linkmodel.specs.Calls.{none_stuck}
use Rattle.linkmodel.specs.Telling.{AllShown, how_many, is_untold}
use Rattle.linkmodel.proofs.Newer.{after}
use Rattle.linkmodel.proofs.Showing.{round_trip}
use Rattle.linkmodel.proofs.Starving.{pick_has}
use Rattle.netmodel.specs.Net.{Net, Move, Arrives, net, Start, counts_at}
use Rattle.netmodel.specs.Windows.{Brings, RoundTrip}
use Rattle.netmodel.proofs.Laws.{shown_means, placed}
use Rattle.netmodel.proofs.Moments.{Alike, alike_on, AllAlike, alike_early, alike_late, Counted}
use Rattle.netmodel.proofs.Packets.{packet_told}
use Rattle.netmodel.proofs.Arrivals.{words_came, words_count, seens_came}
use Rattle.netmodel.proofs.Showns.{same_self, shown_on}

-- a word that nobody said isn't newer than any
none_newer : (m t n u : ℕ) → m ≡ 0 → t ≡ 0 → after m t n u ≡ false
none_newer m t n u p q = grind (arith, nat_tests)

-- what isn't untold, though said, is shown
told_shown : (x y : Bool) → (x && not y) ≡ false → x ≡ true → y ≡ true
told_shown true true p q = refl
told_shown true false p q = true_not_false true refl p
told_shown false y p q = true_not_false false q refl

-- none below passes
none_below : (f : ℕ → Bool) (r : ℕ) → ((i : ℕ) → i < r → f i ≡ false) → how_many f r ≡ 0
unfolding how_many
none_below f zero h = refl
none_below f (suc r) h = of_cond (λ (y : ℕ). y ≡ 0) (f r) (suc (how_many f r)) (how_many f r) (λ z. true_not_false (f r) z (h r (omega arith))) (λ _. none_below f r (λ i l. h i (omega arith)))

-- what is told first: the lowest that wasn't shown
tells_lowest : (e r : ℕ) (b : Box) → r < b.n → is_untold e b r ≡ true → ((i : ℕ) → i < r → is_untold e b i ≡ false) → is_in r (tells e b) ≡ true
unfolding how_many
tells_lowest e r b l h k = pick_has b.n 4 (is_untold e b) 0 r (omega arith) (omega arith) h (omega (arith, none_below (is_untold e b) r k))

-- of what was told and is there just so, there are seens
not_none : {X : Type 0} (x : Sight) (l : List Sight) → x ∷ l ≡ [] → X
not_none x l e = let u : ◌≡◌ {A = ℕ} 0 1 = cc in absurd (omega arith)

seens_some : (i : ℕ) (is : List ℕ) (b c : Box) → is_in i is ≡ true → same_word (b.word i) (c.word i) ≡ true → seens_for (items_of is b) c ≡ [] → ⊥
unfolding is_in seens_for items_of
seens_some i [] b c h p e = true_not_false false h refl
seens_some i (j ∷ js) b c h p e = go (eqb j i) refl (λ k q. seens_some i js b c k p q)
  where
    x : Sight
    x = record { about = j; number = (b.word j).number; tag = (b.word j).tag }

    more : List Sight
    more = seens_for (items_of js b) c

    go : (y : Bool) → eqb j i ≡ y → (is_in i js ≡ true → more ≡ [] → ⊥) → ⊥
    go true z ih =
        let s : same_word (b.word j) (c.word j) ≡ true = subst (λ (k : ℕ). same_word (b.word k) (c.word k) ≡ true) (sym (eqb-true j i z)) p in
        not_none x more (subst (λ (l : List Sight). l ≡ []) (cond-true (same_word (b.word j) (c.word j)) (x ∷ more) more s) e)
    go false z ih = ih (subst (λ (y : Bool). (y || is_in i js) ≡ true) z h) (of_cond (λ (l : List Sight). l ≡ [] → more ≡ []) (same_word (b.word j) (c.word j)) (x ∷ more) more (λ _ q. not_none x more q) (λ _ q. q) e)

module _ (n : ℕ) (first : ℕ → ℕ) (st : Start n first) (rs ms : List Move) (k : AllAlike n first rs ms) (c : Counted n first (rs ++ ms)) (a e : ℕ) (la : a < n) (le : e < n)
    (pa : 0 < ((net n first ms).at a).box.cost e) (pe : 0 < ((net n first ms).at e).box.cost a) (known : ((net n first ms).at a).links.last e ≡ ((net n first ms).at e).links.drawn) where
  abbrev start : Net
  start = net n first ms

  abbrev Trip : Type 0
  Trip = RoundTrip n first a e rs ms

  -- the moments of a trip: when a tells, before that comes, and after
  abbrev tell_at : Trip → List Move
  tell_at t = t.before ++ ms

  abbrev come_at : Trip → List Move
  come_at t = t.between ++ (t.before ++ ms)

  abbrev came_at : Trip → List Move
  came_at t = Arrives t.which t.tags ∷ (t.between ++ (t.before ++ ms))

  alike_came : (t : Trip) → AllAlike n first (Arrives t.which t.tags ∷ (t.between ++ t.before)) ms
  alike_came t = alike_early n first t.later (Arrives t.which t.tags ∷ (t.between ++ t.before)) ms (subst (λ (l : List Move). AllAlike n first l ms) t.split k)

  came_like : (t : Trip) → Alike n start (net n first (came_at t))
  came_like t = subst (λ (l : List Move). Alike n start (net n first (Arrives t.which t.tags ∷ l))) (append_assoc t.between t.before ms) (alike_came t [] (Arrives t.which t.tags ∷ (t.between ++ t.before)) refl)

  come_like : (t : Trip) → Alike n start (net n first (come_at t))
  come_like t = subst (λ (l : List Move). Alike n start (net n first l)) (append_assoc t.between t.before ms) (alike_came t (Arrives t.which t.tags ∷ []) (t.between ++ t.before) refl)

  tell_like : (t : Trip) → Alike n start (net n first (tell_at t))
  tell_like t = alike_came t (Arrives t.which t.tags ∷ t.between) t.before refl

  later_like : (t : Trip) → AllAlike n first t.later (came_at t)
  later_like t = subst (λ (l : List Move). AllAlike n first t.later (Arrives t.which t.tags ∷ l)) (append_assoc t.between t.before ms)
      (alike_late n first t.later (Arrives t.which t.tags ∷ (t.between ++ t.before)) ms (subst (λ (l : List Move). AllAlike n first l ms) t.split k))

  all_split : (t : Trip) → rs ++ ms ≡ t.later ++ came_at t
  all_split t = ap (λ (l : List Move). l ++ ms) t.split ∙ (append_assoc t.later (Arrives t.which t.tags ∷ (t.between ++ t.before)) ms ∙ ap (λ (l : List Move). t.later ++ (Arrives t.which t.tags ∷ l)) (append_assoc t.between t.before ms))

  come_counts : (t : Trip) → T (counts_at (Arrives t.which t.tags) (net n first (come_at t)))
  come_counts t = c t.later (Arrives t.which t.tags) (come_at t) (all_split t)

  -- the boxes at those moments
  abbrev teller_box : Trip → Box
  teller_box t = ((net n first (tell_at t)).at a).box

  abbrev hearer : Trip → Station
  hearer t = (net n first (come_at t)).at e

  -- what is told isn't newer than what the neighbour has
  told_old : (t : Trip) (r : ℕ) → is_in r (tells e (teller_box t)) ≡ true → newer ((start.at a).box.word r) ((start.at e).box.word r) ≡ false
  told_old t r h =
      subst (λ (w : Entry). newer w ((start.at e).box.word r) ≡ false) ((tell_like t).words a r la)
      (subst (λ (w : Entry). newer ((teller_box t).word r) w ≡ false) ((came_like t).words e r le)
      (words_came (λ (s : Station). newer ((teller_box t).word r) (s.box.word r) ≡ false) n first (come_at t) t.which t.tags a e t.told t.reaches t.enough
      (all t.told.items t.tells_it t.enough (words_count (net n first (come_at t)) t.which t.tags a e t.told t.reaches (come_counts t)))))
    where
      fits : Bool
      fits = eqb t.told.drawn ((hearer t).links.last a)

      open' : 0 < (hearer t).box.cost a
      open' = subst (λ (z : ℕ). 0 < z) (sym ((come_like t).roads e a le la)) pe

      all : (l : List Item) → l ≡ items_of (tells e (teller_box t)) (teller_box t) → length l ≤ length t.tags → T (none_stuck fits a l t.tags (hearer t).box) →
          newer ((teller_box t).word r) ((takes_all fits a l t.tags (hearer t).box).word r) ≡ false
      all l q = subst (λ (l : List Item). length l ≤ length t.tags → T (none_stuck fits a l t.tags (hearer t).box) → newer ((teller_box t).word r) ((takes_all fits a l t.tags (hearer t).box).word r) ≡ false) (sym q)
          (λ u v. packet_told fits a r (teller_box t) (tells e (teller_box t)) t.tags (hearer t).box h open' u v)

  -- and where both have the same, it is shown when the answer has come
  told_seen : (t : Trip) (r : ℕ) → is_in r (tells e (teller_box t)) ≡ true → same_word ((start.at a).box.word r) ((start.at e).box.word r) ≡ true → ((net n first (rs ++ ms)).at a).box.shown e r ≡ true
  told_seen t r h q = go t.returns
    where
      came : Net
      came = net n first (came_at t)

      here : same_word ((teller_box t).word r) ((came.at e).box.word r) ≡ true
      here = subst (λ (w : Entry). same_word w ((came.at e).box.word r) ≡ true) (sym ((tell_like t).words a r la))
          (subst (λ (w : Entry). same_word ((start.at a).box.word r) w ≡ true) (sym ((came_like t).words e r le)) q)

      seens : List Sight
      seens = seens_for t.told.items (came.at e).box

      seens_are : seens ≡ seens_for (items_of (tells e (teller_box t)) (teller_box t)) (came.at e).box
      seens_are = ap (λ (l : List Item). seens_for l (came.at e).box) t.tells_it

      some : seens ≡ [] → ⊥
      some z = seens_some r (tells e (teller_box t)) (teller_box t) (came.at e).box h here (sym seens_are ∙ z)

      back : Brings n first e a (Shows (record { drawn = (came.at e).links.drawn; items = seens })) t.later (came_at t) → ((net n first (rs ++ ms)).at a).box.shown e r ≡ true
      back b = subst (λ (l : List Move). ((net n first l).at a).box.shown e r ≡ true) (sym splits) stays
        where
          at' : List Move
          at' = b.before ++ came_at t

          then : List Move
          then = Arrives b.which b.tags ∷ (b.before ++ came_at t)

          splits : rs ++ ms ≡ b.later ++ then
          splits = all_split t ∙ (ap (λ (l : List Move). l ++ came_at t) b.split ∙ append_assoc b.later (Arrives b.which b.tags ∷ b.before) (came_at t))

          in_later : AllAlike n first (b.later ++ (Arrives b.which b.tags ∷ b.before)) (came_at t)
          in_later = subst (λ (l : List Move). AllAlike n first l (came_at t)) b.split (later_like t)

          then_like : Alike n start (net n first then)
          then_like = alike_on n start came (net n first then) (came_like t) (in_later b.later (Arrives b.which b.tags ∷ b.before) refl)

          at_like : Alike n start (net n first at')
          at_like = alike_on n start came (net n first at') (came_like t) (in_later (b.later ++ (Arrives b.which b.tags ∷ [])) b.before (sym (append_assoc b.later (Arrives b.which b.tags ∷ []) b.before)))

          marked : ((net n first then).at a).box.shown e r ≡ true
          marked = seens_came (λ (s : Station). s.box.shown e r ≡ true) n first at' b.which b.tags e a (record { drawn = (came.at e).links.drawn; items = seens }) b.reaches
              (subst (λ (l : List Sight). (heard_seens e (record { drawn = (came.at e).links.drawn; items = l }) ((net n first at').at a)).box.shown e r ≡ true) (sym seens_are)
              (round_trip ((net n first (tell_at t)).at a) (came.at e) ((net n first at').at a) e r h here
              (subst (λ (w : Entry). same_word w (((net n first at').at a).box.word r) ≡ true) (sym ((tell_like t).words a r la))
              (subst (λ (w : Entry). same_word ((start.at a).box.word r) w ≡ true) (sym (at_like.words a r la)) (same_self ((start.at a).box.word r))))
              (subst (λ (z : ℕ). 0 < z) (sym (at_like.roads a e la le)) pa)
              (at_like.lasts a e la le ∙ (known ∙ sym ((came_like t).lives e le)))))

          stays : ((net n first (b.later ++ then)).at a).box.shown e r ≡ true
          stays = shown_on n first st b.later then (alike_late n first b.later (Arrives b.which b.tags ∷ b.before) (came_at t) in_later) a e r la le
              (subst (λ (z : ℕ). 0 < z) (sym (then_like.roads a e la le)) pa) marked

      go : (seens ≡ []) ⊎ Brings n first e a (Shows (record { drawn = (came.at e).links.drawn; items = seens })) t.later (came_at t) → ((net n first (rs ++ ms)).at a).box.shown e r ≡ true
      go (inl z) = absurd (some z)
      go (inr b) = back b

  -- all below r that a has is shown
  abbrev Below : ℕ → Type 0
  Below r = (i : ℕ) → i < r → 0 < ((start.at a).box.word i).number → (start.at a).box.shown e i ≡ true

  -- it is so when a tells, too
  still_below : (t : Trip) (r : ℕ) → Below r → (i : ℕ) → i < r → is_untold e (teller_box t) i ≡ false
  still_below t r h i l = go (ltb 0 ((teller_box t).word i).number) refl
    where
      go : (y : Bool) → ltb 0 ((teller_box t).word i).number ≡ y → is_untold e (teller_box t) i ≡ false
      go false z = fails-left (ltb 0 ((teller_box t).word i).number) (not ((teller_box t).shown e i)) z
      go true z = fails-right (ltb 0 ((teller_box t).word i).number) (not ((teller_box t).shown e i)) (not_from_true ((teller_box t).shown e i)
          (shown_on n first st t.before ms (alike_early n first (Arrives t.which t.tags ∷ t.between) t.before ms (alike_came t)) a e i la le pa
          (h i l (subst (λ (w : Entry). 0 < w.number) ((tell_like t).words a i la) (ltb-true 0 ((teller_box t).word i).number z)))))

  -- so r is told then, unless it is shown or there is nothing
  is_told : (t : Trip) (r : ℕ) → r < n → Below r → is_untold e (teller_box t) r ≡ true → is_in r (tells e (teller_box t)) ≡ true
  is_told t r l h q = tells_lowest e r (teller_box t) (subst (λ (m : ℕ). r < m) (sym (placed n first (tell_at t) a st).count) l) q (still_below t r h)

  -- what is shown at some moment isn't newer
  shown_old : (q : List Move) → Alike n start (net n first q) → (r : ℕ) → ((net n first q).at a).box.shown e r ≡ true → newer ((start.at a).box.word r) ((start.at e).box.word r) ≡ false
  shown_old q x r h =
      subst (λ (w : Entry). newer w ((start.at e).box.word r) ≡ false) (x.words a r la)
      (subst (λ (w : Entry). newer (((net n first q).at a).box.word r) w ≡ false) (x.words e r le)
      (shown_means n first q a e r la le h (x.lasts a e la le ∙ (known ∙ sym (x.lives e le)))))

  -- a's word of r isn't newer than e's
  pub old_word : (r : ℕ) → r < n → (((start.at a).box.word r).number ≡ 0 → ((start.at a).box.word r).tag ≡ 0) → Below r → AllShown e (start.at a).box ⊎ Trip → newer ((start.at a).box.word r) ((start.at e).box.word r) ≡ false
  old_word r l blank h d = some (ltb 0 ((start.at a).box.word r).number) refl
    where
      by_trip : (t : Trip) → 0 < ((start.at a).box.word r).number → (y : Bool) → is_untold e (teller_box t) r ≡ y → newer ((start.at a).box.word r) ((start.at e).box.word r) ≡ false
      by_trip t p true z = told_old t r (is_told t r l h z)
      by_trip t p false z = shown_old (tell_at t) (tell_like t) r (told_shown (ltb 0 ((teller_box t).word r).number) ((teller_box t).shown e r) z
          (lt-ltb 0 ((teller_box t).word r).number (subst (λ (w : Entry). 0 < w.number) (sym ((tell_like t).words a r la)) p)))

      either : 0 < ((start.at a).box.word r).number → AllShown e (start.at a).box ⊎ Trip → newer ((start.at a).box.word r) ((start.at e).box.word r) ≡ false
      either p (inl s) = shown_old ms (k rs [] (sym (append-nil rs))) r (s r (subst (λ (m : ℕ). r < m) (sym (placed n first ms a st).count) l) p)
      either p (inr t) = by_trip t p (is_untold e (teller_box t) r) refl

      some : (y : Bool) → ltb 0 ((start.at a).box.word r).number ≡ y → newer ((start.at a).box.word r) ((start.at e).box.word r) ≡ false
      some true z = either (ltb-true 0 ((start.at a).box.word r).number z) d
      some false z = let u : ((start.at a).box.word r).number ≡ 0 = omega (arith, ltb-false 0 ((start.at a).box.word r).number z) in
          none_newer ((start.at a).box.word r).number ((start.at a).box.word r).tag ((start.at e).box.word r).number ((start.at e).box.word r).tag u (blank u)

  -- and where both have the same, it is shown at the end of the round
  pub shown_then : (r : ℕ) → r < n → Below r → same_word ((start.at a).box.word r) ((start.at e).box.word r) ≡ true → 0 < ((start.at a).box.word r).number → AllShown e (start.at a).box ⊎ Trip →
      ((net n first (rs ++ ms)).at a).box.shown e r ≡ true
  shown_then r l h q p (inl s) = shown_on n first st rs ms k a e r la le pa (s r (subst (λ (m : ℕ). r < m) (sym (placed n first ms a st).count) l) p)
  shown_then r l h q p (inr t) = by_trip (is_untold e (teller_box t) r) refl
    where
      rest : List Move
      rest = t.later ++ (Arrives t.which t.tags ∷ t.between)

      splits : rs ≡ rest ++ t.before
      splits = t.split ∙ sym (append_assoc t.later (Arrives t.which t.tags ∷ t.between) t.before)

      by_trip : (y : Bool) → is_untold e (teller_box t) r ≡ y → ((net n first (rs ++ ms)).at a).box.shown e r ≡ true
      by_trip true z = told_seen t r (is_told t r l h z) q
      by_trip false z =
          subst (λ (m : List Move). ((net n first m).at a).box.shown e r ≡ true) (sym (ap (λ (m : List Move). m ++ ms) splits ∙ append_assoc rest t.before ms))
          (shown_on n first st rest (tell_at t) (alike_late n first rest t.before ms (subst (λ (m : List Move). AllAlike n first m ms) splits k)) a e r la le
          (subst (λ (z : ℕ). 0 < z) (sym ((tell_like t).roads a e la le)) pa)
          (told_shown (ltb 0 ((teller_box t).word r).number) ((teller_box t).shown e r) z (lt-ltb 0 ((teller_box t).word r).number (subst (λ (w : Entry). 0 < w.number) (sym ((tell_like t).words a r la)) p))))
