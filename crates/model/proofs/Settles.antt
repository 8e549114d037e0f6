-- A run by rule, cut into fair stretches, comes to rest: a stretch in which nothing is new begins and ends at rest, and only so many acts are new.
use Rattle.std.proofs.Common.{◌≡◌, ℕ, zero, suc, ◌+◌, ◌<◌, ◌≤◌, Bool, true, false, cond, T, ◌⊎◌, List, [], ◌∷◌, ◌++◌, sym, refl, ap, ◌∙◌, subst, inl, inr, arith}
use Rattle.model.specs.Words.{is_in}
use Rattle.model.specs.Flood.{Item, fresher, Copy, Setup, Net, Act, Speaks, Gets, act, net}
use Rattle.model.specs.Spread.{owes, Settled, settled, by_rule_for, is_news, news_nth, is_new, news, most_news, copy_is, SpeaksIn, BroughtIn, FairFor, StretchFor, StretchesFor, joined, restless, between, SettlesFor, SettlesAtLastFor}
use Rattle.model.proofs.Tests.{true_not_false, none_fails}
use Rattle.model.proofs.Fresh.{fresher_upto}
use Rattle.model.proofs.OneAct.{Keeps, keeps_self, keeps_trans, Effect, Stays, Takes, Answers, Says, effect, copy_new, saying_new, keeps}
use Rattle.model.proofs.ByRule.{rule_last, rule_join, rule_before, news_join}
use Rattle.model.proofs.Quiet.{quiet_for_lem, settled_test_lem}
use Rattle.model.proofs.Ends.{ends_for_lem}
use Rattle.model.proofs.Owing.{owes_same}
use Rattle.model.proofs.AtLast.{at_last, between_join}
use Rattle.model.proofs.Counts.{fails_le}

-- of subject i all have what they had, and links, speakers and what they would say are as they were
record Calm {P : Type 0} (i : ℕ) (w v : Net P) : Type 0 where
  kept : Keeps w v
  held : (a : ℕ) → v.holds a i ≡ w.holds a i

calm_effect : {P : Type 0} (s : Setup P) (i : ℕ) (w v : Net P) (new : Bool) → Effect s i w v new → new ≡ false → (a : ℕ) → v.holds a i ≡ w.holds a i
calm_effect s i w v new (Stays e h) f = h
calm_effect s i w v new (Takes x e c m p) f = true_not_false new e f
calm_effect s i w v new (Answers x y e c m d p) f = true_not_false new e f
calm_effect s i w v new (Says a y e l o d p) f = true_not_false new e f

-- while nothing is new nothing changes
calm : {P : Type 0} (s : Setup P) (i : ℕ) (fs es : List (Act P)) → T (by_rule_for s i fs es) → news s i fs es ≡ 0 → Calm i (net s es) (net s (fs ++ es))
unfolding net news
calm s i [] es r e = record { kept = keeps_self (net s es); held = λ a. refl }
calm {P} s i (f ∷ fs) es r e = go (calm s i fs es (rule_last s i f fs es r).1 (omega arith))
  where
    w : Net P
    w = net s (fs ++ es)

    go : Calm i (net s es) w → Calm i (net s es) (act s f w)
    go c = record {
      kept = keeps_trans c.kept (keeps s i f w (rule_last s i f fs es r).0);
      held = λ a. calm_effect s i w (act s f w) (is_new s i f w) (effect s i f w (rule_last s i f fs es r).0) (none_fails (is_new s i f w) (omega arith)) a ∙ c.held a;
    }

calm_owes : {P : Type 0} (s : Setup P) (i : ℕ) (w v : Net P) → Calm i w v → (a : ℕ) → owes s v a i ≡ owes s w a i
calm_owes s i w v c a = owes_same s w v a i c.kept.same_speaks c.kept.same_would (c.held a)

-- rest stays where nothing changes
calm_settled : {P : Type 0} (s : Setup P) (i : ℕ) (w v : Net P) → Calm i w v → Settled s w i → Settled s v i
calm_settled {P} s i w v c r = record {
  own = λ a m. calm_owes s i w v c a ∙ r.own a m;
  alike = λ a e m n p q. (
    ap (λ (x : Item P). x.number) (c.held a) ∙ (r.alike a e m n (link a e p) (link e a q)).0 ∙ ap (λ (x : Item P). x.number) (sym (c.held e)),
    ap (λ (x : Item P). x.tag) (c.held a) ∙ (r.alike a e m n (link a e p) (link e a q)).1 ∙ ap (λ (x : Item P). x.tag) (sym (c.held e)),
  );
}
  where
    link : (a e : ℕ) → v.link a e ≡ true → w.link a e ≡ true
    link a e p = sym (ap (λ f. f a e) c.kept.same_link) ∙ p

-- where nothing is new, no act was, and nothing was before it
nothing_new : {P : Type 0} (s : Setup P) (i : ℕ) (later before es : List (Act P)) (f : Act P) → news s i (later ++ (f ∷ before)) es ≡ 0 → (news s i before es ≡ 0) × (is_new s i f (net s (before ++ es)) ≡ false)
unfolding news
nothing_new s i later before es f e =
    let j : news s i (later ++ (f ∷ before)) es ≡ news s i later ((f ∷ before) ++ es) + (news s i before es + cond (is_new s i f (net s (before ++ es))) 1 0) = news_join s i later (f ∷ before) es in
    (omega arith, none_fails (is_new s i f (net s (before ++ es))) (omega arith))

-- the act that comes at a place in a run in which nothing is new: what was so at the beginning is so there
module _ {P : Type 0} (s : Setup P) (i : ℕ) (later before es : List (Act P)) (f : Act P) (r : T (by_rule_for s i (later ++ (f ∷ before)) es)) (e : news s i (later ++ (f ∷ before)) es ≡ 0) where
  till : Calm i (net s es) (net s (before ++ es))
  till = calm s i before es (rule_last s i f before es (rule_before s i later (f ∷ before) es r)).1 (nothing_new s i later before es f e).0

-- who owed and says, says something new
said_new : {P : Type 0} (s : Setup P) (a i : ℕ) (later before es : List (Act P)) (t : ℕ) → T (by_rule_for s i (later ++ (Speaks a i t ∷ before)) es) → news s i (later ++ (Speaks a i t ∷ before)) es ≡ 0 →
    is_in t (net s (before ++ es)).drawn ≡ false → a < s.boxes → i < s.subjects → owes s (net s es) a i ≡ true → ⊥
said_new {P} s a i later before es t r e d m k o =
    true_not_false (is_new s i (Speaks a i t) w)
    (saying_new s a i t w m k d (calm_owes s i (net s es) w (till s i later before es (Speaks a i t) r e) a ∙ o))
    (nothing_new s i later before es (Speaks a i t) e).1
  where
    w : Net P
    w = net s (before ++ es)

news_at : {P : Type 0} (w : Net P) (i k t : ℕ) (x : Copy P) (xs : List (Copy P)) → copy_is k x xs → news_nth w i k t xs ≡ is_news w i t x
unfolding news_nth copy_is
news_at w i k t x [] h = absurd h
news_at w i zero t x (y ∷ ys) h = ap (λ c. is_news w i t c) (sym h)
news_at w i (suc k) t x (y ∷ ys) h = news_at w i k t x ys h

-- what was new to a neighbour and is brought, or something that isn't older, is new to it
brought_new : {P : Type 0} (s : Setup P) (i : ℕ) (later before es : List (Act P)) (k t : ℕ) (x : Copy P) → T (by_rule_for s i (later ++ (Gets k t ∷ before)) es) → news s i (later ++ (Gets k t ∷ before)) es ≡ 0 →
    is_in t (net s (before ++ es)).drawn ≡ false → copy_is k x (net s (before ++ es)).flight → x.about ≡ i → (net s es).link x.to x.from ≡ true →
    fresher ((net s es).holds x.from i) x.item ≡ false → fresher ((net s es).holds x.from i) ((net s es).holds x.to i) ≡ true → ⊥
brought_new {P} s i later before es k t x r e d h ab l u v =
    true_not_false (is_new s i (Gets k t) w)
    (news_at w i k t x w.flight h ∙ copy_new w i t x ab (ap (λ f. f x.to x.from) c.kept.same_link ∙ l) d new)
    (nothing_new s i later before es (Gets k t) e).1
  where
    w : Net P
    w = net s (before ++ es)

    c : Calm i (net s es) w
    c = till s i later before es (Gets k t) r e

    new : fresher x.item (w.holds x.to x.about) ≡ true
    new = subst (λ (y : Item P). fresher x.item y ≡ true) (sym (ap (λ j. w.holds x.to j) ab ∙ c.held x.to)) (fresher_upto ((net s es).holds x.from i) x.item ((net s es).holds x.to i) v u)

-- a fair stretch in which nothing is new begins at rest
pub rest_before : {P : Type 0} (s : Setup P) (i : ℕ) (fs es : List (Act P)) → i < s.subjects → StretchFor s i fs es → news s i fs es ≡ 0 → Settled s (net s es) i
rest_before {P} s i fs es k st e = go st.1
  where
    w : Net P
    w = net s es

    go : (0 < news s i fs es) ⊎ FairFor s i fs es → Settled s w i
    go (inl h) = absurd (omega arith)
    go (inr fair) = quiet_for_lem P s w i (λ a b m n p q. same a b m n p q (fresher (w.holds a i) (w.holds b i)) refl) (λ a m. mute a m (owes s w a i) refl)
      where
        mute : (a : ℕ) → a < s.boxes → (c : Bool) → owes s w a i ≡ c → c ≡ false
        mute a m true o =
            let q : SpeaksIn s a i fs es = fair.says a m o in
            absurd (said_new s a i q.later q.before es q.tag (subst (λ l. T (by_rule_for s i l es)) q.split st.0) (subst (λ l. news s i l es ≡ 0) q.split e) q.drawn_once m k o)
        mute a m false o = refl

        same : (a b : ℕ) → a < s.boxes → b < s.boxes → w.link a b ≡ true → w.link b a ≡ true → (c : Bool) → fresher (w.holds a i) (w.holds b i) ≡ c → c ≡ false
        same a b m n p q true f =
            let z : BroughtIn s a b i fs es = fair.brings a b m n p q f in
            absurd (brought_new s i z.later z.before es z.which z.tag z.copy (subst (λ l. T (by_rule_for s i l es)) z.split st.0) (subst (λ l. news s i l es ≡ 0) z.split e) z.drawn_once z.there z.is_about
            (ap (λ u. w.link u z.copy.from) z.is_to ∙ ap (λ u. w.link b u) z.is_from ∙ q)
            (ap (λ u. fresher (w.holds u i) z.copy.item) z.is_from ∙ z.not_older)
            (ap (λ u. fresher (w.holds u i) (w.holds z.copy.to i)) z.is_from ∙ ap (λ u. fresher (w.holds a i) (w.holds u i)) z.is_to ∙ f))
        same a b m n p q false f = refl

-- and ends at rest
pub rest_after : {P : Type 0} (s : Setup P) (i : ℕ) (fs es : List (Act P)) → i < s.subjects → StretchFor s i fs es → news s i fs es ≡ 0 → Settled s (net s (fs ++ es)) i
rest_after s i fs es k st e = calm_settled s i (net s es) (net s (fs ++ es)) (calm s i fs es st.0 e) (rest_before s i fs es k st e)

joined_rule : {P : Type 0} (s : Setup P) (i : ℕ) (fss : List (List (Act P))) (es : List (Act P)) → StretchesFor s i fss es → T (by_rule_for s i (joined fss) es)
unfolding joined StretchesFor by_rule_for
joined_rule s i [] es h = tt
joined_rule s i (fs ∷ fss) es h = rule_join s i fs (joined fss) es h.0.0 (joined_rule s i fss es h.1)

-- each stretch that doesn't end at rest has something new
restless_news : {P : Type 0} (s : Setup P) (i : ℕ) (fss : List (List (Act P))) (es : List (Act P)) → i < s.subjects → StretchesFor s i fss es → restless s i fss es ≤ news s i (joined fss) es
unfolding joined StretchesFor restless
restless_news s i [] es k h = omega arith
restless_news {P} s i (fs ∷ fss) es k h =
    let r : restless s i fss es ≤ news s i (joined fss) es = restless_news s i fss es k h.1 in
    let j : news s i (fs ++ joined fss) es ≡ news s i fs (joined fss ++ es) + news s i (joined fss) es = news_join s i fs (joined fss) es in
    let o : cond (settled s w i) 0 1 ≤ news s i fs (joined fss ++ es) = fails_le (settled s w i) (news s i fs (joined fss ++ es)) (λ e. (settled_test_lem P s w i).1 (rest_after s i fs (joined fss ++ es) k h.0 e)) in
    omega arith
  where
    w : Net P
    w = net s (fs ++ (joined fss ++ es))

pub settles_for_lem : (P : Type 0) → SettlesFor P
settles_for_lem P s i es fss k even lone h =
    let a : restless s i fss es ≤ news s i (joined fss) es = restless_news s i fss es k h in
    let b : news s i (joined fss) es ≤ most_news s i es = ends_for_lem P s i es (joined fss) lone (joined_rule s i fss es h) in
    omega arith

pub settles_at_last_for_lem : (P : Type 0) → SettlesAtLastFor P
settles_at_last_for_lem P s i es run k even lone fair rule never =
    at_last so_far (most_news s i es) (λ n. Settled s (net s (between run 0 n ++ es)) i) (λ n. ends_for_lem P s i es (between run 0 n) lone (rule n)) (λ n m. let a = then n m in omega arith)
    (λ n. ((fair n).0, λ e. rest_before s i (between run n (fair n).0) (between run 0 n ++ es) k (fair n).1 (let a = then n (fair n).0 in omega arith))) never
  where
    so_far : ℕ → ℕ
    so_far n = news s i (between run 0 n) es

    then : (n m : ℕ) → so_far (n + m) ≡ news s i (between run n m) (between run 0 n ++ es) + so_far n
    then n m = ap (λ l. news s i l es) (between_join run n m) ∙ news_join s i (between run n m) (between run 0 n) es
