-- A packet of words that comes is the coming of each, and leaves the other boxes.
use Rattle.std.proofs.Common.{ℕ, ◌<◌, ◌≤◌, eqb, T, List, [], ◌∷◌, ◌++◌, length, take, sym, refl, ◌∙◌, subst, subst₂, length-take-le}
use Rattle.model.specs.Words.{Ev, Comes, world}
use Rattle.model.specs.Promise.{by_rule}
use Rattle.model.specs.Box.{Box}
use Rattle.model.specs.Boxes.{StandsAs}
use Rattle.model.proofs.Rows.{Like, like_of}
use Rattle.model.proofs.WordsByRule.{rule_join}
use Rattle.linkmodel.specs.Links.{road_cost}
use Rattle.linkmodel.specs.Station.{Station, Item, Bundle, with_box, told_word, takings, heard_words}
use Rattle.linkmodel.specs.Calls.{Joined, are_sent, none_stuck, all_fresh}
use Rattle.linkmodel.proofs.Takings.{words_so_lem}
use Rattle.netmodel.proofs.Others.{Away, away_none, away_join, away_more, away_comes}
use Rattle.netmodel.proofs.Tags.{none_in, in_first, in_second, fresh_few}
use Rattle.netmodel.proofs.Places.{takes_few, stuck_few}

-- whoever isn't box a is left by what comes to it
pub takings_away : (n a e : ℕ) (xs : List Item) (ks ts : List ℕ) (es : List Ev) → are_sent ks e a xs (world n es).flight → Away n a (takings ks ts) es [] ts
unfolding are_sent takings
takings_away n a e [] [] ts es h = away_more n a [] es [] [] ts (λ t q. none_in t ts q) (away_none n a es)
takings_away n a e [] (k ∷ ks) ts es h = absurd h
takings_away n a e (x ∷ xs) [] ts es h = absurd h
takings_away n a e (x ∷ xs) (k ∷ ks) [] es h = away_none n a es
takings_away n a e (x ∷ xs) (k ∷ ks) (t ∷ ts) es h =
    let p = away_comes n a es k t (told_word e a x) h.0 refl in
    away_join n a (Comes k t ∷ []) (takings ks ts) es [] [] (t ∷ ts) (away_more n a (Comes k t ∷ []) es [] (t ∷ []) (t ∷ ts) (λ u q. in_first u (t ∷ []) ts q) p)
    (away_more n a (takings ks ts) (Comes k t ∷ es) [] ts (t ∷ ts) (λ u q. in_second u (t ∷ []) ts q) (takings_away n a e xs ks ts (Comes k t ∷ es) (subst (are_sent ks e a xs) (sym p.flight) h.1)))

-- words that come are by rule
pub takings_rule : (n : ℕ) (ks ts : List ℕ) (es : List Ev) → T (by_rule n (takings ks ts) es)
unfolding by_rule takings
takings_rule n [] ts es = tt
takings_rule n (k ∷ ks) [] es = tt
takings_rule n (k ∷ ks) (t ∷ ts) es = rule_join n (takings ks ts) (Comes k t ∷ []) es (takings_rule n ks ts (Comes k t ∷ es)) tt

-- and leave the box as it should be
pub words_like : (n a : ℕ) (s : Station) (es : List Ev) (e : ℕ) (p : Bundle) (ks ts : List ℕ) → Joined s → StandsAs n a s.box es → 0 < road_cost e s.links → are_sent ks e a p.items (world n es).flight →
    length p.items ≤ length ts → T (all_fresh ts (world n es).drawn) → T (none_stuck (eqb p.drawn (s.links.last e)) e p.items ts s.box) →
    Joined (heard_words e p ts s) × Like n a (world n (takings ks (take (length p.items) ts) ++ es)) (heard_words e p ts s).box
words_like n a s es e p ks ts j (q, r, st) o h c f g =
    let fits = eqb p.drawn (s.links.last e) in
    let us : List ℕ = take (length p.items) ts in
    subst (λ (b : Box). Joined (with_box b s) × Like n a (world n (takings ks us ++ es)) b) (sym (takes_few fits e p.items ts s.box))
    (subst₂ (λ (m b : ℕ). are_sent ks e b p.items (world m es).flight → T (all_fresh us (world m es).drawn) → Joined (heard_words e p us s) × Like m b (world m (takings ks us ++ es)) (heard_words e p us s).box) q r here h
    (fresh_few (length p.items) ts (world n es).drawn f))
  where
    here : are_sent ks e s.box.me p.items (world s.box.n es).flight → T (all_fresh (take (length p.items) ts) (world s.box.n es).drawn) →
        Joined (heard_words e p (take (length p.items) ts) s) × Like s.box.n s.box.me (world s.box.n (takings ks (take (length p.items) ts) ++ es)) (heard_words e p (take (length p.items) ts) s).box
    here h f =
        let us : List ℕ = take (length p.items) ts in
        let w = words_so_lem s es e p ks us o h (length-take-le (length p.items) ts c) f (subst T (stuck_few (eqb p.drawn (s.links.last e)) e p.items ts s.box) g) j st in
        (w.0, like_of s.box.n s.box.me (heard_words e p us s).box (takings ks us ++ es) (sym w.0.count ∙ j.count, sym w.0.number ∙ j.number, w.1))
