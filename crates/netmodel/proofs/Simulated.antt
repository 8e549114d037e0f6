-- Every run of a net of whole boxes is a run of the model, and few words bring it to rest.
use Rattle.std.proofs.Common.{◌≡◌, ℕ, ◌<◌, T, List, [], ◌∷◌, ◌++◌, sym, refl, ap, ◌∙◌, subst, append_assoc, append-nil}
use Rattle.model.specs.Words.{Entry, World, Ev, is_in, world}
use Rattle.model.specs.Promise.{Even, Rest, by_rule}
use Rattle.model.proofs.Tests.{left_t, right_t}
use Rattle.model.proofs.Sizes.{world_n}
use Rattle.model.proofs.Rows.{like_of, stands_of}
use Rattle.model.proofs.WordsByRule.{rule_join}
use Rattle.model.proofs.Whole.{rest_near}
use Rattle.linkmodel.specs.Links.{lowest_to}
use Rattle.linkmodel.specs.Station.{station}
use Rattle.linkmodel.specs.Calls.{Joined}
use Rattle.linkmodel.proofs.Sounds.{sound_fresh}
use Rattle.netmodel.specs.Net.{Net, Move, net, begun, counts_at, all_counted}
use Rattle.netmodel.specs.Standing.{StandsFor, Stays, Simulates, SimulatesOn, RestIs, FewWords, world_in}
use Rattle.netmodel.proofs.Steps.{step_so}

-- a box that was just switched on
begun_joined : (n a d : ℕ) → Joined (station n a d)
unfolding lowest_to
begun_joined n a d = record { sound = sound_fresh n a d; count = refl; number = refl; roads = λ e. refl }

begun_stands : (n : ℕ) (first : ℕ → ℕ) → StandsFor n (begun n first) []
unfolding world is_in
begun_stands n first = record {
  joined = λ a l. begun_joined n a (first a);
  boxes = λ a l. stands_of n a ((begun n first).at a).box [] l (record { size = refl; self = refl; real = λ e. refl; knows = λ i. refl });
  flight = refl;
  tags = λ t h. h;
}

-- what is counted of a run is counted of its first move and of the rest
counted_parts : (n : ℕ) (first : ℕ → ℕ) (m : Move) (ms : List Move) → T (all_counted n first (m ∷ ms) []) → T (counts_at m (net n first ms)) × T (all_counted n first ms [])
unfolding all_counted
counted_parts n first m ms h = (
  subst (λ (l : List Move). T (counts_at m (net n first l))) (append-nil ms) (left_t (counts_at m (net n first (ms ++ []))) (all_counted n first ms []) h),
  right_t (counts_at m (net n first (ms ++ []))) (all_counted n first ms []) h,
)

-- move by move
pub simulates : Simulates
unfolding net
simulates n first [] start c = ([], begun_stands n first)
simulates n first (m ∷ ms) start c =
    let k = counted_parts n first m ms c in
    let p = simulates n first ms start k.1 in
    let s = step_so n first m ms p.0 start k.0 p.1 in
    (s.events ++ p.0, s.stands)

-- what stays since before stays over the last move
stays_over : (n : ℕ) (x y z : Net) → Stays n x y → Stays n x z → Stays n y z
stays_over n x y z p q = record {
  roads = λ a e l h. q.roads a e l h ∙ sym (p.roads a e l h);
  lasts = λ a e l h. q.lasts a e l h ∙ sym (p.lasts a e l h);
  lives = λ a l. q.lives a l ∙ sym (p.lives a l);
}

-- while all stays, by rule
pub simulates_on : SimulatesOn
unfolding by_rule
simulates_on n first [] ms es start c st k = ([], st, tt)
simulates_on n first (m ∷ rs) ms es start c st k =
    let o = counted_parts n first m (rs ++ ms) c in
    let p = simulates_on n first rs ms es start o.1 st (λ later before e. k (m ∷ later) before (ap (λ (l : List Move). m ∷ l) e)) in
    let s = step_so n first m (rs ++ ms) (p.0 ++ es) start o.0 p.1 in
    let kept : Stays n (net n first (rs ++ ms)) (net n first (m ∷ (rs ++ ms))) = stays_over n (net n first ms) (net n first (rs ++ ms)) (net n first (m ∷ (rs ++ ms))) (k (m ∷ []) rs refl) (k [] (m ∷ rs) refl) in
    (s.events ++ p.0, subst (StandsFor n (net n first (m ∷ (rs ++ ms)))) (sym (append_assoc s.events p.0 es)) s.stands, rule_join n s.events p.0 es (s.by_rule' kept) p.2)

-- two worlds of as many routers that have the same roads and know the same
record Alike (w v : World) : Type 0 where
  size : v.n ≡ w.n
  real : (a e : ℕ) → a < w.n → v.real a e ≡ w.real a e
  knows : (a i : ℕ) → a < w.n → v.knows a i ≡ w.knows a i

alike_back : (w v : World) → Alike w v → Alike v w
alike_back w v k = record {
  size = sym k.size;
  real = λ a e l. sym (k.real a e (subst (λ m. a < m) k.size l));
  knows = λ a i l. sym (k.knows a i (subst (λ m. a < m) k.size l));
}

even_alike : (w v : World) → Alike w v → Even w → Even v
even_alike w v k h a e la le o =
    let la' = subst (λ m. a < m) k.size la in
    let le' = subst (λ m. e < m) k.size le in
    subst (λ c. 0 < c) (sym (k.real e a le')) (h a e la' le' (subst (λ c. 0 < c) (k.real a e la') o))

rest_alike : (w v : World) → Alike w v → Rest w → Rest v
rest_alike w v k r = record {
  even = even_alike w v k r.even;
  own = λ a x la lx. ap (λ (y : Entry). y.road x) (k.knows a a (in_w a la)) ∙ (r.own a x (in_w a la) (in_w x lx) ∙ sym (k.real a x (in_w a la)));
  said = λ a e la le o q. subst (λ (y : Entry). 0 < y.number) (sym (k.knows a a (in_w a la))) (r.said a e (in_w a la) (in_w e le) (road_w a e la o) (road_w e a le q));
  alike = λ a e i la le li o q.
      let h = r.alike a e i (in_w a la) (in_w e le) (in_w i li) (road_w a e la o) (road_w e a le q) in (
        ap (λ (y : Entry). y.number) (k.knows a i (in_w a la)) ∙ (h.0 ∙ ap (λ (y : Entry). y.number) (sym (k.knows e i (in_w e le)))),
        ap (λ (y : Entry). y.tag) (k.knows a i (in_w a la)) ∙ (h.1 ∙ ap (λ (y : Entry). y.tag) (sym (k.knows e i (in_w e le)))),
      );
}
  where
    in_w : (a : ℕ) → a < v.n → a < w.n
    in_w a l = subst (λ m. a < m) k.size l

    road_w : (a e : ℕ) → a < v.n → 0 < v.real a e → 0 < w.real a e
    road_w a e l o = subst (λ c. 0 < c) (k.real a e (in_w a l)) o

-- a net that stands is alike the world after the events
stands_alike : (n : ℕ) (x : Net) (es : List Ev) → StandsFor n x es → Alike (world_in n x) (world n es)
stands_alike n x es st = record {
  size = world_n n es;
  real = λ a e l. (like_of n a (x.at a).box es (st.boxes a l)).real e;
  knows = λ a i l. (like_of n a (x.at a).box es (st.boxes a l)).knows i;
}

-- so rest there is rest here, and back
pub rest_is : RestIs
rest_is n x es st =
    let k = stands_alike n x es st in
    let b = alike_back (world_in n x) (world n es) k in
    ((rest_alike (world_in n x) (world n es) k, rest_alike (world n es) (world_in n x) b), (even_alike (world_in n x) (world n es) k, even_alike (world n es) (world_in n x) b))

-- and few words bring it
pub few_words : FewWords
few_words n first ms start c even =
    let p = simulates n first ms start c in
    let r = rest_near n p.0 ((rest_is n (net n first ms) p.0 p.1).1.0 even) in
    (p.0, p.1, (r.0, r.1, r.2, r.3))
