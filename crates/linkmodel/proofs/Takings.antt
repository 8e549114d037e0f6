-- A packet of seens changes no word, and a packet of words is the coming of each.
use Rattle.std.proofs.Common.{◌≡◌, ℕ, zero, suc, ◌<◌, Bool, true, false, cond, not, ◌&&◌, ◌||◌, T, eqb, ltb, List, [], ◌∷◌, ◌++◌, length, sym, refl, subst, append_assoc, arith}
use Rattle.std.proofs.lemmas.Bool.Decides.{nat_tests}
use Rattle.model.specs.Words.{Entry, Word, World, Ev, Comes, newer, is_in, at2, own_entry, with_knows, told, comes, comes_nth, world}
use Rattle.model.specs.Code.{nth_is}
use Rattle.model.specs.Box.{Box, Stands, has, own_word, is_new_to, takes, sees}
use Rattle.model.proofs.Tests.{of_cond, cond-false, left_t, right_t, both_t}
use Rattle.model.proofs.Events.{of_nth}
use Rattle.model.proofs.Sizes.{world_n}
use Rattle.model.proofs.Rows.{Like, like_of, stands_of, like_sees, like_takes}
use Rattle.model.proofs.BoxCode.{one_comes}
use Rattle.linkmodel.specs.Station.{Station, Item, Sight, with_box, told_word, is_stuck, takes_item, marks_item, takes_all, takings, sees_all}
use Rattle.linkmodel.specs.Calls.{Joined, SeensSo, WordsSo, are_sent, none_stuck, all_fresh}

-- another box on the same wires, with the same roads
joined_sees : (s : Station) (e i c t : ℕ) (b : Box) → Joined (with_box b s) → Joined (with_box (sees e i c t b) s)
joined_sees s e i c t b j = record { sound = j.sound; count = j.count; number = j.number; roads = j.roads }

joined_has : (s : Station) (i : ℕ) (x : Entry) (b : Box) → Joined (with_box b s) → Joined (with_box (has i x b) s)
joined_has s i x b j = record { sound = j.sound; count = j.count; number = j.number; roads = j.roads }

-- seens
stands_sees : (e i c t : ℕ) (b : Box) (es : List Ev) → Stands b es → Stands (sees e i c t b) es
stands_sees e i c t b es st = record { is_one = st.is_one; real = st.real; knows = st.knows }

sees_all_so : (s : Station) (es : List Ev) (e : ℕ) (xs : List Sight) (b : Box) → Joined (with_box b s) → Stands b es → Joined (with_box (sees_all e xs b) s) × Stands (sees_all e xs b) es
unfolding sees_all
sees_all_so s es e [] b j st = (j, st)
sees_all_so s es e (x ∷ xs) b j st = sees_all_so s es e xs (sees e x.about x.number x.tag b) (joined_sees s e x.about x.number x.tag b j) (stands_sees e x.about x.number x.tag b es st)

pub seens_so_lem : SeensSo
seens_so_lem s es e p j st =
    of_cond (λ (b : Box). Joined (with_box b s) × Stands b es) (eqb p.drawn (s.links.last e)) (sees_all e p.items s.box) s.box
    (λ _. sees_all_so s es e p.items s.box j st) (λ _. (j, st))

-- what comes draws its tag or nothing, and sends nothing
comes_drawn : (Q : List ℕ → Type 0) (x : Word) (t : ℕ) (w : World) → Q w.drawn → Q (t ∷ w.drawn) → Q (comes x t w).drawn
comes_drawn Q x t w p q =
    of_cond (λ (u : World). Q u.drawn) (ltb 0 (w.real x.to x.from) && not (is_in t w.drawn)) (told x t w) w
    (λ _. of_cond (λ (u : World). Q u.drawn) (newer x.entry (w.knows x.to x.about))
    (cond (eqb x.to x.about) (with_knows (at2 x.to x.to (own_entry x.to x.entry.number t w) w.knows) (t ∷ []) w) (with_knows (at2 x.to x.about x.entry w.knows) [] w)) w
    (λ _. of_cond (λ (u : World). Q u.drawn) (eqb x.to x.about) (with_knows (at2 x.to x.to (own_entry x.to x.entry.number t w) w.knows) (t ∷ []) w) (with_knows (at2 x.to x.about x.entry w.knows) [] w)
    (λ _. q) (λ _. p))
    (λ _. p))
    (λ _. p)

nth_drawn : (Q : List ℕ → Type 0) (k t : ℕ) (xs : List Word) (w : World) → Q w.drawn → Q (t ∷ w.drawn) → Q (comes_nth k t xs w).drawn
unfolding comes_nth
nth_drawn Q k t [] w p q = p
nth_drawn Q zero t (x ∷ xs) w p q = comes_drawn Q x t w p q
nth_drawn Q (suc k) t (x ∷ xs) w p q = nth_drawn Q k t xs w p q

come_drawn : (Q : List ℕ → Type 0) (n k t : ℕ) (es : List Ev) → Q (world n es).drawn → Q (t ∷ (world n es).drawn) → Q (world n (Comes k t ∷ es)).drawn
unfolding world
come_drawn Q n k t es p q = nth_drawn Q k t (world n es).flight (world n es) p q

come_flight : (n k t : ℕ) (es : List Ev) → (world n (Comes k t ∷ es)).flight ≡ (world n es).flight
unfolding world
come_flight n k t es = of_nth (λ (u : World). u.flight ≡ (world n es).flight) k t (world n es).flight (world n es) refl (λ _ _. refl)

-- what is fresh is so after another tag was drawn
apart : (t u : ℕ) (b : Bool) → (eqb u t || b) ≡ false → eqb t u ≡ false
apart t u b h = grind (arith, nat_tests)

or_second : (b c : Bool) → (b || c) ≡ false → c ≡ false
or_second true c h = let z : ◌≡◌ {A = ℕ} 0 1 = cc in absurd (omega arith)
or_second false c h = h

fresh_more : (t : ℕ) (ts old : List ℕ) → is_in t ts ≡ false → T (all_fresh ts old) → T (all_fresh ts (t ∷ old))
unfolding all_fresh is_in
fresh_more t [] old f h = tt
fresh_more t (u ∷ us) old f h =
    let a : T (not (is_in u old)) = left_t (not (is_in u old)) (not (is_in u us) && all_fresh us old) h in
    let r : T (not (is_in u us) && all_fresh us old) = right_t (not (is_in u old)) (not (is_in u us) && all_fresh us old) h in
    both_t (not (eqb t u || is_in u old)) (not (is_in u us) && all_fresh us (t ∷ old))
    (subst (λ (c : Bool). T (not (c || is_in u old))) (sym (apart t u (is_in t us) f)) a)
    (both_t (not (is_in u us)) (all_fresh us (t ∷ old)) (left_t (not (is_in u us)) (all_fresh us old) r)
    (fresh_more t us old (or_second (eqb u t) (is_in t us) f) (right_t (not (is_in u us)) (all_fresh us old) r)))

not_t : (b : Bool) → T (not b) → b ≡ false
not_t true h = absurd h
not_t false h = refl

module _ (n a : ℕ) (l : a < n) (fits : Bool) (e : ℕ) where
  -- one word of a packet
  item_like : (x : Item) (k t : ℕ) (b : Box) (es : List Ev) → Like n a (world n es) b → nth_is k (told_word e a x) (world n es).flight → is_in t (world n es).drawn ≡ false → is_stuck (told_word e b.me x) b ≡ false →
      Like n a (world n (Comes k t ∷ es)) (marks_item fits e x (takes_item e x t b))
  item_like x k t b es i h f q =
      let w : Word = told_word e b.me x in
      let got : Like n a (world n (Comes k t ∷ es)) (takes w t b) =
      one_comes n a es k t w (takes w t b) (subst (λ (m : ℕ). nth_is k (told_word e m x) (world n es).flight) (sym i.self) h) (like_takes n a l (world n es) (world_n n es) b w t i.self f i) in
      let was : Like n a (world n (Comes k t ∷ es)) (takes_item e x t b) = subst (Like n a (world n (Comes k t ∷ es))) (sym (cond-false (is_stuck w b) b (takes w t b) q)) got in
      of_cond (Like n a (world n (Comes k t ∷ es))) fits (sees e x.about x.entry.number x.entry.tag (takes_item e x t b)) (takes_item e x t b)
      (λ _. like_sees n a l (world n (Comes k t ∷ es)) (world_n n (Comes k t ∷ es)) (takes_item e x t b) e x.about x.entry.number x.entry.tag was) (λ _. was)

  -- all words of a packet
  all_like : (xs : List Item) (ks ts : List ℕ) (b : Box) (es : List Ev) → Like n a (world n es) b → are_sent ks e a xs (world n es).flight → length ts ≡ length xs → T (all_fresh ts (world n es).drawn) → T (none_stuck fits e xs ts b) →
      Like n a (world n (takings ks ts ++ es)) (takes_all fits e xs ts b)
  unfolding takings takes_all are_sent none_stuck all_fresh
  all_like [] [] ts b es i h c f q = i
  all_like [] (k ∷ ks) ts b es i h c f q = absurd h
  all_like (x ∷ xs) [] ts b es i h c f q = absurd h
  all_like (x ∷ xs) (k ∷ ks) [] b es i h c f q = absurd (let z : ⊥ = omega arith in z)
  all_like (x ∷ xs) (k ∷ ks) (t ∷ ts) b es i h c f q =
      let d : List ℕ = (world n es).drawn in
      let b' : Box = marks_item fits e x (takes_item e x t b) in
      let new : is_in t d ≡ false = not_t (is_in t d) (left_t (not (is_in t d)) (not (is_in t ts) && all_fresh ts d) f) in
      let g : T (not (is_in t ts) && all_fresh ts d) = right_t (not (is_in t d)) (not (is_in t ts) && all_fresh ts d) f in
      let others : T (all_fresh ts d) = right_t (not (is_in t ts)) (all_fresh ts d) g in
      let once : is_in t ts ≡ false = not_t (is_in t ts) (left_t (not (is_in t ts)) (all_fresh ts d) g) in
      let free : is_stuck (told_word e b.me x) b ≡ false = not_t (is_stuck (told_word e b.me x) b) (left_t (not (is_stuck (told_word e b.me x) b)) (none_stuck fits e xs ts b') q) in
      subst (λ (es' : List Ev). Like n a (world n es') (takes_all fits e xs ts b')) (sym (append_assoc (takings ks ts) (Comes k t ∷ []) es))
      (all_like xs ks ts b' (Comes k t ∷ es) (item_like x k t b es i h.0 new free)
      (subst (are_sent ks e a xs) (sym (come_flight n k t es)) h.1) (omega arith)
      (come_drawn (λ (old : List ℕ). T (all_fresh ts old)) n k t es others (fresh_more t ts d once others))
      (right_t (not (is_stuck (told_word e b.me x) b)) (none_stuck fits e xs ts b') q))

-- a packet of words leaves the roads
joined_all : (s : Station) (fits : Bool) (e : ℕ) (xs : List Item) (ts : List ℕ) (b : Box) → Joined (with_box b s) → Joined (with_box (takes_all fits e xs ts b) s)
unfolding takes_all
joined_all s fits e [] ts b j = j
joined_all s fits e (x ∷ xs) [] b j = j
joined_all s fits e (x ∷ xs) (t ∷ ts) b j =
    let w : Word = told_word e b.me x in
    let new : Entry = cond (eqb b.me x.about) (own_word x.entry.number t b) x.entry in
    let k : Joined (with_box (takes_item e x t b) s) =
    of_cond (λ (y : Box). Joined (with_box y s)) (is_stuck w b) b (takes w t b) (λ _. j)
    (λ _. of_cond (λ (y : Box). Joined (with_box y s)) (is_new_to w b) (has x.about new b) b (λ _. joined_has s x.about new b j) (λ _. j)) in
    joined_all s fits e xs ts (marks_item fits e x (takes_item e x t b))
    (of_cond (λ (y : Box). Joined (with_box y s)) fits (sees e x.about x.entry.number x.entry.tag (takes_item e x t b)) (takes_item e x t b)
    (λ _. joined_sees s e x.about x.entry.number x.entry.tag (takes_item e x t b) k) (λ _. k))

pub words_so_lem : WordsSo
words_so_lem s es e p ks ts o h c f q j st =
    let fits : Bool = eqb p.drawn (s.links.last e) in (
      joined_all s fits e p.items ts s.box j,
      (stands_of s.box.n s.box.me (takes_all fits e p.items ts s.box) (takings ks ts ++ es) st.is_one
          (all_like s.box.n s.box.me st.is_one fits e p.items ks ts s.box es (like_of s.box.n s.box.me s.box es (refl, refl, st)) h c f q)).2,
    )
