-- The calls of a box are the code that is asked for, and what must be shown is shown.
use Rattle.std.proofs.Common.{◌≡◌, ℕ, suc, ◌<◌, Bool, true, false, not, ◌&&◌, ◌||◌, T, eqb, ltb, List, [], ◌∷◌, sym, refl, ap, ◌∙◌, subst, ap₂, subst₂}
use mathlib.Core.Path.{fun_ext}
use Rattle.std.proofs.lemmas.Bool.{lt-ltb, and_from, cond-true}
use Rattle.model.specs.Map.{Map, hop}
use Rattle.model.specs.Words.{Entry, Word, World, Ev, Road, Says, Sends, Comes, Falls, is_in, comes, sends, step, world}
use Rattle.model.specs.Forward.{cost_by, map_of}
use Rattle.model.specs.Promise.{all_below, own_true}
use Rattle.model.specs.Code.{nth_is, pick, same_word}
use Rattle.model.specs.Box.{Box, begun, is_open, road_is, own_word, says_now, sees, hears, forgets, word_for, hop_in, must_say, tells}
use Rattle.model.specs.CodeOf.{CodeOf, Shows}
use Rattle.model.specs.Boxes.{StandsAs, BoxIsCode}
use Rattle.model.proofs.Sizes.{world_n}
use Rattle.model.proofs.Rows.{Like, like_of, stands_of, nth_comes, like_road, like_says, like_sends, like_falls, like_others, like_else, like_sees, like_hears}
use Rattle.model.proofs.Marks.{same_self, opens_blank, road_mark, road_keeps, has_mark, has_keeps, sees_mark, sees_shows, sees_keeps, hears_mark, hears_shows, hears_keeps}
use Rattle.model.proofs.Tests.{true_t}

-- the answers of a box that is like a router are the router's
pub like_hands : (n a : ℕ) (w : World) (s : Box) (d : ℕ) → w.n ≡ n → Like n a w s → hop_in d s ≡ hop (map_of w a) d a
like_hands n a w s d m k =
    ap₂ (λ (z : Map) (b : ℕ). hop z d b) (ap₂ {C = Map} (λ (i : ℕ) (g : ℕ → Entry). record { n = i; cost = cost_by g }) (k.size ∙ sym m) (sym (fun_ext k.knows))) k.self

-- whether a word is so, from what it rests on
abbrev so_for : ℕ → (ℕ → ℕ) → Entry → Bool
so_for n cost x = all_below n (λ e. eqb (x.road e) (cost e) && (eqb (cost e) 0 || ltb 0 x.number))

pub like_owes : (n a : ℕ) (w : World) (s : Box) → w.n ≡ n → Like n a w s → must_say s ≡ not (own_true a w)
like_owes n a w s m k =
    ap not (ap₂ (λ (i : ℕ) (c : ℕ → ℕ). so_for i c (s.word s.me)) (k.size ∙ sym m) (sym (fun_ext k.real))
    ∙ ap (λ (x : Entry). so_for w.n (w.real a) x) (ap s.word k.self ∙ sym (k.knows a)))

pub like_open : (n a : ℕ) (w : World) (s : Box) (e : ℕ) → Like n a w s → is_open e s ≡ ltb 0 (w.real a e)
like_open n a w s e k = ap (λ c. ltb 0 c) (sym (k.real e))

like_tells : (n a : ℕ) (w : World) (s : Box) (e : ℕ) → Like n a w s → tells e s ≡ pick n 4 (λ i. ltb 0 (w.knows a i).number && not (s.shown e i)) 0
like_tells n a w s e k = ap₂ (λ (m : ℕ) (g : ℕ → Entry). pick m 4 (λ i. ltb 0 (g i).number && not (s.shown e i)) 0) k.size (sym (fun_ext k.knows))

-- one event more
pub one_more : (n a : ℕ) (es : List Ev) (e : Ev) (s : Box) → Like n a (step e (world n es)) s → Like n a (world n (e ∷ es)) s
unfolding world
one_more n a es e s k = k

-- a word more that comes
pub one_comes : (n a : ℕ) (es : List Ev) (i t : ℕ) (x : Word) (s : Box) → nth_is i x (world n es).flight → Like n a (comes x t (world n es)) s → Like n a (world n (Comes i t ∷ es)) s
one_comes n a es i t x s h k = one_more n a es (Comes i t) s (subst (λ (u : World). Like n a u s) (sym (nth_comes i t x (world n es).flight (world n es) h)) k)

-- what is sent over an open road is on its way
pub sent_on : (n a : ℕ) (w : World) (s : Box) (e i : ℕ) → w.n ≡ n → a < n → e < n → i < n → Like n a w s → 0 < w.real a e → (step (Sends a e i) w).flight ≡ word_for e i s ∷ w.flight
sent_on n a w s e i m l le li k o =
    let test : (ltb a w.n && (ltb e w.n && (ltb i w.n && ltb 0 (w.real a e)))) ≡ true =
    and_from (ltb a w.n) (ltb e w.n && (ltb i w.n && ltb 0 (w.real a e))) (lt-ltb a w.n (subst (λ j. a < j) (sym m) l))
    (and_from (ltb e w.n) (ltb i w.n && ltb 0 (w.real a e)) (lt-ltb e w.n (subst (λ j. e < j) (sym m) le))
    (and_from (ltb i w.n) (ltb 0 (w.real a e)) (lt-ltb i w.n (subst (λ j. i < j) (sym m) li)) (lt-ltb 0 (w.real a e) o))) in
    ap (λ (u : World). u.flight) (cond-true (ltb a w.n && (ltb e w.n && (ltb i w.n && ltb 0 (w.real a e)))) (sends a e i w) w test)
    ∙ ap₂ {C = List Word} (λ (b : ℕ) (y : Entry). record { from = b; to = e; about = i; entry = y } ∷ w.flight) (sym k.self) (k.knows i)

module _ (n a : ℕ) (l : a < n) where
  -- what stands is like the router, and what is like it after one event more stands
  like : (s : Box) (es : List Ev) → StandsAs n a s es → Like n a (world n es) s
  like s es st = like_of n a s es st

  more : (es : List Ev) (e : Ev) (s : Box) → Like n a (step e (world n es)) s → StandsAs n a s (e ∷ es)
  more es e s k = stands_of n a s (e ∷ es) l (one_more n a es e s k)

  begun_stands : StandsAs n a (begun n a) []
  unfolding world
  begun_stands = stands_of n a (begun n a) [] l (record { size = refl; self = refl; real = λ e. refl; knows = λ i. refl })

  road_stands : (s : Box) (es : List Ev) (e c : ℕ) → StandsAs n a s es → StandsAs n a (road_is e c s) (Road a e c ∷ es)
  road_stands s es e c st = more es (Road a e c) (road_is e c s) (like_road n a l (world n es) (world_n n es) s e c (like s es st))

  says_like : (s : Box) (es : List Ev) (t : ℕ) → StandsAs n a s es → is_in t (world n es).drawn ≡ false → Like n a (world n (Says a t ∷ es)) (says_now t s)
  says_like s es t st f = one_more n a es (Says a t) (says_now t s) (like_says n a l (world n es) (world_n n es) s t f (like s es st))

  sends_stands : (s : Box) (es : List Ev) (e i : ℕ) → e < n → i < n → StandsAs n a s es → StandsAs n a s (Sends a e i ∷ es) × (0 < (world n es).real a e → (world n (Sends a e i ∷ es)).flight ≡ word_for e i s ∷ (world n es).flight)
  unfolding world
  sends_stands s es e i le li st = (more es (Sends a e i) s (like_sends n a l (world n es) (world_n n es) s a e i (like s es st)), λ o. sent_on n a (world n es) s e i (world_n n es) l le li (like s es st) o)

  hears_like : (s : Box) (es : List Ev) (i t : ℕ) (x : Word) → StandsAs n a s es → nth_is i x (world n es).flight → x.to ≡ a → is_in t (world n es).drawn ≡ false → Like n a (world n (Comes i t ∷ es)) (hears x t s)
  hears_like s es i t x st h here f = one_comes n a es i t x (hears x t s) h (like_hears n a l (world n es) (world_n n es) s x t here f (like s es st))

  hears_else : (s : Box) (es : List Ev) (i t : ℕ) (x : Word) → StandsAs n a s es → nth_is i x (world n es).flight → (x.to ≡ a → ⊥) → StandsAs n a s (Comes i t ∷ es)
  hears_else s es i t x st h there = stands_of n a s (Comes i t ∷ es) l (one_comes n a es i t x s h (like_else n a l (world n es) (world_n n es) s x t there (like s es st)))

  says_marks : (s : Box) (es : List Ev) (e i t : ℕ) → StandsAs n a s es → is_in t (world n es).drawn ≡ false → (says_now t s).shown e i ≡ true → T (s.shown e i && same_word ((world n (Says a t ∷ es)).knows a i) ((world n es).knows a i))
  says_marks s es e i t st f h =
      let p = has_mark s s.me (record { number = suc (s.word s.me).number; tag = t; road = s.cost }) e i h in
      let same : (world n (Says a t ∷ es)).knows a i ≡ (world n es).knows a i = (says_like s es t st f).knows i ∙ (p.1 ∙ sym ((like s es st).knows i)) in
      true_t (s.shown e i && same_word ((world n (Says a t ∷ es)).knows a i) ((world n es).knows a i))
      (and_from (s.shown e i) (same_word ((world n (Says a t ∷ es)).knows a i) ((world n es).knows a i)) p.0
      (ap (λ (y : Entry). same_word y ((world n es).knows a i)) same ∙ same_self ((world n es).knows a i)))

  hears_marks : (s : Box) (es : List Ev) (j t : ℕ) (x : Word) (e i : ℕ) → StandsAs n a s es → nth_is j x (world n es).flight → x.to ≡ a → is_in t (world n es).drawn ≡ false → (hears x t s).shown e i ≡ true →
      T ((s.shown e i && same_word ((world n (Comes j t ∷ es)).knows a i) ((world n es).knows a i)) || (eqb x.from e && (eqb x.about i && same_word x.entry ((world n (Comes j t ∷ es)).knows a i))))
  hears_marks s es j t x e i st h here f g =
      true_t ((s.shown e i && same_word ((world n (Comes j t ∷ es)).knows a i) ((world n es).knows a i)) || (eqb x.from e && (eqb x.about i && same_word x.entry ((world n (Comes j t ∷ es)).knows a i))))
      (ap₂ (λ (y z : Entry). (s.shown e i && same_word y z) || (eqb x.from e && (eqb x.about i && same_word x.entry y))) ((hears_like s es j t x st h here f).knows i) ((like s es st).knows i)
      ∙ hears_mark s x t e i g)

  sees_marks : (s : Box) (es : List Ev) (k j c t e i : ℕ) → StandsAs n a s es → (sees k j c t s).shown e i ≡ true → T (s.shown e i || (eqb k e && (eqb j i && (eqb c ((world n es).knows a i).number && eqb t ((world n es).knows a i).tag))))
  sees_marks s es k j c t e i st h =
      true_t (s.shown e i || (eqb k e && (eqb j i && (eqb c ((world n es).knows a i).number && eqb t ((world n es).knows a i).tag))))
      (ap (λ (y : Entry). s.shown e i || (eqb k e && (eqb j i && (eqb c y.number && eqb t y.tag)))) ((like s es st).knows i) ∙ sees_mark s k j c t e i h)

-- the calls, as code
abbrev box_code : (n a : ℕ) → a < n → CodeOf n a Box (StandsAs n a)
box_code n a l = record {
  begin = begun n a;
  road = road_is;
  says = says_now;
  word = word_for;
  hears = hears;
  falls = forgets;
  hands_on = hop_in;
  begins = begun_stands n a l;
  road_so = road_stands n a l;
  says_so = λ s es t st f. stands_of n a (says_now t s) (Says a t ∷ es) l (says_like n a l s es t st f);
  sends_so = sends_stands n a l;
  hears_so = λ s es i t x st h here f. stands_of n a (hears x t s) (Comes i t ∷ es) l (hears_like n a l s es i t x st h here f);
  hears_not = hears_else n a l;
  falls_so = λ s es st. more n a l es (Falls a) (forgets s) (like_falls n a l (world n es) (world_n n es) s (like n a l s es st));
  others = λ s es e st f h. more n a l es e s (like_others n a l (world n es) (world_n n es) s e f h (like n a l s es st));
  hands_on_so = λ s es d st ld. like_hands n a (world n es) s d (world_n n es) (like n a l s es st);
  owes = must_say;
  owes_so = λ s es st. like_owes n a (world n es) s (world_n n es) (like n a l s es st);
  open' = is_open;
  open_so = λ s es e st le. like_open n a (world n es) s e (like n a l s es st);
  shown = λ e i s. s.shown e i;
  tells = tells;
  tells_so = λ s es e st le o. like_tells n a (world n es) s e (like n a l s es st);
  seen = sees;
  seen_so = λ s es e i c t st. stands_of n a (sees e i c t s) es l (like_sees n a l (world n es) (world_n n es) s e i c t (like n a l s es st));
  shown_opens = opens_blank;
  shown_road = road_mark;
  shown_falls = λ s e i. refl;
  shown_says = says_marks n a l;
  shown_hears = hears_marks n a l;
  shown_seen = sees_marks n a l;
}

-- what must be shown
box_shows : (n a : ℕ) (l : a < n) → Shows Box (StandsAs n a) n a (box_code n a l)
box_shows n a l = record {
  by_seen = λ s es e i st le o.
      let k = like n a l s es st in
      sees_shows s e i ((world n es).knows a i).number ((world n es).knows a i).tag (subst (λ c. 0 < c) (k.real e) o)
      (subst (λ (y : Entry). same_word ((world n es).knows a i) y ≡ true) (k.knows i) (same_self ((world n es).knows a i)));
  by_word = λ s es j t x st h here f o same.
      hears_shows s x t (subst (λ c. 0 < c) ((like n a l s es st).real x.from) o) (subst (λ (y : Entry). same_word x.entry y ≡ true) ((hears_like n a l s es j t x st h here f).knows x.about) same);
  over_road = λ s es e c f i st h o. road_keeps s e c f i h (λ same. let r = o same in (r.0, subst (λ c. 0 < c) ((like n a l s es st).real e) r.1));
  over_says = λ s es t f i st h other. has_keeps s s.me (own_word (s.word s.me).number t s) f i h (λ same. other (same ∙ (like n a l s es st).self));
  over_word = λ s es j t x f i st h here fresh g same.
      hears_keeps s x t f i g (subst₂ (λ (y z : Entry). same_word y z ≡ true) ((like n a l s es st).knows i) ((hears_like n a l s es j t x st h here fresh).knows i) same);
  over_seen = λ s es k j c t f i st h. sees_keeps s k j c t f i h;
}

pub box_is_code_lem : BoxIsCode
box_is_code_lem n a l = (
  box_code n a l,
  record {
    begin = refl;
    road = λ e c s. refl;
    says = λ t s. refl;
    word = λ e i s. refl;
    hears = λ x t s. refl;
    falls = λ s. refl;
    hands_on = λ d s. refl;
    owes = λ s. refl;
    open' = λ e s. refl;
    shown = λ e i s. refl;
    tells = λ e s. refl;
    seen = λ e i c t s. refl;
  },
  box_shows n a l,
)
