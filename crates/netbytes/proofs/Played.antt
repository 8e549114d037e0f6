-- A run that leads to boxes, wires and numbers leads on with each move of one box, and what the box gives out is what is then sent.
use Rattle.std.proofs.Common.{◌≡◌, ℕ, ◌^◌, ◌<◌, ◌≤◌, ◌⊎◌, Bool, true, false, cond, eqb, List, [], ◌∷◌, ◌++◌, Some, None, Option, sym, refl, ap, ◌∙◌, subst, ap₂, arith, append-nil, inl, inr, ne_eqb}
use Rattle.std.specs.List.{flat_map}
use Rattle.model.specs.Flood.{row}
use Rattle.model.specs.Words.{is_in}
use Rattle.linkmodel.specs.Calls.{expired}
use Rattle.linkmodel.specs.Links.{wires}
use Rattle.linkmodel.specs.Station.{Out, Station as Whole, falls, has_costs, tick_out, ticks}
use Rattle.netmodel.specs.Net.{Plug, Net, Move, Ticks, Rewires, Falls, net, small_costs}
use Rattle.node.specs.Book.{Began, Note, Said, book_bytes}
use Rattle.node.specs.Giving.{if_refused, note_of, own_item, said_gives, tick_all_gives, tick_gives, tick_leaves}
use Rattle.node.specs.Turns.{began_gives, fall_gives, fall_leaves}
use Rattle.node.specs.Wires.{out_bytes}
use Rattle.hello.specs.declared.answers.Refusal.TheVariants.{OutOfRange as NoSuch}
use Rattle.station.specs.State.{by_wires, falls_refusal}
use Rattle.station.specs.Ticking.{says_word, ticking_refusal}
use Rattle.station.specs.declared.answers.Refusal.{Refusal as Reason}
use Rattle.netbytes.specs.Playing.{PlaysAt, Posts}
use Rattle.netbytes.proofs.Fresh.{UpTo, next_fresh, none_up, one_up}
use Rattle.netbytes.proofs.Moved.{Moved, row_self, costs_moved, fall_moved, tick_moved}

-- a move of the model is the next of its run
pub next_move : (n : ℕ) (first : ℕ → ℕ) (m : Move) (ms : List Move) (a : ℕ) (s : Whole) (outs : List Out) (ts ds : List ℕ) → Moved (net n first ms) (Rattle.netmodel.specs.Net.move n m (net n first ms)) a s outs ts ds → Moved (net n first ms) (net n first (m ∷ ms)) a s outs ts ds
unfolding net
next_move n first m ms a s outs ts ds k = k

-- one box replaced by the same
row_like : (a b : ℕ) (s r : Whole) (at bt : ℕ → Whole) → s ≡ r → at b ≡ bt b → row a s at b ≡ row a r bt b
row_like a b s r at bt e f = ap₂ (λ (x y : Whole). cond (eqb b a) x y) e f

-- tags and numbers that were drawn then
below : (d e : ℕ) (ts us : List ℕ) (vs : List ℕ) → ((t : ℕ) → is_in t vs ≡ true → (is_in t ts ≡ true) ⊎ (is_in t us ≡ true)) → UpTo e ts → UpTo d us → d ≤ e → UpTo e vs
below d e ts us vs k u v l t h = elim (k t h) [ inl p ↦ u t p | inr p ↦ omega (arith, v t p) ]

-- the run goes on
pub plays_on : (n : ℕ) (first : ℕ → ℕ) (m : Move) (ms : List Move) (at : ℕ → Whole) (j : ℕ → ℕ → Option Plug) (k d e a : ℕ) (s r : Whole) (outs : List Out) (ts ds : List ℕ) →
    PlaysAt n first ms at j k d → Moved (net n first ms) (net n first (m ∷ ms)) a s outs ts ds → r ≡ s → d ≤ e → UpTo e ts → UpTo e ds → PlaysAt n first (m ∷ ms) (row a r at) j k e
plays_on n first m ms at j k d e a s r outs ts ds p q same l ut ud =
    let o = p.now in
    record {
      starts = p.starts;
      now = record {
        boxes = λ b lb. row_like a b r s at (net n first ms).at same (o.boxes b lb) ∙ sym (q.boxes b);
        joined = λ b u. o.joined b u ∙ sym (q.joined b u);
        laid = o.laid ∙ sym q.laid;
        tags = below d e ts (net n first ms).tags (net n first (m ∷ ms)).tags q.tags ut o.tags l;
        drawn = below d e ds (net n first ms).drawn (net n first (m ∷ ms)).drawn q.drawn ud o.drawn l;
      };
    }

-- and so it does where nothing becomes of any box
pub plays_still : (n : ℕ) (first : ℕ → ℕ) (m : Move) (ms : List Move) (at : ℕ → Whole) (j : ℕ → ℕ → Option Plug) (k d a : ℕ) →
    PlaysAt n first ms at j k d → Moved (net n first ms) (net n first (m ∷ ms)) a ((net n first ms).at a) [] [] [] → PlaysAt n first (m ∷ ms) at j k d
plays_still n first m ms at j k d a p q =
    let o = p.now in
    record {
      starts = p.starts;
      now = record {
        boxes = λ b lb. o.boxes b lb ∙ (row_self a (net n first ms).at b ∙ sym (q.boxes b));
        joined = λ b u. o.joined b u ∙ sym (q.joined b u);
        laid = o.laid ∙ sym q.laid;
        tags = below d d [] (net n first ms).tags (net n first (m ∷ ms)).tags q.tags (none_up d) o.tags (omega arith);
        drawn = below d d [] (net n first ms).drawn (net n first (m ∷ ms)).drawn q.drawn (none_up d) o.drawn (omega arith);
      };
    }

-- the same, said otherwise
pub plays_as : (n : ℕ) (first : ℕ → ℕ) (ms : List Move) (at bt : ℕ → Whole) (j i : ℕ → ℕ → Option Plug) (k c d e : ℕ) → PlaysAt n first ms at j k d → ((a : ℕ) → a < n → bt a ≡ at a) → ((a w : ℕ) → i a w ≡ j a w) → c ≡ k → e ≡ d → PlaysAt n first ms bt i c e
plays_as n first ms at bt j i k c d e p f g q r =
    let o = p.now in
    record {
      starts = p.starts;
      now = record {
        boxes = λ a l. f a l ∙ o.boxes a l;
        joined = λ a w. g a w ∙ o.joined a w;
        laid = q ∙ o.laid;
        tags = λ t h. subst (λ (z : ℕ). t ≤ z) (sym r) (o.tags t h);
        drawn = λ t h. subst (λ (z : ℕ). t ≤ z) (sym r) (o.drawn t h);
      };
    }

-- and so it leads where more numbers were drawn
pub plays_later : (n : ℕ) (first : ℕ → ℕ) (ms : List Move) (at : ℕ → Whole) (j : ℕ → ℕ → Option Plug) (k d e : ℕ) → d ≤ e → PlaysAt n first ms at j k d → PlaysAt n first ms at j k e
plays_later n first ms at j k d e l p =
    let o = p.now in
    record {
      starts = p.starts;
      now = record { boxes = o.boxes; joined = o.joined; laid = o.laid; tags = λ t h. omega (arith, o.tags t h); drawn = λ t h. omega (arith, o.drawn t h) };
    }

-- what is given out is sent
pub posts : (n : ℕ) (first : ℕ → ℕ) (m : Move) (ms : List Move) (a tick : ℕ) (s : Whole) (notes : List Note) (outs : List Out) (ts ds given : List ℕ) →
    Moved (net n first ms) (net n first (m ∷ ms)) a s outs ts ds → given ≡ flat_map (book_bytes tick) notes ++ flat_map out_bytes outs → Posts n first m ms a given
posts n first m ms a tick s notes outs ts ds given q g = record { tick = tick; notes = notes; outs = outs; gives = g; sent = q.sent }

-- where nothing is refused
unrefused : {A : Type 0} (o : Option Reason) (f : Reason → A) (x : A) → o ≡ None → if_refused o f x ≡ x
unrefused o f x e = ap (λ (z : Option Reason). if_refused z f x) e

-- a line, if the box said a word
said_lines : (said : Bool) (s : Whole) → said_gives said s ≡ flat_map (note_of s) (cond said (Said (own_item s) ∷ []) [])
said_lines true s = sym (append-nil (note_of s (Said (own_item s))))
said_lines false s = refl

-- what a tick gives out
tick_lines : (t : ℕ) (s : Whole) → ticking_refusal s ≡ None → tick_all_gives t s ≡ flat_map (book_bytes (ticks t s).links.tick) (cond (says_word (expired s)) (Said (own_item (ticks t s)) ∷ []) []) ++ flat_map out_bytes (tick_out (ticks t s))
tick_lines t s e = unrefused (ticking_refusal s) _ (tick_gives (says_word (expired s)) (ticks t s)) e ∙ ap (λ (z : List ℕ). z ++ flat_map out_bytes (tick_out (ticks t s))) (said_lines (says_word (expired s)) (ticks t s))

-- box a ticks, under the next tag
pub plays_tick : (n : ℕ) (first : ℕ → ℕ) (ms : List Move) (at : ℕ → Whole) (j : ℕ → ℕ → Option Plug) (k d a t : ℕ) (s r : Whole) (given : List ℕ) →
    PlaysAt n first ms at j k d → a < n → s ≡ at a → d < t → t < 2 ^ 64 → ticking_refusal s ≡ None → r ≡ tick_leaves t s → given ≡ tick_all_gives t s → PlaysAt n first (Ticks a t ∷ ms) (row a r at) j k t × Posts n first (Ticks a t) ms a given
plays_tick n first ms at j k d a t s r given p l same above small free is g =
    let x : Net = net n first ms in
    let e : s ≡ x.at a = same ∙ p.now.boxes a l in
    let q : Moved x (net n first (Ticks a t ∷ ms)) a (ticks t (x.at a)) (tick_out (ticks t (x.at a))) (t ∷ []) [] = next_move n first (Ticks a t) ms a _ _ _ _ (tick_moved n x a t l (next_fresh t d x.tags p.now.tags above small)) in (
      plays_on n first (Ticks a t) ms at j k d t a (ticks t (x.at a)) r (tick_out (ticks t (x.at a))) (t ∷ []) [] p q
          (is ∙ unrefused (ticking_refusal s) (λ _. s) (ticks t s) free ∙ ap (ticks t) e) (omega arith) (one_up t t (omega arith)) (none_up t),
      posts n first (Ticks a t) ms a (ticks t s).links.tick (ticks t (x.at a)) (cond (says_word (expired s)) (Said (own_item (ticks t s)) ∷ []) []) (tick_out (ticks t (x.at a))) (t ∷ []) [] given q
          (g ∙ tick_lines t s free ∙ ap (λ (z : Whole). flat_map (book_bytes (ticks t s).links.tick) (cond (says_word (expired s)) (Said (own_item (ticks t s)) ∷ []) []) ++ flat_map out_bytes (tick_out (ticks t z))) e),
    )

-- a number that isn't 0 isn't refused
some_number : (d : ℕ) → 0 < d → falls_refusal d ≡ None
some_number d l = ap (λ (b : Bool). by_wires (cond b (Some NoSuch) None)) (ne_eqb d 0 (omega arith))

-- box a falls, and draws the next number
pub plays_fall : (n : ℕ) (first : ℕ → ℕ) (ms : List Move) (at : ℕ → Whole) (j : ℕ → ℕ → Option Plug) (k d a t : ℕ) (s r : Whole) (given : List ℕ) →
    PlaysAt n first ms at j k d → a < n → s ≡ at a → d < t → t < 2 ^ 64 → r ≡ fall_leaves t s → given ≡ fall_gives t s → PlaysAt n first (Falls a t ∷ ms) (row a r at) j k t × Posts n first (Falls a t) ms a given
plays_fall n first ms at j k d a t s r given p l same above small is g =
    let x : Net = net n first ms in
    let e : s ≡ x.at a = same ∙ p.now.boxes a l in
    let free : falls_refusal t ≡ None = some_number t (omega arith) in
    let q : Moved x (net n first (Falls a t ∷ ms)) a (falls t (x.at a)) [] [] (t ∷ []) = next_move n first (Falls a t) ms a _ _ _ _ (fall_moved n x a t l (omega arith) (next_fresh t d x.drawn p.now.drawn above small)) in (
      plays_on n first (Falls a t) ms at j k d t a (falls t (x.at a)) r [] [] (t ∷ []) p q
          (is ∙ unrefused (falls_refusal t) (λ _. s) (falls t s) free ∙ ap (falls t) e) (omega arith) (none_up t) (one_up t t (omega arith)),
      posts n first (Falls a t) ms a (falls t s).links.tick (falls t (x.at a)) (Began (falls t s).links.n (falls t s).links.me ∷ []) [] [] (t ∷ []) given q
          (g ∙ unrefused (falls_refusal t) _ (began_gives (falls t s)) free ∙ (sym (append-nil (began_gives (falls t s))) ∙ sym (append-nil (began_gives (falls t s) ++ [])))),
    )

-- its wires cost otherwise
pub plays_costs : (n : ℕ) (first : ℕ → ℕ) (ms : List Move) (at : ℕ → Whole) (j : ℕ → ℕ → Option Plug) (k d a : ℕ) (c : ℕ → ℕ) (s r : Whole) (given : List ℕ) →
    PlaysAt n first ms at j k d → a < n → s ≡ at a → small_costs c wires ≡ true → r ≡ has_costs c s → given ≡ [] → PlaysAt n first (Rewires a c ∷ ms) (row a r at) j k d × Posts n first (Rewires a c) ms a given
plays_costs n first ms at j k d a c s r given p l same small is g =
    let x : Net = net n first ms in
    let e : s ≡ x.at a = same ∙ p.now.boxes a l in
    let q : Moved x (net n first (Rewires a c ∷ ms)) a (has_costs c (x.at a)) [] [] [] = next_move n first (Rewires a c) ms a _ _ _ _ (costs_moved n x a c l small) in (
      plays_on n first (Rewires a c) ms at j k d d a (has_costs c (x.at a)) r [] [] [] p q (is ∙ ap (has_costs c) e) (omega arith) (none_up d) (none_up d),
      posts n first (Rewires a c) ms a 0 (has_costs c (x.at a)) [] [] [] [] given q g,
    )
